-- States by their numbers, and the words of rows and match words, as the code meets them.
use Rattle.std.specs.Prelude.{ℕ, ◌+◌, ◌*◌, ◌≤◌, ◌<◌, cond, List, [], eqb, length, get_or, drop, Option}
use Rattle.rewriting.specs.Rules.{Rule, rule}
use Rattle.rewriting.specs.Occurrences.{lowest}
use Rattle.layout.specs.States.{state, starts, symbols_in, has_mark, states}

-- the number of the empty string, the root of the trie: "state 1 the empty string", or "State 0"
unfoldable pub root : List Rule → ℕ
root rules = cond (has_mark rules) 1 0

-- the string of state c
abbrev pub text : List Rule → ℕ → List ℕ
text rules c = get_or (states rules) c []

-- no left side has more than n symbols
abbrev pub NoLonger : ℕ → List Rule → Type 0
NoLonger n rules = (i : ℕ) → i < length rules → length (rule rules i).left ≤ n

-- n is the number of symbols of the longest left side, and 0 where there is no rule
pub record Longest (n : ℕ) (rules : List Rule) : Type 0 where
  pub covers : NoLonger n rules
  pub least : (m : ℕ) → NoLonger m rules → n ≤ m

-- the lowest rule whose left side is v itself, the mark included
unfoldable pub own : List Rule → List ℕ → Option ℕ
own rules v = lowest rules (starts v) (symbols_in v)

-- the failure state of v, a state other than the empty one: the state of v without its first symbol
abbrev pub failure_state : List Rule → List ℕ → List ℕ
failure_state rules v = state rules (drop 1 v)

-- the next state of q on symbol a, in rows of so many symbols
abbrev pub transition : List ℕ → ℕ → ℕ → ℕ → ℕ
transition rows symbols q a = get_or rows (q * symbols + a) 0

-- a word of a state's own, or where that is 0 its failure state's
abbrev pub own_or : ℕ → ℕ → ℕ
own_or own other = cond (eqb own 0) other own
