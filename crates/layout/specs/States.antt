-- States of the matching table. A state is a string here, and gets its number only where the table is written.
-- Document 02, No. 1: "When an image has a marked rule, the mark counts in the table as a symbol that stands before the string".
use Rattle.std.specs.Prelude.{ℕ, suc, Bool, false, cond, eqb, Option}
use mathlib.Core.List.{List, [], ◌∷◌, ◌++◌, map, flat_map}
use Rattle.rewriting.specs.Lists.{any, same, prefix}
use Rattle.rewriting.specs.Rules.{Rule}
use Rattle.rewriting.specs.Occurrences.{ending}

-- the mark: a number that no symbol has
abbrev pub mark : ℕ
mark = 32

-- a left side as the table sees it, with the mark before it or without
unfoldable pub pattern : Rule → List ℕ
pattern r = cond r.marked (mark ∷ r.left) r.left

-- "a prefix of some left side"
unfoldable pub is_prefix : List Rule → List ℕ → Bool
is_prefix rules v = any (λ r. prefix v (pattern r)) rules

-- the state that a string leads to: its "longest suffix .. that is a prefix of some left side"
unfoldable pub state : List Rule → List ℕ → List ℕ
state rules [] = []
state rules (x ∷ p) = cond (is_prefix rules (x ∷ p)) (x ∷ p) (state rules p)

-- "The next state of q on symbol a is the longest suffix of q's string with a added that is a prefix of some left side."
unfoldable pub next : List Rule → List ℕ → ℕ → List ℕ
next rules q a = state rules (q ++ a ∷ [])

-- the state after the string s: "a symbol that stands before the string" is the mark. Without a marked rule the mark begins
-- nothing, and this is the state of s alone (`unmarked_state`, proofs/Unmarked.antt).
abbrev pub after : List Rule → List ℕ → List ℕ
after rules s = state rules (mark ∷ s)

-- whether the mark stands first in v, and v without it
unfoldable pub starts : List ℕ → Bool
starts [] = false
starts (x ∷ v) = eqb x mark

unfoldable pub symbols_in : List ℕ → List ℕ
symbols_in [] = []
symbols_in (x ∷ v) = cond (eqb x mark) v (x ∷ v)

-- the rule that state q matches: "the rule with the longest left side that is a suffix of q's string, the lowest rule
-- among equals", a marked one before an unmarked one. That is the choice among occurrences that end together (`ending_longest`,
-- rewriting/proofs/Redex.antt).
unfoldable pub matching : List Rule → List ℕ → Option ℕ
matching rules q = ending rules (starts q) (symbols_in q)

-- the prefixes of a left side, "short before long", but for the empty one
unfoldable pub prefixes : List ℕ → List (List ℕ)
prefixes [] = []
prefixes (x ∷ l) = (x ∷ []) ∷ map (λ v. x ∷ v) (prefixes l)

-- v stands among the states known so far
unfoldable pub known : List (List ℕ) → List ℕ → Bool
known states v = any (λ u. same u v) states

-- v "gets the next number when new"
unfoldable pub numbered : List (List ℕ) → List (List ℕ) → List (List ℕ)
numbered states [] = states
numbered states (v ∷ vs) = numbered (cond (known states v) states (states ++ v ∷ [])) vs

-- some rule has the mark
unfoldable pub has_mark : List Rule → Bool
has_mark rules = any (λ r. r.marked) rules

-- "state 0 is the mark alone, state 1 the empty string"; without a marked rule "State 0 is the empty string."
unfoldable pub first_states : List Rule → List (List ℕ)
first_states rules = cond (has_mark rules) ((mark ∷ []) ∷ [] ∷ []) ([] ∷ [])

-- "N may be 514"
abbrev pub states_most : ℕ
states_most = 514

-- The states in order of their numbers: behind the first "Rules are walked in order, and each prefix of a left side, short before
-- long, gets the next number when new". There are at most `states_most` (`few_states`, proofs/States.antt).
unfoldable pub states : List Rule → List (List ℕ)
states rules = numbered (first_states rules) (flat_map (λ r. prefixes (pattern r)) rules)

-- the number of state v: its place in the list of states
unfoldable pub number : List (List ℕ) → List ℕ → ℕ
number [] v = 0
number (u ∷ states) v = cond (same u v) 0 (suc (number states v))
