-- The tests that a lent table is checked by, in place: each state against its parent, its failure state and its node of
-- the trie. A table passes them all exactly where it is the rules' (`right_passes` and `right_root`, proofs/RightPasses.antt;
-- `consistent_right`, proofs/PassesRight.antt).
use Rattle.std.specs.Prelude.{ℕ, ◌<◌, ◌≡◌, not, List, eqb, length, get_or}
use Rattle.rewriting.specs.Rules.{Rule}
use Rattle.layout.specs.States.{states, number, next, matching}
use Rattle.layout.specs.Table.{match_word}
use Rattle.layout.specs.Words.{text, transition, own_or}
use Rattle.trie.specs.declared.Node.{Node}
use Rattle.trie.specs.Nodes.{parent, symbol, children, matched, failure, tally, failure_by}

-- in how many words the row of q differs from others
abbrev pub unlike : List ℕ → ℕ → ℕ → (ℕ → ℕ) → ℕ
unlike rows symbols q other = tally (λ a. not (eqb (transition rows symbols q a) (other a))) symbols

-- in how many words the rows of q and f differ
unfoldable pub differing : List ℕ → ℕ → ℕ → ℕ → ℕ
differing rows symbols q f = tally (λ a. not (eqb (transition rows symbols q a) (transition rows symbols f a))) symbols

-- how many words of the root's row lead away from it
unfoldable pub leaving : List ℕ → ℕ → ℕ → ℕ
leaving rows symbols root = tally (λ a. not (eqb (transition rows symbols root a) root)) symbols

-- The tests of state q, behind the root, whose failure state its node holds: its parent leads to it; its match word
-- is its own or its failure state's; its row differs from its failure state's in as many words as it has children.
pub record Passes (t : List Node) (matches rows : List ℕ) (symbols q : ℕ) : Type 0 where
  pub led : transition rows symbols (parent t q) (symbol t q) ≡ q
  pub inherits : get_or matches q 0 ≡ own_or (matched t q) (get_or matches (failure t q) 0)
  pub differs : differing rows symbols q (failure t q) ≡ children t q

-- state q passes its tests, and its node holds a failure state that is a state, by its parent's
pub record Passed (t : List Node) (matches rows : List ℕ) (symbols root n q : ℕ) : Type 0 where
  pub failing : failure t q ≡ failure_by t rows symbols root q
  pub inside : failure t q < n
  pub passing : Passes t matches rows symbols q

-- the tests of the root
pub record RootPassed (t : List Node) (matches rows : List ℕ) (symbols root : ℕ) : Type 0 where
  pub no_match_lem : get_or matches root 0 ≡ 0
  pub leads : leaving rows symbols root ≡ children t root

-- the tests of the mark alone, where it is state 0: no state leads to it, and the root is its failure state
pub record MarkPassed (t : List Node) (matches rows : List ℕ) (symbols root : ℕ) : Type 0 where
  pub no_match_lem : get_or matches 0 0 ≡ 0
  pub differs : differing rows symbols 0 root ≡ children t 0

-- match words and rows are those of the rules' table
pub record RightTable (rules : List Rule) (symbols : ℕ) (matches rows : List ℕ) : Type 0 where
  pub right_next : (c a : ℕ) → c < length (states rules) → a < symbols
      → transition rows symbols c a ≡ number (states rules) (next rules (text rules c) a)
  pub right_match : (c : ℕ) → c < length (states rules)
      → get_or matches c 0 ≡ match_word (matching rules (text rules c))
