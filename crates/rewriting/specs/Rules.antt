-- Rules and rule sets, and the ranges that document 01 gives them.
use Rattle.std.specs.Prelude.{ℕ, Bool, true, false, ◌&&◌, List, [], leb, ltb, length, get_or}
use Rattle.rewriting.specs.Lists.{all, below, between}

-- "A right side is a string of 0..8 symbols or a verdict 0..V−1": the symbols that it puts in, or the verdict that it
-- closes with; "verdict 0 is fail, 1 succeed."
pub data Right : Type 0 where
  Put : List ℕ → Right
  Close : ℕ → Right

-- the symbols that a right side puts in: none for a verdict
unfoldable pub symbols_of : Right → List ℕ
symbols_of (Put v) = v
symbols_of (Close v) = []

-- left side → right side. Document 02, No. 1: with a mark, the left side "occurs only at the string's first symbol".
pub record Rule : Type 0 where
  pub marked : Bool
  pub left : List ℕ
  pub right : Right

-- a rule without a mark, and the same with one
infix 20 ◌⇒◌
abbrev pub ◌⇒◌ : List ℕ → Right → Rule
left ⇒ right = record { marked = false; left = left; right = right }

abbrev pub at_start : Rule → Rule
at_start r = record { marked = true; left = r.left; right = r.right }

-- "A symbol is a number 0..S−1 ..; the first E .. are events. There are 0..64 rules": S, E, V, and the rules in their order
pub record RuleSet : Type 0 where
  pub symbols : ℕ
  pub events : ℕ
  pub verdicts : ℕ
  pub rules : List Rule

-- "numbered from 0": the rule with number i. Beyond the last both sides are empty, so that it closes with no verdict.
unfoldable pub rule : List Rule → ℕ → Rule
rule rules i = get_or rules i ([] ⇒ Put [])

-- "a string of 0..8 symbols or a verdict 0..V−1"
unfoldable pub right_in_range : RuleSet → Right → Bool
right_in_range set (Put v) = leb (length v) 8 && below set.symbols v
right_in_range set (Close v) = ltb v set.verdicts

-- "A left side has 1..8 symbols."
unfoldable pub rule_in_range : RuleSet → Rule → Bool
rule_in_range set r = between 1 (length r.left) 8 && below set.symbols r.left && right_in_range set r.right

-- "S 1..32; the first E (1..S) are events. There are 0..64 rules .. V 2..16"
unfoldable pub in_range : RuleSet → Bool
in_range set =
    between 1 set.symbols 32
    && between 1 set.events set.symbols
    && between 2 set.verdicts 16
    && leb (length set.rules) 64
    && all (rule_in_range set) set.rules
