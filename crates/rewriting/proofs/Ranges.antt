-- What `in_range` says of a rule set, number by number.
-- Assumes nothing.
use Prim.Native.Nat.{ℕ, ◌≤◌, ◌<◌}
use mathlib.Core.Path.{◌≡◌, refl}
use mathlib.Core.Bool.{Bool, true, ◌&&◌}
use mathlib.Core.List.{[]}
use native.Mathlib.Omega.{arith}
use lib.Dec.{leb}
use lib.ListN.{length, get_or}
use borrow.Author.Tests.{leb-true}
use Rattle.rewriting.specs.Lists.{all, below, between}
use Rattle.rewriting.specs.Rules.{Right, Put, Close, symbols_of, Rule, ◌⇒◌, RuleSet, rule, right_in_range, rule_in_range}
use Rattle.rewriting.specs.Rules.{in_range}
use Rattle.rewriting.proofs.Lists.{and_left, and_right, all_at, between_low, between_high}

-- a right side in range has at most 8 symbols, each below S
pub length_right : (set : RuleSet) (x : Right) → right_in_range set x ≡ true → length (symbols_of x) ≤ 8
unfolding right_in_range symbols_of
length_right set (Put v) e = leb-true (length v) 8 (and_left (leb (length v) 8) (below set.symbols v) e)
length_right set (Close v) e = omega arith

pub right_below : (set : RuleSet) (x : Right) → right_in_range set x ≡ true → below set.symbols (symbols_of x) ≡ true
unfolding right_in_range symbols_of
right_below set (Put v) e = and_right (leb (length v) 8) (below set.symbols v) e
right_below set (Close v) e = refl

-- a left side has 1..8 symbols, each below S, and its right side is in range
pub record RuleRanges (set : RuleSet) (r : Rule) : Type 0 where
  pub some_left : 1 ≤ length r.left
  pub short_left : length r.left ≤ 8
  pub left_below : below set.symbols r.left ≡ true
  pub right_in_range_lem : right_in_range set r.right ≡ true

pub rule_ranges : (set : RuleSet) (r : Rule) → rule_in_range set r ≡ true → RuleRanges set r
unfolding rule_in_range
rule_ranges set r e =
    let lengths : Bool = between 1 (length r.left) 8 in
    let symbols : Bool = below set.symbols r.left in
    let right : Bool = right_in_range set r.right in
    let sides : (lengths && symbols) ≡ true = and_left (lengths && symbols) right e in
    let long : lengths ≡ true = and_left lengths symbols sides in
    record {
      some_left = between_low 1 (length r.left) 8 long;
      short_left = between_high 1 (length r.left) 8 long;
      left_below = and_right lengths symbols sides;
      right_in_range_lem = and_right (lengths && symbols) right e;
    }

pub record Ranges (set : RuleSet) : Type 0 where
  pub some-symbol : 1 ≤ set.symbols
  pub few_symbols : set.symbols ≤ 32
  pub some-event : 1 ≤ set.events
  pub few_events : set.events ≤ set.symbols
  pub some_verdicts : 2 ≤ set.verdicts
  pub few_verdicts : set.verdicts ≤ 16
  pub few_rules : length set.rules ≤ 64
  pub all_rules : all (rule_in_range set) set.rules ≡ true

pub ranges : (set : RuleSet) → in_range set ≡ true → Ranges set
unfolding in_range
ranges set e =
    let s : Bool = between 1 set.symbols 32 in
    let v : Bool = between 1 set.events set.symbols in
    let w : Bool = between 2 set.verdicts 16 in
    let n : Bool = leb (length set.rules) 64 in
    let each : Bool = all (rule_in_range set) set.rules in
    let e₁ : (s && v && w && n) ≡ true = and_left (s && v && w && n) each e in
    let e₂ : (s && v && w) ≡ true = and_left (s && v && w) n e₁ in
    let e₃ : (s && v) ≡ true = and_left (s && v) w e₂ in
    record {
      some-symbol = between_low 1 set.symbols 32 (and_left s v e₃);
      few_symbols = between_high 1 set.symbols 32 (and_left s v e₃);
      some-event = between_low 1 set.events set.symbols (and_right s v e₃);
      few_events = between_high 1 set.events set.symbols (and_right s v e₃);
      some_verdicts = between_low 2 set.verdicts 16 (and_right (s && v) w e₂);
      few_verdicts = between_high 2 set.verdicts 16 (and_right (s && v) w e₂);
      few_rules = leb-true (length set.rules) 64 (and_right (s && v && w) n e₁);
      all_rules = and_right (s && v && w && n) each e;
    }

-- the rule with number i, of a rule set in range
pub rule_at_lem : (set : RuleSet) → Ranges set → (i : ℕ) → i < length set.rules → RuleRanges set (rule set.rules i)
unfolding rule
rule_at_lem set h i lt =
    rule_ranges set (get_or set.rules i ([] ⇒ Put []))
    (all_at (rule_in_range set) set.rules ([] ⇒ Put []) h.all_rules i lt)
