-- `trie::rows::longest` meets its contract. The loop's invariant: no left side of the rules before `i` is longer than `most`, and
-- that is the least such number.
use Prim.Native.Nat.{ℕ, ◌+◌, ◌≤◌, ◌<◌}
use mathlib.Core.Logic.{◌⊎◌, inl, inr}
use mathlib.Core.Path.{◌≡◌, refl}
use mathlib.Core.Bool.{Bool, true, false, cond}
use lib.Dec.{ltb}
use borrow.Author.Tests.{ltb-true, ltb-false}
use Rattle.std.specs.Ordering.{nat_cmp, ord_max, is_lt}
use Rattle.std.specs.Prelude.{◌==◌}
use Rattle.std.specs.declared.cmp.Ordering.TheVariants.{Less, Equal, Greater}
use mathlib.Core.List.{List}
use native.Mathlib.Omega.{arith}
use lib.ListN.{length}
use borrow.Author.Rules.{rules}
use Rattle.rewriting.specs.Rules.{Rule, rule}
use Rattle.rewriting.proofs.Lists.{last_or}
use Rattle.rewriting.proofs.Ranges.{ranges, rule_at_lem}
use Rattle.image.specs.Sets.{set_of}
use Rattle.layout.proofs.Image.{valid-in_range}
use Rattle.trie.proofs.rows.longest.Invariants.{NoLongerBefore}
use Rattle.trie.proofs.rows.longest.Goals as goal

longer : (i : ℕ) (rules : List Rule) (n m : ℕ) → NoLongerBefore i rules n → n ≤ m → length (rule rules i).left ≤ m
    → NoLongerBefore (i + 1) rules m
longer i rules n m all h this k l = go (last_or i k (omega arith))
  where
    go : (k < i) ⊎ (k ≡ i) → length (rule rules k).left ≤ m
    go (inl before) = omega (arith, all k before)
    go (inr e) = rw e this

-- what `max` gives is the least number that neither is larger than
larger : (a b : ℕ) → (a ≤ ord_max nat_cmp a b) × (b ≤ ord_max nat_cmp a b) × ((m : ℕ) → a ≤ m → b ≤ m → ord_max nat_cmp a b ≤ m)
larger a b = go (ltb b a) (b == a) refl
  where
    largest : Bool → Bool → ℕ
    largest x y = cond (is_lt (cond x Less (cond y Equal Greater))) a b

    go : (x y : Bool) → ltb b a ≡ x → (a ≤ largest x y) × (b ≤ largest x y) × ((m : ℕ) → a ≤ m → b ≤ m → largest x y ≤ m)
    go true y e = (omega arith, omega (arith, ltb-true b a e), λ m h k. h)
    go false true e = (omega (arith, ltb-false b a e), omega arith, λ m h k. k)
    go false false e = (omega (arith, ltb-false b a e), omega arith, λ m h k. k)

pub loop-i-preserved : goal.loop-i-preserved
loop-i-preserved c =
    let set = set_of c.args.image in
    let i = c.loop-i.i in
    let is_rule : i < length (set).rules = omega (arith, c.rules-i-end.ensures) in
    let own = rule_at_lem (set) (ranges (set) (valid-in_range c.args.image.bytes.now c.args.image.valid)) i is_rule in
    let long = c.left_length.ensures in
    let most = rw (← c.max-most.ensures) at (larger c.loop-i.most c.left_length.result) in (
      most.2 8 c.loop-i.invariant.0 (omega (arith, own.short_left, long)),
      longer i (set).rules c.loop-i.most c.max-most.result c.loop-i.invariant.1 most.0 (omega (arith, long, most.1)),
      λ m all. most.2 m (c.loop-i.invariant.2 m (λ k h. all k (omega arith))) (omega (arith, all i (omega arith), long)),
    )
