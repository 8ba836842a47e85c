-- The test that a verdict is that of its rule, by what the code reads.
-- Assumes nothing.
use Rattle.std.specs.Prelude.{Option, None, Some}
use Prim.Native.Nat.{ℕ, ◌≤◌, ◌<◌}
use mathlib.Core.Path.{◌≡◌, refl, sym, ◌∙◌}
use mathlib.Core.Bool.{false, and-false}
use mathlib.Core.List.{List}
use native.Mathlib.Omega.{arith}
use lib.Dec.{eqb}
use lib.ListN.{length}
use borrow.Author.Tests.{lt-ltb, le-ltb}
use Rattle.rewriting.specs.Rules.{Right, Put, Close, Rule, rule}
use Rattle.layout.specs.declared.RightSide.{RightSide}
use Rattle.layout.specs.Places.{right_side_of}
use Rattle.machine.specs.Areas.{closes_with, stands_by}

closes_put : (v n : ℕ) (x : Right) → right_side_of x ≡ RightSide.Put n → closes_with v x ≡ false
unfolding right_side_of closes_with
closes_put v n (Put w) e = refl
closes_put v n (Close u) e = let z : ◌≡◌ {A = ℕ} 0 1 = cc in absurd (omega arith)

closes_close : (v u : ℕ) (x : Right) → right_side_of x ≡ RightSide.Close u → closes_with v x ≡ eqb v u
unfolding right_side_of closes_with
closes_close v u (Put w) e = let z : ◌≡◌ {A = ℕ} 0 1 = cc in absurd (omega arith)
closes_close v u (Close w) e = let same : w ≡ u = cc in rw same

module _ (rules : List Rule) (i : ℕ) {s : Option ℕ} where
  pub stands_none : s ≡ None → eqb i 0 ≡ stands_by rules s i
  unfolding stands_by
  stands_none e = rw e

  pub stands_no_rule : (v : ℕ) → s ≡ Some v → length rules ≤ i → false ≡ stands_by rules s i
  unfolding stands_by
  stands_no_rule v e h = rw (e, le-ltb i (length rules) h)

  module _ {x : RightSide} (read : x ≡ right_side_of (rule rules i).right) (v : ℕ) (e : s ≡ Some v) where
    pub stands_put : (n : ℕ) → x ≡ RightSide.Put n → false ≡ stands_by rules s i
    unfolding stands_by
    stands_put n p = rw (e, closes_put v n (rule rules i).right (sym read ∙ p), and-false)

    pub stands_close : (u : ℕ) → x ≡ RightSide.Close u → i < length rules → eqb v u ≡ stands_by rules s i
    unfolding stands_by
    stands_close u p h = rw (e, closes_close v u (rule rules i).right (sym read ∙ p), lt-ltb i (length rules) h)
