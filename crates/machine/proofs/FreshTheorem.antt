-- What fresh does, on whatever areas.
-- Assumes nothing.
use Prim.Native.Nat.{ℕ}
use mathlib.Core.Path.{◌≡◌, refl}
use mathlib.Core.Bool.{Bool, true, false, cond, ◌&&◌}
use Rattle.std.specs.Prelude.{None, Some}
use native.Mathlib.Omega.{arith}
use lib.Dec.{eqb}
use lib.ListN.{length}
use borrow.Author.Tests.{eqb-true, eq-eqb}
use Rattle.rewriting.proofs.Lists.{and_both, and_left, and_right}
use Rattle.layout.specs.Refusals.{refusal}
use Rattle.machine.specs.State.{empty}
use Rattle.machine.specs.Areas.{head_of}
use Rattle.machine.specs.Calls.{sized, freshened, fresh_of}
use Rattle.machine.specs.Promise.{FreshBegins}
use Rattle.machine.proofs.Areas.{fresh-written}

pub fresh_theorem : FreshBegins
unfolding fresh_of freshened sized refusal
fresh_theorem capacity bytes words =
    record {
      takes = (λ e. lengths (a && b) refl e, λ h. rw (and_both (eq-eqb _ _ h.0) (eq-eqb _ _ h.1)));
      taken = λ e rules. fresh-written rules capacity bytes words e;
      refused = λ n e. is_refused n (a && b) e;
    }
  where
    a : Bool
    a = eqb (length bytes) capacity

    b : Bool
    b = eqb (length words) capacity

    lengths : (c : Bool) → (a && b) ≡ c → (freshened capacity bytes words (cond c None (Some 10))).refused ≡ None
        → (length bytes ≡ capacity) × (length words ≡ capacity)
    lengths true p e = (eqb-true _ _ (and_left a b p), eqb-true _ _ (and_right a b p))
    lengths false p e = let z : ◌≡◌ {A = ℕ} 0 1 = cc in absurd (omega arith)

    is_refused : (n : ℕ) (c : Bool) → (freshened capacity bytes words (cond c None (Some 10))).refused ≡ Some n
        → (n ≡ 10) × ((freshened capacity bytes words (cond c None (Some 10))).monitor
        ≡ record { head = head_of empty; bytes = bytes; words = words })
    is_refused n true e = let z : ◌≡◌ {A = ℕ} 0 1 = cc in absurd (omega arith)
    is_refused n false e = (cc, refl)
