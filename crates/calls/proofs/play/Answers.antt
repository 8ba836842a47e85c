-- `play` meets its contract, by what its two checks say; demand 3 by the theorem about every list of calls.
use Prim.Native.Nat.{ℕ}
use mathlib.Core.Path.{◌≡◌, sym, ap, ◌∙◌}
use Rattle.std.specs.Prelude.{Option, None, Some, Result}
use native.Mathlib.Omega.{arith}
use Rattle.layout.specs.declared.Refusal.{Refusal}
use Rattle.layout.specs.Refusals.{refused_by, numbered}
use Rattle.calls.proofs.Demand.{not_a_list, not-fresh, is_played, demand}
use Rattle.calls.proofs.play.Goals as goal

-- the refusal that the code's answer is
abbrev taken_as : Result (Unit {0}) Refusal → Option ℕ
taken_as r = refused_by (numbered r)

refused_is : {n : ℕ} → ◌≡◌ (Some n) None → ⊥
refused_is p = let z : ◌≡◌ {A = ℕ} 0 1 = cc in absurd (omega arith)

pub returns-then-not-is_list : goal.returns-then-not-is_list
unfolding refused_by
returns-then-not-is_list c = record {
  outcome = rw c.refused.ensures (not_a_list _ _ _ _ _ _ (sym c.is_list.ensures ∙ c.if-not-is_list.true));
  promise = λ p. absurd (refused_is (rw c.refused.ensures at p));
}

pub made_all-requires : goal.made_all-requires
made_all-requires c =
    sym c.is_list.ensures ∙ c.if-not-is_list.false

pub returns-in-Err : goal.returns-in-Err
unfolding refused_by
returns-in-Err c =
    let list = sym c.is_list.ensures ∙ c.if-not-is_list.false in record {
      outcome = rw c.refused-in-Err.ensures
          (not-fresh _ _ _ _ _ _ list _ c.fresh-begun.ensures _ (ap taken_as c.in-Err.is));
      promise = λ p. absurd (refused_is (rw c.refused-in-Err.ensures at p));
    }

pub returns-in-Ok : goal.returns-in-Ok
unfolding refused_by
returns-in-Ok c =
    let list = sym c.is_list.ensures ∙ c.if-not-is_list.false in
    let taken = ap taken_as c.in-Ok.is in record {
      outcome = c.made_all.ensures ∙ is_played _ _ _ _ _ _ list _ c.fresh-begun.ensures taken;
      promise = λ _. demand _ _ _ _ _ _ _ _ _ _ c.fresh-begun.ensures taken c.made_all.ensures;
    }
