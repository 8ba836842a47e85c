-- Demand 1, of every call on whatever is lent.
-- Assumes nothing.
use Prim.Native.Nat.{ℕ}
use mathlib.Core.Path.{◌≡◌, refl}
use mathlib.Core.Bool.{true}
use Rattle.std.specs.Prelude.{Option, None, Some, Ok, Err}
use mathlib.Core.List.{List, ◌++◌, map}
use native.Mathlib.Omega.{arith}
use Rattle.rewriting.specs.Rules.{RuleSet}
use Rattle.rewriting.proofs.Ranges.{Ranges, ranges}
use Rattle.layout.specs.Image.{read, valid}
use Rattle.layout.specs.Refusals.{Check, refusal, refused_by}
use Rattle.layout.proofs.Image.{valid-in_range}
use Rattle.layout.proofs.Refusals.{refusal_passed, refusal_none_left, refusal-number}
use Rattle.machine.specs.Run.{Run, no_counts, run}
use Rattle.machine.specs.Areas.{Monitor, state_of}
use Rattle.machine.specs.Calls.{Call, Offer, GoOn, fuel_of, lent_checks, fuel_check, verdict_check, call_checks, offered, outcome}
use Rattle.machine.specs.Calls.{decided, call_of}
use Rattle.machine.specs.Promise.{refusals_of, Ended, DemandOne}
use Rattle.machine.proofs.Machine.{reaches_counts}
use Rattle.machine.proofs.Runs.{Ran, ran}
use Rattle.machine.proofs.Areas.{state_back}

-- the checks of a call have the numbers that document 01 gives them
check_numbers : (capacity : ℕ) (image table : List ℕ) (m : Monitor) (c : Call)
    → map (λ (x : Check). x.1) (lent_checks capacity image table m ++ call_checks (read image) capacity m.head c) ≡ refusals_of c
unfolding lent_checks call_checks fuel_check verdict_check
check_numbers capacity image table m (Offer event fuel) = refl
check_numbers capacity image table m (GoOn fuel) = refl

pub call_theorem : DemandOne
unfolding call_of decided outcome refused_by no_counts lent_checks
call_theorem capacity image table m c = go (refusal checks) refl
  where
    set : RuleSet
    set = read image

    checks : List Check
    checks = lent_checks capacity image table m ++ call_checks set capacity m.head c

    r : Run
    r = run set.rules capacity (fuel_of c) (offered (state_of m) c)

    done : Ran set.rules capacity (fuel_of c) (offered (state_of m) c) r
    done = ran set.rules capacity (fuel_of c) (offered (state_of m) c)

    good : refusal checks ≡ None → valid image ≡ true
    good e = refusal_passed _ _ _ (refusal_none_left (lent_checks capacity image table m) _ e)

    go : (o : Option ℕ) → refusal checks ≡ o → Ended set.rules capacity m c (outcome set capacity m o r)
    go (Some n) e =
        record {
          steps = omega arith;
          rewrites = omega arith;
          put = omega arith;
          refused = λ k (p : Some n ≡ Some k).
              let q : n ≡ k = cc in
              rw (← q) (rw (check_numbers capacity image table m c) at (refusal-number checks n e), refl);
          stopped = λ a (p : Err n ≡ Ok a). let z : ◌≡◌ {A = ℕ} 0 1 = cc in absurd (omega arith);
        }
    go None e =
        let h : Ranges set = ranges set (valid-in_range image (good e)) in
        record {
          steps = done.within;
          rewrites = (reaches_counts set h done.reached).0;
          put = (reaches_counts set h done.reached).1;
          refused = λ k (p : None ≡ Some k). let z : ◌≡◌ {A = ℕ} 0 1 = cc in absurd (omega arith);
          stopped = λ a (p : Ok r.answer ≡ Ok a).
              let q : r.answer ≡ a = cc in
              rw (state_back set.rules capacity r.state, ← q) done.stops;
        }
