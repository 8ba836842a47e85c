-- What a run does, whatever the rules, the capacity, the fuel and the state: it takes steps of the machine, at most as
-- many as it has fuel for, keeps within the capacity, and stops where its answer says.
-- Assumes nothing.
use Prim.Native.Nat.{ℕ, zero, suc, ◌≤◌, ◌<◌}
use mathlib.Core.Path.{◌≡◌, refl}
use mathlib.Core.Bool.{Bool, true, false, cond}
use mathlib.Core.Logic.{◌↔◌}
use Rattle.std.specs.Prelude.{Option, None, Some}
use mathlib.Core.List.{List, [], ◌∷◌}
use native.Mathlib.Omega.{arith}
use Rattle.rewriting.specs.Rules.{Rule}
use Rattle.machine.specs.declared.Answer.{Answer}
use Rattle.machine.specs.declared.Counts.{Counts}
use Rattle.machine.specs.State.{State, Step, step}
use Rattle.machine.specs.Run.{Run, no_counts, plus, counts_of, ended, counted, fits, proceed, tests, run}
use Rattle.machine.specs.Promise.{Stopped}
use Rattle.machine.proofs.Machine.{Reaches, Stay, reaches_one, reaches_then}

-- what is so of a run r from state s
pub record Ran (rules : List Rule) (capacity fuel : ℕ) (s : State) (r : Run) : Type 0 where
  pub reached : Reaches rules s r.counts r.state
  pub within : r.counts.steps ≤ fuel
  pub room : fits capacity s ≡ true → fits capacity r.state ≡ true
  pub stops : Stopped rules capacity fuel r.counts r.state r.answer

-- a run that takes no step
ended_ran : (rules : List Rule) (capacity fuel : ℕ) (s : State) (a : Answer) → Stopped rules capacity fuel no_counts s a
    → Ran rules capacity fuel s (ended a s)
unfolding ended no_counts
ended_ran rules capacity fuel s a h = record { reached = Stay; within = omega arith; room = λ k. k; stops = h }

-- one step and one unit of fuel more change nothing of where a run stopped
stopped_later : (rules : List Rule) (capacity fuel : ℕ) (t : Step) (c : Counts) (s : State) (a : Answer)
    → Stopped rules capacity fuel c s a → Stopped rules capacity (suc fuel) (plus (counts_of t) c) s a
unfolding plus counts_of
stopped_later rules capacity fuel t c s (Answer.Verdict v) h = h
stopped_later rules capacity fuel t c s Answer.Quiet h = h
stopped_later rules capacity fuel t c s Answer.Spent h =
    (h.0, h.1, let k : c.steps ≡ fuel = h.2 in omega arith)
stopped_later rules capacity fuel t c s Answer.Full h = (h.0, let k : c.steps < fuel = h.1 in omega arith, h.2)

-- one step, and then a run with one unit of fuel less
proceed_ran : (rules : List Rule) (capacity fuel : ℕ) (s : State) (a : ℕ) (q : List ℕ) → s.verdict ≡ None
    → s.waiting ≡ a ∷ q → (rest : State → Run) → ((t : State) → Ran rules capacity fuel t (rest t))
    → Ran rules capacity (suc fuel) s (proceed capacity s (step rules s.settled a q) rest)
unfolding proceed counted plus counts_of no_counts
proceed_ran rules capacity fuel s a q v w rest h = go (fits capacity t.to) refl
  where
    t : Step
    t = step rules s.settled a q

    go : (b : Bool) → fits capacity t.to ≡ b
        → Ran rules capacity (suc fuel) s (cond b (counted t (rest t.to)) (ended Answer.Full s))
    go true fit =
        record {
          reached = reaches_then (reaches_one rules s a q v w) (h t.to).reached;
          within = let k : (rest t.to).counts.steps ≤ fuel = (h t.to).within in omega arith;
          room = λ _. (h t.to).room fit;
          stops = stopped_later rules capacity fuel t (rest t.to).counts (rest t.to).state (rest t.to).answer (h t.to).stops;
        }
    go false fit = ended_ran rules capacity (suc fuel) s Answer.Full (v, omega arith, (a, q, w, fit))

-- `rest` is what the tests go on with, where there is fuel
Rest : List Rule → ℕ → ℕ → Option (State → Run) → Type 0
Rest rules capacity fuel None = fuel ≡ 0
Rest rules capacity fuel (Some rest) =
    (n : ℕ) × (fuel ≡ suc n) × ((t : State) → Ran rules capacity n t (rest t))

tests_ran : (rules : List Rule) (capacity fuel : ℕ) (s : State) (v : Option ℕ) (w : List ℕ) → s.verdict ≡ v
    → s.waiting ≡ w → (rest : Option (State → Run)) → Rest rules capacity fuel rest
    → Ran rules capacity fuel s (tests rules capacity s v w rest)
unfolding tests Rest no_counts
tests_ran rules capacity fuel s (Some v) w p q rest h = ended_ran rules capacity fuel s (Answer.Verdict v) p
tests_ran rules capacity fuel s None [] p q rest h = ended_ran rules capacity fuel s Answer.Quiet (p, q)
tests_ran rules capacity fuel s None (a ∷ q) v w None h =
    ended_ran rules capacity fuel s Answer.Spent (v, rw w (omega arith), rw h)
tests_ran rules capacity fuel s None (a ∷ q) v w (Some rest) h =
    rw h.1 (proceed_ran rules capacity h.0 s a q v w rest h.2)

pub ran : (rules : List Rule) (capacity fuel : ℕ) (s : State) → Ran rules capacity fuel s (run rules capacity fuel s)
unfolding run Rest
ran rules capacity zero s = tests_ran rules capacity zero s s.verdict s.waiting refl refl None refl
ran rules capacity (suc fuel) s =
    tests_ran rules capacity (suc fuel) s s.verdict s.waiting refl refl (Some (run rules capacity fuel))
    (fuel, refl, λ t. ran rules capacity fuel t)

-- a run's answer is Quiet exactly when nothing waits and no verdict stands
pub stopped_quiet : (rules : List Rule) (capacity fuel : ℕ) (c : Counts) (s : State) (a : Answer)
    → Stopped rules capacity fuel c s a → a ≡ Answer.Quiet ↔ ((s.waiting ≡ []) × (s.verdict ≡ None))
stopped_quiet rules capacity fuel c s (Answer.Verdict v) h = (
  λ (p : Answer.Verdict v ≡ Answer.Quiet). let z : ◌≡◌ {A = ℕ} 0 1 = cc in absurd (omega arith),
  λ (p : (s.waiting ≡ []) × (s.verdict ≡ None)). let z : ◌≡◌ {A = ℕ} 0 1 = cc in absurd (omega arith),
)
stopped_quiet rules capacity fuel c s Answer.Quiet h = (λ _. (h.1, h.0), λ _. refl)
stopped_quiet rules capacity fuel c s Answer.Spent h = (
  λ (p : Answer.Spent ≡ Answer.Quiet). let z : ◌≡◌ {A = ℕ} 0 1 = cc in absurd (omega arith),
  λ (p : (s.waiting ≡ []) × (s.verdict ≡ None)). absurd (omega (arith, rw p.0 at h.1)),
)
stopped_quiet rules capacity fuel c s Answer.Full h = (
  λ (p : Answer.Full ≡ Answer.Quiet). let z : ◌≡◌ {A = ℕ} 0 1 = cc in absurd (omega arith),
  λ (p : (s.waiting ≡ []) × (s.verdict ≡ None)).
      let w : s.waiting ≡ h.2.0 ∷ h.2.1 = h.2.2 in
      let z : ◌≡◌ {A = ℕ} 0 1 = cc in
      absurd (omega arith),
)
