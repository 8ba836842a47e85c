-- A run in the areas: the loop's invariant, its turns and its four ends.
-- Assumes nothing.
use Prim.Native.Nat.{ℕ, zero, suc, ◌+◌, ◌-◌, ◌*◌, ◌≤◌, ◌<◌}
use mathlib.Core.Path.{◌≡◌, refl, sym, ap, ◌∙◌, subst}
use mathlib.Core.Bool.{Bool, true, false}
use Rattle.std.specs.Prelude.{None, Some, Ok}
use mathlib.Core.List.{List, [], ◌∷◌}
use native.Mathlib.Omega.{arith}
use lib.ListN.{length}
use Rattle.rewriting.specs.Lists.{prefix}
use Rattle.rewriting.specs.Rules.{Rule}
use Rattle.rewriting.proofs.Ranges.{Ranges, ranges}
use Rattle.layout.specs.Image.{read, valid}
use Rattle.layout.proofs.Image.{valid-in_range}
use Rattle.layout.specs.Table.{table_of}
use Rattle.machine.specs.Areas.{Head, Monitor, monitor_of, state_of}
use Rattle.machine.specs.declared.Answer.{Answer}
use Rattle.machine.specs.declared.Counts.{Counts}
use Rattle.machine.specs.State.{State, Step, step}
use Rattle.machine.specs.Run.{Run, no_counts, plus, counts_of, ended, counted, fits, proceed, tests, run}
use Rattle.machine.specs.Calls.{Outcome, outcome}
use Rattle.machine.specs.Lent.{monitor_in, Passed, step_waiting, step_of, Tried, tried}
use Rattle.machine.proofs.Sums.{none-plus, plus_none, plus_assoc}
use Rattle.machine.proofs.Machine.{step_counts}
use Rattle.machine.proofs.Legal.{legal_active, legal_step}
use Rattle.machine.proofs.Areas.{state_back}
use Rattle.machine.proofs.Calls.{Holding, holding_passes}
use Rattle.machine.proofs.Stepping.{Held, held, passed_valid, passed_table, passed_written, zero-rule, waits}

-- The tests of a run, one by one.
run_verdict : (rules : List Rule) (capacity fuel : ℕ) (s : State) (v : ℕ) → s.verdict ≡ Some v
    → run rules capacity fuel s ≡ ended (Answer.Verdict v) s
unfolding run tests
run_verdict rules capacity zero s v e = rw e
run_verdict rules capacity (suc fuel) s v e = rw e

run_quiet : (rules : List Rule) (capacity fuel : ℕ) (s : State) → s.verdict ≡ None → s.waiting ≡ []
    → run rules capacity fuel s ≡ ended Answer.Quiet s
unfolding run tests
run_quiet rules capacity zero s e w = rw (e, w)
run_quiet rules capacity (suc fuel) s e w = rw (e, w)

run_spent : (rules : List Rule) (capacity : ℕ) (s : State) (a : ℕ) (q : List ℕ) → s.verdict ≡ None → s.waiting ≡ a ∷ q
    → run rules capacity 0 s ≡ ended Answer.Spent s
unfolding run tests
run_spent rules capacity s a q e w = rw (e, w)

run_step : (rules : List Rule) (capacity fuel : ℕ) (s : State) (a : ℕ) (q : List ℕ) → s.verdict ≡ None → s.waiting ≡ a ∷ q
    → run rules capacity (suc fuel) s ≡ proceed capacity s (step_of rules s) (run rules capacity fuel)
unfolding run tests step_waiting
run_step rules capacity fuel s a q e w = rw (e, w)

-- What a step that was tried tells: it does not fit, and nothing changed, ..
tried_no : (rules : List Rule) (capacity : ℕ) (m : Monitor) (t : Step) (to : Tried) → to.taken ≡ false
    → to ≡ tried rules capacity m t → (fits capacity t.to ≡ false) × (to.monitor ≡ m)
unfolding tried
tried_no rules capacity m t to e p = go (fits capacity t.to) refl
  where
    go : (b : Bool) → fits capacity t.to ≡ b → (fits capacity t.to ≡ false) × (to.monitor ≡ m)
    go false f = (f, ap (λ (x : Tried). x.monitor) (rw f at p))
    go true f =
        let z : to.taken ≡ true = ap (λ (x : Tried). x.taken) (rw f at p) in
        let y : ◌≡◌ {A = ℕ} 0 1 = cc in
        absurd (omega arith)

-- .. or it fits, and was taken.
record Taken (rules : List Rule) (capacity : ℕ) (t : Step) (to : Tried) : Type 0 where
  fit : fits capacity t.to ≡ true
  monitor : to.monitor ≡ monitor_of rules capacity t.to
  rewritten : to.rewrites ≡ t.rewrites
  put_back : to.put ≡ t.put

tried_yes : (rules : List Rule) (capacity : ℕ) (m : Monitor) (t : Step) (to : Tried) → to.taken ≡ true
    → to ≡ tried rules capacity m t → Taken rules capacity t to
unfolding tried
tried_yes rules capacity m t to e p = go (fits capacity t.to) refl
  where
    go : (b : Bool) → fits capacity t.to ≡ b → Taken rules capacity t to
    go true f =
        record {
          fit = f;
          monitor = ap (λ (x : Tried). x.monitor) (rw f at p);
          rewritten = ap (λ (x : Tried). x.rewrites) (rw f at p);
          put_back = ap (λ (x : Tried). x.put) (rw f at p);
        }
    go false f =
        let z : to.taken ≡ false = ap (λ (x : Tried). x.taken) (rw f at p) in
        let y : ◌≡◌ {A = ℕ} 0 1 = cc in
        absurd (omega arith)

-- the counts c and then the run r
abbrev ahead : Counts → Run → Run
ahead c r = record { answer = r.answer; counts = plus c r.counts; state = r.state }

-- the head with no verdict
abbrev pub opened : Head → Head
opened head = record { settled = head.settled; waiting = head.waiting; verdict = None; rule = 0 }

-- what a run gives back that ends here, with the counts c
abbrev ends : Answer → Counts → Monitor → Outcome
ends answer c m = record { answer = Ok answer; counts = c; monitor = m }

-- The loop's invariant: the run is the counts so far and then the run with the fuel that is left.
pub record Running (image table bytes₀ words₀ : List ℕ) (fuel : ℕ) (head₀ : Head) (bytes words : List ℕ) (head : Head)
    (c : Counts) : Type 0 where
  pub bytes_kept : length bytes ≡ length bytes₀
  pub words_kept : length words ≡ length words₀
  pub passed : Passed (length bytes₀) image table (monitor_in head bytes words)
  pub few_steps : c.steps ≤ fuel
  pub few_rewrites : c.rewrites ≤ c.steps
  pub few_put : c.put ≤ 8 * c.steps
  pub rest : run (read image).rules (length bytes₀) fuel (state_of (monitor_in head₀ bytes₀ words₀))
      ≡ ahead c (run (read image).rules (length bytes₀) (fuel - c.steps) (state_of (monitor_in head bytes words)))

pub running_first :
    (image table bytes words : List ℕ) (fuel : ℕ) (head : Head) → Passed (length bytes) image table (monitor_in head bytes words)
    → Running image table bytes words fuel head bytes words head no_counts
unfolding no_counts
running_first image table bytes words fuel head ok =
    let s : State = state_of (monitor_in head bytes words) in
    let r : Run = run (read image).rules (length bytes) fuel s in
    let all : fuel ≡ fuel - 0 = omega arith in
    record {
      bytes_kept = refl;
      words_kept = refl;
      passed = ok;
      few_steps = omega arith;
      few_rewrites = omega arith;
      few_put = omega arith;
      rest =
          (λ i. record { answer = r.answer; counts = sym (none-plus r.counts) i; state = r.state })
          ∙ ap (λ (f : ℕ). ahead no_counts (run (read image).rules (length bytes) f s)) all;
    }

module _ {image table bytes₀ words₀ : List ℕ} {fuel : ℕ} {head₀ : Head} {bytes words : List ℕ} {head : Head} {c : Counts}
    (k : Running image table bytes₀ words₀ fuel head₀ bytes words head c) where
  -- what a step asks
  pub running_asks : Passed (length bytes) image table (monitor_in head bytes words)
  running_asks = rw k.bytes_kept k.passed

  facts : Held (read image) (length bytes₀) (monitor_in head bytes words)
  facts = held (length bytes₀) image table (monitor_in head bytes words) k.passed

  -- with no verdict the rule is 0
  pub is_open : head.verdict ≡ None → head ≡ opened head
  is_open e =
      let z : head.rule ≡ 0 = zero-rule (length bytes₀) image table (monitor_in head bytes words) k.passed e in
      λ i. record { settled = head.settled; waiting = head.waiting; verdict = e i; rule = z i }

  pub running_open : head.verdict ≡ None → Running image table bytes₀ words₀ fuel head₀ bytes words (opened head) c
  running_open e = subst (λ (x : Head). Running image table bytes₀ words₀ fuel head₀ bytes words x c) (is_open e) k

  abbrev came : Outcome
  came =
      outcome (read image) (length bytes₀) (monitor_in head₀ bytes₀ words₀) None
      (run (read image).rules (length bytes₀) fuel (state_of (monitor_in head₀ bytes₀ words₀)))

  -- The run ends here.
  ended_here : (answer : Answer)
      → run (read image).rules (length bytes₀) (fuel - c.steps) (state_of (monitor_in head bytes words))
      ≡ ended answer (state_of (monitor_in head bytes words))
      → ends answer c (monitor_in head bytes words) ≡ came
  unfolding outcome ended
  ended_here answer e =
      let r : Run = run (read image).rules (length bytes₀) fuel (state_of (monitor_in head₀ bytes₀ words₀)) in
      let written : monitor_of (read image).rules (length bytes₀) (state_of (monitor_in head bytes words))
      ≡ monitor_in head bytes words =
      passed_written (length bytes₀) image table (monitor_in head bytes words) k.passed
      in
      let whole : r ≡ ahead c (ended answer (state_of (monitor_in head bytes words))) = k.rest ∙ ap (ahead c) e in
      sym
      (ap (λ (x : Run). outcome (read image) (length bytes₀) (monitor_in head₀ bytes₀ words₀) None x) whole
      ∙ (λ i. ends answer (plus_none c i) (written i)))

  pub verdict_ends : (v : ℕ) → head.verdict ≡ Some v → ends (Answer.Verdict v) c (monitor_in head bytes words) ≡ came
  unfolding state_of
  verdict_ends v e =
      ended_here (Answer.Verdict v)
      (run_verdict (read image).rules (length bytes₀) (fuel - c.steps) (state_of (monitor_in head bytes words)) v e)

  pub quiet_ends : head.verdict ≡ None → head.waiting ≡ 0 → ends Answer.Quiet c (monitor_in head bytes words) ≡ came
  unfolding state_of
  quiet_ends e z =
      ended_here Answer.Quiet
      (run_quiet (read image).rules (length bytes₀) (fuel - c.steps) (state_of (monitor_in head bytes words)) e
      (empty (state_of (monitor_in head bytes words)).waiting (sym facts.waiting_count ∙ z)))
    where
      empty : (l : List ℕ) → length l ≡ 0 → l ≡ []
      empty [] p = refl
      empty (x ∷ l) p = absurd (omega arith)

  pub spent_ends : head.verdict ≡ None → 0 < head.waiting → fuel ≤ c.steps
      → ends Answer.Spent c (monitor_in head bytes words) ≡ came
  unfolding state_of
  spent_ends e z l =
      let w = waits (read image) (length bytes₀) (monitor_in head bytes words) facts z in
      let none_left : fuel - c.steps ≡ 0 = omega (arith, l) in
      ended_here Answer.Spent
      (rw none_left (run_spent (read image).rules (length bytes₀) (state_of (monitor_in head bytes words)) w.0 w.1 e w.2))

  -- A step is tried. It does not fit, ..
  pub full_ends : head.verdict ≡ None → 0 < head.waiting → c.steps < fuel → (to : Tried) → to.taken ≡ false
      → to
      ≡ tried (read image).rules (length bytes) (monitor_in head bytes words)
      (step_of (read image).rules (state_of (monitor_in head bytes words)))
      → ends Answer.Full c (monitor_in head to.monitor.bytes to.monitor.words) ≡ came
  unfolding state_of proceed
  full_ends e z l to untaken t =
      let s : State = state_of (monitor_in head bytes words) in
      let w = waits (read image) (length bytes₀) (monitor_in head bytes words) facts z in
      let n : fuel - c.steps ≡ suc (fuel - c.steps - 1) = omega (arith, l) in
      let u = tried_no (read image).rules (length bytes₀) (monitor_in head bytes words) (step_of (read image).rules s) to untaken
      (t ∙ ap (λ (n : ℕ). tried (read image).rules n (monitor_in head bytes words) (step_of (read image).rules s))
      k.bytes_kept) in
      let here : run (read image).rules (length bytes₀) (fuel - c.steps) s ≡ ended Answer.Full s =
      ap (λ (f : ℕ). run (read image).rules (length bytes₀) f s) n
      ∙ run_step (read image).rules (length bytes₀) (fuel - c.steps - 1) s w.0 w.1 e w.2
      ∙ rw u.0
      in
      ap (λ (x : Monitor). ends Answer.Full c (monitor_in head x.bytes x.words)) u.1
      ∙ ended_here Answer.Full here

  -- .. or the run goes on.
  pub running_next : head.verdict ≡ None → 0 < head.waiting → c.steps < fuel → (to : Tried) → to.taken ≡ true
      → to
      ≡ tried (read image).rules (length bytes) (monitor_in head bytes words)
      (step_of (read image).rules (state_of (monitor_in head bytes words)))
      → length to.monitor.bytes ≡ length bytes → length to.monitor.words ≡ length words
      → Running image table bytes₀ words₀ fuel head₀ to.monitor.bytes to.monitor.words to.monitor.head
      (plus c (record { steps = 1; rewrites = to.rewrites; put = to.put }))
  unfolding state_of step_waiting proceed counted plus counts_of
  running_next e z l to taken t nb nw =
      record {
        bytes_kept = nb ∙ k.bytes_kept;
        words_kept = nw ∙ k.words_kept;
        passed = holding_passes (length bytes₀) image table good right to.monitor holding;
        few_steps = omega (arith, l);
        few_rewrites = omega (arith, k.few_rewrites, u.rewritten, counts.0);
        few_put = omega (arith, k.few_put, u.put_back, counts.0, counts.1);
        rest = k.rest ∙ on;
      }
    where
      rules : List Rule
      rules = (read image).rules

      s : State
      s = state_of (monitor_in head bytes words)

      t' : Step
      t' = step_of rules s

      w : (a : ℕ) × (q : List ℕ) × (s.waiting ≡ a ∷ q)
      w = waits (read image) (length bytes₀) (monitor_in head bytes words) facts z

      u : Taken rules (length bytes₀) t' to
      u = tried_yes rules (length bytes₀) (monitor_in head bytes words) t' to taken
          (t ∙ ap (λ (n : ℕ). tried rules n (monitor_in head bytes words) t') k.bytes_kept)

      good : valid image ≡ true
      good = passed_valid (length bytes₀) image table (monitor_in head bytes words) k.passed

      right : prefix (table_of (read image)) table ≡ true
      right = passed_table (length bytes₀) image table (monitor_in head bytes words) k.passed

      in_range_lem : Ranges (read image)
      in_range_lem = ranges (read image) (valid-in_range image good)

      is-step : t' ≡ step rules s.settled w.0 w.1
      is-step = rw w.2

      holding : Holding (read image) (length bytes₀) to.monitor
      holding =
          record {
            state = t'.to;
            written = u.monitor;
            legal =
                rw is-step (legal_step (read image) in_range_lem s.settled w.0 w.1
                (legal_active (read image) s (w.0 ∷ w.1) w.2 facts.legal));
            room = u.fit;
          }

      counts : (t'.rewrites ≤ 1) × (t'.put ≤ 8 * t'.rewrites)
      counts = rw is-step (step_counts (read image) in_range_lem s.settled w.0 w.1)

      c' : Counts
      c' = plus c (record { steps = 1; rewrites = to.rewrites; put = to.put })

      on : ahead c (run rules (length bytes₀) (fuel - c.steps) s)
          ≡ ahead c' (run rules (length bytes₀) (fuel - (c.steps + 1)) (state_of to.monitor))
      on =
          ap (ahead c) (ap (λ (f : ℕ). run rules (length bytes₀) f s) n ∙ run_step rules (length bytes₀) left s w.0 w.1 e w.2
          ∙ rw u.fit)
          ∙ (λ i. record {
            answer = r.answer;
            counts =
                (sym (plus_assoc c (counts_of t') r.counts) ∙ ap (λ (d : Counts). plus (plus c d) r.counts) one) i;
            state = r.state;
          })
          ∙ ap (λ (x : State). ahead c' (run rules (length bytes₀) left x)) (sym back)
        where
          left : ℕ
          left = fuel - (c.steps + 1)

          n : fuel - c.steps ≡ suc left
          n = omega (arith, l)

          r : Run
          r = run rules (length bytes₀) left t'.to

          one : counts_of t' ≡ record { steps = 1; rewrites = to.rewrites; put = to.put }
          one = λ i. record { steps = 1; rewrites = sym u.rewritten i; put = sym u.put_back i }

          back : state_of to.monitor ≡ t'.to
          back = rw u.monitor (state_back rules (length bytes₀) t'.to)
