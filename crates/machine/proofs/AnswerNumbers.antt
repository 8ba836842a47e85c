-- A verdict that stands after a call or a batch is below 16, so that an answer's number fits a byte.
-- Assumes nothing.
use Prim.Native.Nat.{ℕ, ◌≤◌, ◌<◌}
use mathlib.Core.Path.{◌≡◌, refl, ap}
use mathlib.Core.Bool.{true}
use Rattle.std.specs.Prelude.{Option, None, Some, Result, Ok, Err}
use mathlib.Core.List.{List, [], ◌∷◌, ◌++◌}
use native.Mathlib.Omega.{arith}
use lib.Dec.{ltb}
use lib.ListN.{length}
use borrow.Author.Tests.{eqb-true, ltb-true}
use Rattle.rewriting.specs.Lists.{prefix}
use Rattle.rewriting.specs.Rules.{Right, Put, Close, RuleSet, rule, right_in_range}
use Rattle.rewriting.proofs.Lists.{and_left, and_right}
use Rattle.rewriting.proofs.Ranges.{Ranges, ranges, rule_at_lem}
use Rattle.layout.specs.Image.{read, valid}
use Rattle.layout.specs.Refusals.{Check, refusal, refused_by}
use Rattle.layout.proofs.Image.{valid-in_range}
use Rattle.layout.proofs.Refusals.{refusal_none_left}
use Rattle.layout.specs.Table.{table_of}
use Rattle.machine.specs.declared.Answer.{Answer}
use Rattle.machine.specs.Run.{Run, run}
use Rattle.machine.specs.Areas.{Monitor, head_of, monitor_of, state_of, closes_with, stands_by}
use Rattle.machine.specs.Calls.{Call, Offer, Outcome, lent_checks, call_checks, fuel_of, offered, outcome, decided, call_of}
use Rattle.machine.specs.Calls.{answer_number}
use Rattle.machine.specs.Play.{offers_of}
use Rattle.machine.specs.Batch.{stopped, and_then, in_turn, offers, batch_checks, batched, batch_of}
use Rattle.machine.specs.Promise.{Stopped}
use Rattle.machine.proofs.Stepping.{passed_valid, passed_table}
use Rattle.machine.proofs.Calls.{Holding, passed_holding, next}
use Rattle.machine.proofs.CallTheorem.{call_theorem}

closes_below : (set : RuleSet) (v : ℕ) (x : Right) → closes_with v x ≡ true → right_in_range set x ≡ true → v < set.verdicts
unfolding closes_with right_in_range
closes_below set v (Put u) e r = let z : ◌≡◌ {A = ℕ} 0 1 = cc in absurd (omega arith)
closes_below set v (Close u) e r = rw (eqb-true v u e) (ltb-true u set.verdicts r)

-- a verdict that is that of its rule
stands_below : (set : RuleSet) → Ranges set → (v i : ℕ) → stands_by set.rules (Some v) i ≡ true → v < 16
unfolding stands_by
stands_below set h v i e =
    let closes : _ = closes_with v (rule set.rules i).right in
    let is-rule : i < length set.rules = ltb-true _ _ (and_left (ltb i (length set.rules)) closes e) in
    let low : v < set.verdicts =
    closes_below set v (rule set.rules i).right (and_right (ltb i (length set.rules)) closes e)
    (rule_at_lem set h i is-rule).right_in_range_lem
    in
    let few : set.verdicts ≤ 16 = h.few_verdicts in
    omega arith

-- of what is held as described
pub holding_verdict : (capacity : ℕ) (image : List ℕ) → valid image ≡ true → (m : Monitor) → Holding (read image) capacity m
    → (v : ℕ) → m.head.verdict ≡ Some v → v < 16
unfolding monitor_of head_of
holding_verdict capacity image good m h v e =
    let stands : h.state.verdict ≡ Some v = rw h.written at e in
    stands_below (read image) (ranges (read image) (valid-in_range image good)) v h.state.rule
    (rw stands at h.legal.stands)

-- what the checks behind 7, 9, 10 and 11 say where they have passed
pub record Lent (capacity : ℕ) (image table : List ℕ) (m : Monitor) : Type 0 where
  pub good : valid image ≡ true
  pub right : prefix (table_of (read image)) table ≡ true
  pub holding : Holding (read image) capacity m

pub passed_lent : (capacity : ℕ) (image table : List ℕ) (m : Monitor) → refusal (lent_checks capacity image table m) ≡ None
    → Lent capacity image table m
passed_lent capacity image table m e =
    record {
      good = passed_valid capacity image table m e;
      right = passed_table capacity image table m e;
      holding = passed_holding capacity image table m e;
    }

-- they have passed where a call is accepted
pub accepted_passed : (capacity : ℕ) (image table : List ℕ) (m : Monitor) (c : Call)
    → refused_by (call_of capacity image table m c).answer ≡ None → refusal (lent_checks capacity image table m) ≡ None
unfolding call_of decided outcome refused_by
accepted_passed capacity image table m c e =
    refusal_none_left (lent_checks capacity image table m) _
    (go (refusal (lent_checks capacity image table m ++ call_checks (read image) capacity m.head c)) e)
  where
    r : Run
    r = run (read image).rules capacity (fuel_of c) (offered (state_of m) c)

    go : (o : Option ℕ) → refused_by (outcome (read image) capacity m o r).answer ≡ None → o ≡ None
    go None p = refl
    go (Some n) p = let z : ◌≡◌ {A = ℕ} 0 1 = cc in absurd (omega arith)

-- of an accepted call
pub accepted_verdict : (capacity : ℕ) (image table : List ℕ) (m : Monitor) (c : Call)
    → refused_by (call_of capacity image table m c).answer ≡ None
    → (v : ℕ) → (call_of capacity image table m c).monitor.head.verdict ≡ Some v → v < 16
accepted_verdict capacity image table m c a v e =
    let l : Lent capacity image table m = passed_lent capacity image table m (accepted_passed capacity image table m c a) in
    holding_verdict capacity image l.good (call_of capacity image table m c).monitor
    (next capacity image table l.good l.right m l.holding c).after v e

-- of any call: a refusal has 0
pub answer_number-below : (capacity : ℕ) (image table : List ℕ) (m : Monitor) (c : Call)
    → answer_number (call_of capacity image table m c).answer < 256
unfolding answer_number refused_by state_of
answer_number-below capacity image table m c =
    go o.answer refl (call_theorem capacity image table m c).stopped
  where
    o : Outcome
    o = call_of capacity image table m c

    go : (a : Result Answer ℕ) → o.answer ≡ a
        → ((b : Answer) → o.answer ≡ Ok b → Stopped (read image).rules capacity (fuel_of c) o.counts (state_of o.monitor) b)
        → answer_number a < 256
    go (Ok Answer.Quiet) e s = omega arith
    go (Ok Answer.Spent) e s = omega arith
    go (Ok Answer.Full) e s = omega arith
    go (Ok (Answer.Verdict v)) e s =
        let low : v < 16 =
        accepted_verdict capacity image table m c (ap (λ (x : Result Answer ℕ). refused_by x) e) v (s (Answer.Verdict v) e) in
        omega arith
    go (Err n) e s = omega arith

-- of a batch that is not refused
offers-holding : (capacity : ℕ) (image table : List ℕ) → valid image ≡ true → prefix (table_of (read image)) table ≡ true
    → (fuel : ℕ) (events : List ℕ) (m : Monitor) → Holding (read image) capacity m
    → Holding (read image) capacity (offers capacity image table m events fuel).monitor
unfolding offers in_turn offers_of stopped and_then
offers-holding capacity image table good right fuel [] m h = h
offers-holding capacity image table good right fuel (event ∷ events) m h =
    go (refused_by o.answer) after (offers-holding capacity image table good right fuel events o.monitor after)
  where
    o : Outcome
    o = call_of capacity image table m (Offer event fuel)

    after : Holding (read image) capacity o.monitor
    after = (next capacity image table good right m h (Offer event fuel)).after

    go : (x : Option ℕ) → Holding (read image) capacity o.monitor
        → Holding (read image) capacity (offers capacity image table o.monitor events fuel).monitor
        → Holding (read image) capacity (and_then o x (λ m'. offers capacity image table m' events fuel)).monitor
    go (Some n) k ih = k
    go None k ih = ih

pub batch_verdict : (capacity : ℕ) (image table : List ℕ) (m : Monitor) (events : List ℕ) (fuel : ℕ) (answers : List ℕ)
    → (batch_of capacity image table m events fuel answers).refused ≡ None
    → (v : ℕ) → (batch_of capacity image table m events fuel answers).monitor.head.verdict ≡ Some v → v < 16
unfolding batch_of batched batch_checks
batch_verdict capacity image table m events fuel answers = go (refusal checks) refl
  where
    checks : List Check
    checks = batch_checks capacity image table m events fuel answers

    go : (o : Option ℕ) → refusal checks ≡ o
        → (batched o m answers (offers capacity image table m events fuel)).refused ≡ None
        → (v : ℕ) → (batched o m answers (offers capacity image table m events fuel)).monitor.head.verdict ≡ Some v
        → v < 16
    go (Some n) p e v s = let z : ◌≡◌ {A = ℕ} 0 1 = cc in absurd (omega arith)
    go None p e v s =
        let l : Lent capacity image table m =
        passed_lent capacity image table m (refusal_none_left (lent_checks capacity image table m) _ p)
        in
        holding_verdict capacity image l.good (offers capacity image table m events fuel).monitor
        (offers-holding capacity image table l.good l.right fuel events m l.holding) v s
