-- `monitor::Head::run` meets its contract: the invariant is `Running` (machine/proofs/Running.antt), in a state in which the run
-- goes on.
use mathlib.Core.Path.{◌≡◌, refl, sym}
use native.Mathlib.Omega.{arith}
use Rattle.std.specs.Prelude.{Some}
use Rattle.machine.specs.declared.Counts.{Counts}
use Rattle.machine.specs.Run.{no_counts, plus}
use Rattle.monitor.specs.Lent.{head_in, stepped_from}
use Rattle.machine.proofs.Running.{
  Running,
  running_first,
  running_asks,
  running_open,
  running_next,
  is_open,
  verdict_ends,
  quiet_ends,
  spent_ends,
  full_ends,
}
use Rattle.monitor.proofs.Head.run.Goals.{Start, In-Some}
use Rattle.monitor.proofs.Head.run.Goals as goal

-- the run, before its first step
first : (s : Start)
    → Running s.args.rules.table.image.bytes.now s.args.rules.table.words.now s.args.bytes.now s.args.words.now s.args.fuel
    (head_in s.args.self) s.args.bytes.now s.args.words.now (head_in s.args.self) no_counts
first s =
    running_first s.args.rules.table.image.bytes.now s.args.rules.table.words.now s.args.bytes.now s.args.words.now s.args.fuel
    (head_in s.args.self) s.requires.lent

pub returns-then-head-eq0 : goal.returns-then-head-eq0
unfolding no_counts
returns-then-head-eq0 c =
    let s = (goal.at.returns-then-head-eq0 c).Start in
    rw c.ended.ensures (quiet_ends (first s) c.requires.undecided c.if-head-eq0.true)

pub loop-left-init : goal.loop-left-init
unfolding no_counts
loop-left-init c =
    let s = (goal.at.loop-left-init c).Start in
    (omega (arith, c.if-head-eq0.false), c.requires.undecided, omega arith, first s)

pub step-requires-clause-lent : goal.step-requires-clause-lent
step-requires-clause-lent c =
    running_asks (running_open c.loop-left.invariant.3 c.loop-left.invariant.1)

pub step-requires-clause-waiting : goal.step-requires-clause-waiting
step-requires-clause-waiting c =
    c.loop-left.invariant.0

pub returns-in-None : goal.returns-in-None
returns-in-None c =
    let k = c.loop-left.invariant.3 in
    let none = c.loop-left.invariant.1 in
    rw (c.ended-in-None.ensures, is_open k none)
    (full_ends (running_open k none) refl c.loop-left.invariant.0
    (omega (arith, c.loop-left.invariant.2, c.loop-left-test.true)) _ refl c.in-None.ensures.tried)

-- The step is taken: the run from there.
taken : (c : In-Some)
    → Running c.args.rules.table.image.bytes.now c.args.rules.table.words.now c.args.bytes.now c.args.words.now c.args.fuel
    (head_in c.args.self) c.step.new.bytes c.step.new.words (head_in c.in-Some.stepped.head)
    (plus c.loop-left.counts c.in-Some.stepped.counts)
taken c =
    let s = c.in-Some.stepped in
    let one : ◌≡◌ {A = Counts} (record { steps = 1; rewrites = s.counts.rewrites; put = s.counts.put }) s.counts =
    λ i. record { steps = sym c.in-Some.ensures.one i; rewrites = s.counts.rewrites; put = s.counts.put }
    in
    rw (← one)
    (running_next (running_open c.loop-left.invariant.3 c.loop-left.invariant.1) refl c.loop-left.invariant.0
    (omega (arith, c.loop-left.invariant.2, c.loop-left-test.true))
    (stepped_from c.loop-left.head (Some s) c.step.new.bytes c.step.new.words) refl
    c.in-Some.ensures.tried c.step.auto.bytes c.step.auto.words)

pub plus-counts-requires-clause-steps : goal.plus-counts-requires-clause-steps
plus-counts-requires-clause-steps c =
    omega (arith, c.in-Some.ensures.one, c.loop-left.invariant.3.few_steps, c.ranges.fuel)

pub plus-counts-requires-clause-rewrites : goal.plus-counts-requires-clause-rewrites
unfolding plus
plus-counts-requires-clause-rewrites c =
    let k = taken (goal.at.plus-counts-requires-clause-rewrites c).In-Some in
    omega (arith, k.few_steps, k.few_rewrites, c.ranges.fuel)

pub plus-counts-requires-clause-put : goal.plus-counts-requires-clause-put
unfolding plus
plus-counts-requires-clause-put c =
    let k = taken (goal.at.plus-counts-requires-clause-put c).In-Some in
    omega (arith, k.few_steps, k.few_put, c.ranges.fuel)

went : (c : In-Some) (counts : Counts) → counts ≡ plus c.loop-left.counts c.in-Some.stepped.counts
    → Running c.args.rules.table.image.bytes.now c.args.rules.table.words.now c.args.bytes.now c.args.words.now c.args.fuel
    (head_in c.args.self) c.step.new.bytes c.step.new.words (head_in c.in-Some.stepped.head) counts
went c counts e = rw e (taken c)

pub returns-in-Some-verdict : goal.returns-in-Some-verdict
returns-in-Some-verdict c =
    let w = went (goal.at.returns-in-Some-verdict c).In-Some c.plus-counts.result c.plus-counts.ensures in
    rw c.ended-in-Some-verdict.ensures (verdict_ends w _ c.in-Some-verdict.is)

pub returns-then-head-eq0-2 : goal.returns-then-head-eq0-2
returns-then-head-eq0-2 c =
    let w = went (goal.at.returns-then-head-eq0-2 c).In-Some c.plus-counts.result c.plus-counts.ensures in
    rw c.ended-then-head-eq0-2.ensures (quiet_ends w c.in_default.is c.if-head-eq0-2.true)

pub loop-left-preserved : goal.loop-left-preserved
unfolding plus
loop-left-preserved c =
    let w = went (goal.at.loop-left-preserved c).In-Some c.plus-counts.result c.plus-counts.ensures in (
      omega (arith, c.if-head-eq0-2.false),
      c.in_default.is,
      rw c.plus-counts.ensures (omega (arith, c.loop-left.invariant.2, c.in-Some.ensures.one)),
      w,
    )

pub returns : goal.returns
returns c =
    rw c.ended-2.ensures
    (spent_ends c.loop-left.invariant.3 c.loop-left.invariant.1 c.loop-left.invariant.0
    (omega (arith, c.loop-left.invariant.2, c.loop-left-test.false)))
