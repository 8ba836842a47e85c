-- `monitor::Head::in_turn` meets its contract: the invariant is `Offering` (machine/proofs/Offering.antt).
use Prim.Native.Nat.{◌+◌, ◌≤◌, ◌<◌}
use mathlib.Core.Path.{◌≡◌, refl}
use native.Mathlib.Omega.{arith}
use native.Mathlib.Numerals.{add-one}
use lib.ListN.{length, get_or}
use Rattle.layout.specs.Refusals.{number, refusal_number, refused_by}
use Rattle.machine.specs.Run.{no_counts}
use Rattle.machine.specs.Calls.{Call, GoOn, Outcome, call_of, fuel_of}
use Rattle.machine.specs.Play.{offers_of}
use Rattle.machine.specs.Batch.{offers}
use Rattle.machine.specs.Lent.{offer_or_go_on}
use Rattle.monitor.specs.Lent.{lent, outcome_from}
use Rattle.machine.proofs.Offering.{offering_first, offering_passed, offering-number, offering_sums, offering-next}
use Rattle.machine.proofs.Offering.{offering_refused, offering_all, call_at, calls_length}
use Rattle.monitor.proofs.Head.in_turn.Goals.{Start, At-loop-k, After-call-called, In-Ok}
use Rattle.monitor.proofs.Head.in_turn.Goals as goal

-- the number of offers is that of the events

room : (s : Start) → length (offers_of s.args.events.now s.args.fuel) ≤ length s.args.answers.now
room s = rw (calls_length s.args.events.now s.args.fuel) s.requires.room

few : (s : Start) → length (offers_of s.args.events.now s.args.fuel) ≤ 65535
few s = rw (calls_length s.args.events.now s.args.fuel) s.requires.few

-- the offer of event k, as it came out

abbrev call : After-call-called → Call
call c = get_or (offers_of c.args.events.now c.args.fuel) c.loop-k.k (GoOn 0)

abbrev made : After-call-called → Outcome
made c = outcome_from c.call-called.result c.call-called.new.bytes c.call-called.new.words

more : (c : After-call-called) → c.loop-k.k < length (offers_of c.args.events.now c.args.fuel)
more c = rw (calls_length c.args.events.now c.args.fuel) c.loop-k-test.true

fuel : (c : After-call-called) → fuel_of (call c) ≤ 4294967295
unfolding fuel_of
fuel c = rw (call_at c.args.events.now c.args.fuel c.loop-k.k c.loop-k-test.true) (omega (arith, c.ranges.fuel))

came : (c : After-call-called)
    → made c
    ≡ call_of (length c.args.bytes.now) c.args.rules.table.image.bytes.now c.args.rules.table.words.now
    (lent c.loop-k.head c.loop-k.bytes c.loop-k.words) (call c)
unfolding offer_or_go_on
came c =
    rw (call_at c.args.events.now c.args.fuel c.loop-k.k c.loop-k-test.true, ← c.loop-k.auto.bytes) c.call-called.ensures

pub loop-k-init : goal.loop-k-init
unfolding no_counts
loop-k-init c = offering_first _ _ _ _ (offers_of c.args.events.now c.args.fuel) _ c.requires.lent

pub call-called-requires : goal.call-called-requires
call-called-requires c = offering_passed c.loop-k.invariant

pub number-requires : goal.number-requires
number-requires c =
    let s = (goal.at.number-requires c).Start in
    let a = (goal.at.number-requires c).After-call-called in
    let fits = rw (← came a, c.in-Ok.is) at (offering-number c.loop-k.invariant (room s) (more a)) in
    omega (arith, fits)

pub overflow_cast-answers : goal.overflow_cast-answers
overflow_cast-answers c =
    let s = (goal.at.overflow_cast-answers c).Start in
    let a = (goal.at.overflow_cast-answers c).After-call-called in
    let fits = rw (← came a, c.in-Ok.is) at (offering-number c.loop-k.invariant (room s) (more a)) in
    omega (arith, fits, c.number.ensures)

pub returns-in-Err : goal.returns-in-Err
unfolding refusal_number offers refused_by
returns-in-Err c =
    let s = (goal.at.returns-in-Err c).Start in
    let a = (goal.at.returns-in-Err c).After-call-called in
    rw (← came a) at (offering_refused c.loop-k.invariant (room s) (more a) (number c.in-Err.refusal)
    (rw (← came a, c.in-Err.is) refl))

-- the sums have room for its counts
sums : (c : After-call-called) → length (offers_of c.args.events.now c.args.fuel) ≤ length c.args.answers.now
    → length (offers_of c.args.events.now c.args.fuel) ≤ 65535
    → (c.loop-k.counts.steps + (made c).counts.steps < 18446744073709551616)
    × (c.loop-k.counts.rewrites + (made c).counts.rewrites < 18446744073709551616)
    × (c.loop-k.counts.put + (made c).counts.put < 18446744073709551616)
sums c r f = rw (← came c) at (offering_sums c.loop-k.invariant r (more c) (fuel c) f)

pub plus-counts-requires-clause-steps : goal.plus-counts-requires-clause-steps
plus-counts-requires-clause-steps c =
    let s = (goal.at.plus-counts-requires-clause-steps c).Start in
    (sums (goal.at.plus-counts-requires-clause-steps c).After-call-called (room s) (few s)).0

pub plus-counts-requires-clause-rewrites : goal.plus-counts-requires-clause-rewrites
plus-counts-requires-clause-rewrites c =
    let s = (goal.at.plus-counts-requires-clause-rewrites c).Start in
    (sums (goal.at.plus-counts-requires-clause-rewrites c).After-call-called (room s) (few s)).1

pub plus-counts-requires-clause-put : goal.plus-counts-requires-clause-put
plus-counts-requires-clause-put c =
    let s = (goal.at.plus-counts-requires-clause-put c).Start in
    (sums (goal.at.plus-counts-requires-clause-put c).After-call-called (room s) (few s)).2

pub loop-k-preserved : goal.loop-k-preserved
unfolding refused_by
loop-k-preserved c =
    let s = (goal.at.loop-k-preserved c).Start in
    let a = (goal.at.loop-k-preserved c).After-call-called in
    rw (add-one, c.number.ensures, c.plus-counts.ensures)
    (rw (← came a, c.in-Ok.is) at
    (offering-next c.loop-k.invariant (room s) (more a) (fuel a) (rw (← came a, c.in-Ok.is) refl)))

pub returns : goal.returns
unfolding refusal_number offers
returns c =
    let s = (goal.at.returns c).Start in
    let events = c.args.events.now in
    let fuel = c.args.fuel in
    rw (← calls_length events fuel)
    (offering_all c.loop-k.invariant (room s) (rw (calls_length events fuel) c.loop-k-test.false))
