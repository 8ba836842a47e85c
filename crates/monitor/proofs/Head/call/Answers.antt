-- `monitor::Head::call` meets its contract: refused by the first of its own checks that fails, or the run.
use Prim.Native.Nat.{ℕ, ◌+◌, ◌<◌}
use mathlib.Core.List.{List}
use mathlib.Core.Path.{◌≡◌, sym, ap, ◌∙◌}
use native.Mathlib.Omega.{arith}
use lib.ListN.{length}
use Rattle.std.specs.Prelude.{Option, None, Some, IfSome}
use Rattle.rewriting.specs.Rules.{RuleSet}
use Rattle.layout.specs.Image.{read}
use Rattle.layout.specs.Refusals.{refusal, numbered}
use Rattle.machine.specs.Areas.{Monitor, state_of}
use Rattle.machine.specs.Calls.{call_checks}
use Rattle.machine.specs.Lent.{offer_or_go_on}
use Rattle.monitor.specs.Lent.{head_in, lent, outcome_from}
use Rattle.machine.proofs.Stepping.{Held, held}
use Rattle.machine.proofs.LentRefusal.{answered_passed, answered_refused}
use Rattle.machine.proofs.Offering.{fuel_with, passed_call}
use Rattle.machine.proofs.Deciding.{accepted_room, is_refused, is-run, call_state, call_passes}
use Rattle.monitor.proofs.Head.call.Goals.{Start, In-Ok}
use Rattle.monitor.proofs.Head.call.Goals as goal

-- what is lent

abbrev image : Start → List ℕ
image s = s.args.rules.table.image.bytes.now

abbrev table : Start → List ℕ
table s = s.args.rules.table.words.now

abbrev given : Start → Monitor
given s = lent s.args.self s.args.bytes.now s.args.words.now

abbrev room : Start → ℕ
room s = length s.args.bytes.now

facts : (s : Start) → Held (read (image s)) (room s) (given s)
facts s = held (room s) (image s) (table s) (given s) s.requires

pub refusal-requires : goal.refusal-requires
refusal-requires c =
    let s = (goal.at.refusal-requires c).Start in
    omega (arith, facts s)

-- none of its own checks refuses it
accepted : (c : In-Ok)
    → refusal (call_checks (read c.args.rules.table.image.bytes.now) (length c.args.bytes.now) (head_in c.args.self)
    (offer_or_go_on c.args.offered c.args.fuel))
    ≡ None
accepted c = answered_passed _ (sym c.refusal.ensures ∙ ap numbered c.in-Ok.is)

-- where a symbol more is not too many, it has a place
roomy : {set : RuleSet} {m : Monitor} (o : Option ℕ) → IfSome o (λ event. m.head.settled + m.head.waiting ≡ length m.bytes → ⊥)
    → Held set (length m.bytes) m → IfSome o (λ event. m.head.waiting < length m.bytes)
roomy None full facts = tt
roomy (Some event) full facts = omega (arith, facts, full)

pub taking-requires : goal.taking-requires
taking-requires c =
    let s = (goal.at.taking-requires c).Start in
    roomy c.args.offered
    (accepted_room (read (image s)) (room s) (head_in c.args.self) c.args.fuel c.args.offered
    (accepted (goal.at.taking-requires c).In-Ok))
    (facts s)

pub run-requires-clause-lent : goal.run-requires-clause-lent
run-requires-clause-lent c =
    let s = (goal.at.run-requires-clause-lent c).Start in
    rw (c.taking.ensures.head, c.taking.auto.bytes, c.taking.ensures.bytes)
    (call_passes (room s) (image s) (table s)
    (head_in c.args.self) c.args.bytes.now c.args.words.now c.requires c.args.fuel c.args.offered
    (accepted (goal.at.run-requires-clause-lent c).In-Ok))

pub returns-in-Err : goal.returns-in-Err
returns-in-Err c =
    let s = (goal.at.returns-in-Err c).Start in
    rw c.refused.ensures
    (passed_call (room s) (image s) (table s) (given s) (offer_or_go_on c.args.offered c.args.fuel) _ c.requires
    (is_refused (read (image s)) (room s) (given s) (offer_or_go_on c.args.offered c.args.fuel) _ _
    (answered_refused _ _ (sym c.refusal.ensures ∙ ap numbered c.in-Err.is))))

pub returns-in-Ok : goal.returns-in-Ok
returns-in-Ok c =
    let s = (goal.at.returns-in-Ok c).Start in
    let ok = accepted (goal.at.returns-in-Ok c).In-Ok in
    let one = offer_or_go_on c.args.offered c.args.fuel in
    let bytes = c.taking.new.bytes in
    let words = c.args.words.now in
    passed_call (room s) (image s) (table s) (given s) one _ c.requires
    (is-run (read (image s)) (room s) (given s) (lent c.taking.result bytes words) one _
    (state_of (lent c.taking.result bytes words))
    (outcome_from c.run.result c.run.new.bytes c.run.new.words) ok
    (rw (c.taking.ensures.head, c.taking.ensures.bytes)
    (call_state (room s) (image s) (table s)
    (head_in c.args.self) c.args.bytes.now words c.requires c.args.fuel c.args.offered ok))
    (rw (fuel_with c.args.offered c.args.fuel, ← c.taking.auto.bytes) c.run.ensures))
