-- `monitor::Head::offers` meets its contract: refused by the first of its checks that fails, or the offers one after another.
use Rattle.std.proofs.Common.{length, ◌∙◌}
use Rattle.std.proofs.lemmas.Result.{err_from_is_err_and}
use Rattle.machine.specs.Areas.{document_capacity, Monitor}
use Rattle.machine.specs.Lent.{Passed}
use Rattle.monitor.specs.Lent.{lent}
use Rattle.layout.specs.Refusals.{refusal_number, refused_by}
use Rattle.machine.proofs.Offering.{passed_sizes}
use Rattle.machine.proofs.BatchChecks.{batch_lent_refused, batch_fuel_refused, batch_many_refused, batch_room_refused}
use Rattle.machine.proofs.BatchChecks.{batch-taken}
use Rattle.monitor.proofs.Head.offers.Goals.{
  Start,
  then-events-gt-EVENTS_MOST-via-then-events-gt-EVENTS_MOST,
  then-events-gt-EVENTS_MOST-via-else-events-gt-EVENTS_MOST+then-answers-events,
}
use Rattle.monitor.proofs.Head.offers.Goals as goal

-- what is lent

abbrev given : Start → Monitor
given s = lent s.args.self s.args.bytes.now s.args.words.now

pub returns-in_err-table : goal.returns-in_err-table
unfolding refusal_number refused_by
returns-in_err-table c =
    let s = (goal.at.returns-in_err-table c).Start in
    let back = err_from_is_err_and c.from_residual.result c.from_residual.ensures.1 in
    rw (back.1, back.2)
    (batch_lent_refused document_capacity c.args.image.now c.args.table.now (given s) c.args.events.now c.args.fuel
    c.args.answers.now _ c.in_err-table.ensures)

pub returns-then-fuel-gt-FUEL_MOST : goal.returns-then-fuel-gt-FUEL_MOST
unfolding refusal_number refused_by
returns-then-fuel-gt-FUEL_MOST c =
    let s = (goal.at.returns-then-fuel-gt-FUEL_MOST c).Start in
    let t = c.in_ok-table.table in
    rw (← c.in_ok-table.ensures.0, ← c.in_ok-table.ensures.1)
    (batch_fuel_refused document_capacity t.image.bytes.now t.words.now (given s) c.args.events.now c.args.fuel
    c.args.answers.now c.in_ok-table.ensures.2 c.if-fuel-gt-FUEL_MOST.true)

pub returns-then-events-gt-EVENTS_MOST : goal.returns-then-events-gt-EVENTS_MOST
unfolding refusal_number refused_by
returns-then-events-gt-EVENTS_MOST c =
    let s = (goal.at.returns-then-events-gt-EVENTS_MOST c).Start in
    let image = c.in_ok-table.table.image.bytes.now in
    let table = c.in_ok-table.table.words.now in
    let events = c.args.events.now in
    let fuel = c.args.fuel in
    let answers = c.args.answers.now in
    rw (← c.in_ok-table.ensures.0, ← c.in_ok-table.ensures.1)
    (elim c.then-events-gt-EVENTS_MOST.branch [
      | then-events-gt-EVENTS_MOST-via-then-events-gt-EVENTS_MOST w ↦
          batch_many_refused document_capacity image table (given s) events fuel answers c.in_ok-table.ensures.2
          c.if-fuel-gt-FUEL_MOST.false w.if-events-gt-EVENTS_MOST.true
      | then-events-gt-EVENTS_MOST-via-else-events-gt-EVENTS_MOST+then-answers-events w ↦
          batch_room_refused document_capacity image table (given s) events fuel answers c.in_ok-table.ensures.2
          c.if-fuel-gt-FUEL_MOST.false w.if-events-gt-EVENTS_MOST.false w.if-answers-events.true
    ])

pub in_turn-requires-clause-lent : goal.in_turn-requires-clause-lent
in_turn-requires-clause-lent c =
    let s = (goal.at.in_turn-requires-clause-lent c).Start in
    let t = c.in_ok-table.table in
    let passed : Passed (length c.args.bytes.now) t.image.bytes.now t.words.now (given s) =
    rw (passed_sizes document_capacity t.image.bytes.now t.words.now (given s) c.in_ok-table.ensures.2).0 c.in_ok-table.ensures.2
    in
    rw (c.new-rules.ensures.image, c.new-rules.ensures.words) passed

pub returns : goal.returns
unfolding refusal_number refused_by
returns c =
    let s = (goal.at.returns c).Start in
    let image = c.in_ok-table.table.image.bytes.now in
    let table = c.in_ok-table.table.words.now in
    let ok = c.in_ok-table.ensures.2 in
    rw (← c.in_ok-table.ensures.0, ← c.in_ok-table.ensures.1)
    (rw (
      (passed_sizes document_capacity image table (given s) ok).0,
      c.new-rules.ensures.image,
      c.new-rules.ensures.words,
    ) at c.in_turn.ensures
    ∙ batch-taken document_capacity image table (given s) c.args.events.now c.args.fuel c.args.answers.now ok
    c.if-fuel-gt-FUEL_MOST.false c.if-events-gt-EVENTS_MOST.false c.if-answers-events.false)
