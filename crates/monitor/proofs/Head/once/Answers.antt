-- `monitor::Head::once` meets its contract: refused by what is lent, or the call.
use Rattle.std.proofs.Common.{length}
use Rattle.machine.specs.Areas.{document_capacity, Monitor}
use Rattle.machine.specs.Lent.{Passed, offer_or_go_on}
use Rattle.monitor.specs.Lent.{lent}
use Rattle.machine.proofs.Offering.{passed_sizes}
use Rattle.machine.proofs.Deciding.{lent_refused}
use Rattle.monitor.proofs.Head.once.Goals.{Start}
use Rattle.monitor.proofs.Head.once.Goals as goal

-- what is lent
abbrev given : Start → Monitor
given s = lent s.args.self s.args.bytes.now s.args.words.now

pub returns-in-Err : goal.returns-in-Err
returns-in-Err c =
    let s = (goal.at.returns-in-Err c).Start in
    rw c.refused.ensures
    (lent_refused document_capacity c.args.image.now c.args.table.now (given s) (offer_or_go_on c.args.offered c.args.fuel) _
    c.in-Err.ensures)

pub call-requires : goal.call-requires
call-requires c =
    let s = (goal.at.call-requires c).Start in
    let t = c.in-Ok.table in
    let passed : Passed (length c.args.bytes.now) t.image.bytes.now t.words.now (given s) =
    rw (passed_sizes document_capacity t.image.bytes.now t.words.now (given s) c.in-Ok.ensures.2).0 c.in-Ok.ensures.2
    in
    rw (c.new-rules.ensures.image, c.new-rules.ensures.words) passed

pub returns : goal.returns
returns c =
    let s = (goal.at.returns c).Start in
    let t = c.in-Ok.table in
    rw (← c.in-Ok.ensures.0, ← c.in-Ok.ensures.1)
    (rw (
      (passed_sizes document_capacity t.image.bytes.now t.words.now (given s) c.in-Ok.ensures.2).0,
      c.new-rules.ensures.image,
      c.new-rules.ensures.words,
    ) at c.call.ensures)
