-- `monitor::Head::batch` meets its contract: what the offers lead to, or their refusal, as `batch_from` has it.
use Rattle.layout.specs.Refusals.{refusal_number, refused_by}
use Rattle.machine.specs.Run.{no_counts}
use Rattle.monitor.proofs.Head.batch.Goals as goal

pub returns-in-Ok : goal.returns-in-Ok
unfolding refused_by
returns-in-Ok c = c.in-Ok.ensures

pub returns-in-Err : goal.returns-in-Err
unfolding refused_by refusal_number no_counts
returns-in-Err c = c.in-Err.ensures
