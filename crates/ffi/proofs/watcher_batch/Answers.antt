-- `watcher_batch` meets its contract.
use Rattle.ffi.proofs.Made.{batch-word, batch_made_lem}
use Rattle.ffi.proofs.watcher_batch.Goals as goal

pub told-requires : goal.told-requires
told-requires c = batch-word _ _ _ _ _ _ _ _ c.batch-batched.ensures

pub returns : goal.returns
returns c =
    rw (c.from.ensures, c.refusal_of.ensures)
    (batch_made_lem _ (rw c.head_from.ensures at c.batch-batched.ensures) _ _ c.told.ensures.refusal c.told.ensures.head)
