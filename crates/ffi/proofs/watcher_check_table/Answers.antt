-- `ffi::watcher_check_table` meets its contract, by the answer of check.
use mathlib.Core.Path.{ap, ◌∙◌}
use Rattle.monitor.specs.Lent.{stop_number}
use Rattle.ffi.specs.Numbers.{refused_number}
use Rattle.ffi.proofs.Made.{err_number}
use Rattle.ffi.proofs.watcher_check_table.Goals as goal

pub returns : goal.returns
returns c =
    c.refusal_of.ensures ∙ ap stop_number c.err.ensures.value ∙ err_number c.check.result ∙ ap refused_number c.check.ensures
