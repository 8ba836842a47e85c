-- `Played::refused` meets its contract.
use mathlib.Core.Path.{refl}
use Rattle.machine.specs.State.{active, empty}
use Rattle.machine.specs.Run.{no_counts}
use Rattle.machine.specs.Areas.{head_of}
use Rattle.calls.proofs.Played.refused.Goals as goal

pub returns : goal.returns
unfolding head_of empty active no_counts
returns c = refl
