-- `Head::refused` meets its contract.
use mathlib.Core.Path.{refl}
use Rattle.machine.specs.Run.{no_counts}
use Rattle.monitor.proofs.Head.refused.Goals as goal

pub returns : goal.returns
unfolding no_counts
returns c = refl
