-- `write_lines` ends: each line is that of a further name.
use Rattle.std.proofs.Common.{length, ◌-◌}
use Rattle.watch.proofs.write_lines.Given as goal

abbrev pub invariant-loop-next : goal.invariant-loop-next
invariant-loop-next g l = Unit {0}

abbrev pub decreases-loop-next : goal.decreases-loop-next
decreases-loop-next g l = length l.input - l.walk.at
