use Prim.Native.Nat.{◌-◌}
use Rattle.machine.proofs.Indexed.{Indexing}
use Rattle.areas.proofs.held.index.Given as goal

abbrev pub invariant-loop-i : goal.invariant-loop-i
invariant-loop-i l = Indexing l.image.bytes.now l.start-items l.at l.i

abbrev pub decreases-loop-i : goal.decreases-loop-i
decreases-loop-i l = l.i-end - l.i
