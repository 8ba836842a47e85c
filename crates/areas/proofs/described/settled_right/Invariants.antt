use Prim.Native.Nat.{◌-◌}
use lib.ListN.{take}
use Rattle.layout.specs.Image.{read}
use Rattle.machine.specs.Lent.{Settled}
use Rattle.areas.proofs.described.settled_right.Given as goal

abbrev pub invariant-loop-i : goal.invariant-loop-i
invariant-loop-i l = Settled (read l.table.image.bytes.now) (take l.i l.symbols) (take l.i l.words)

abbrev pub decreases-loop-i : goal.decreases-loop-i
decreases-loop-i l = l.i-end - l.i
