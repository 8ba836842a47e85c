use Prim.Native.Nat.{◌+◌, ◌-◌}
use mathlib.Core.Path.{◌≡◌}
use lib.ListN.{length, drop}
use Rattle.machine.proofs.Writes.{Backing}
use Rattle.areas.proofs.held.put_back.Given as goal

abbrev pub invariant-loop-k : goal.invariant-loop-k
invariant-loop-k l =
    (l.held ≡ l.waiting + l.k) × Backing l.initial.bytes (length l.initial.bytes - l.waiting)
    (drop l.start l.image.bytes.now) l.n l.bytes l.k

abbrev pub decreases-loop-k : goal.decreases-loop-k
decreases-loop-k l = 8 - l.k
