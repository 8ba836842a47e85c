use Prim.Native.Nat.{◌+◌, ◌-◌, ◌≤◌}
use mathlib.Core.Path.{◌≡◌}
use Rattle.machine.proofs.Writes.{Popping}
use Rattle.areas.proofs.held.take_off.Given as goal

abbrev pub invariant-loop-k : goal.invariant-loop-k
invariant-loop-k l =
    (l.at + l.k ≡ l.settled + 1) × (l.k ≤ l.size) × Popping l.initial.bytes l.settled l.bytes l.at
    × Popping l.initial.words l.settled l.words l.at

abbrev pub decreases-loop-k : goal.decreases-loop-k
decreases-loop-k l = 8 - l.k
