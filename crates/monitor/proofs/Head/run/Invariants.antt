use Prim.Native.Nat.{◌+◌, ◌<◌}
use mathlib.Core.Path.{◌≡◌}
use Rattle.std.specs.Prelude.{None}
use Rattle.monitor.specs.Lent.{head_in}
use Rattle.machine.proofs.Running.{Running}
use Rattle.monitor.proofs.Head.run.Given as goal

abbrev pub invariant-loop-left : goal.invariant-loop-left
invariant-loop-left l =
    (0 < l.head.waiting) × (l.head.verdict ≡ None) × (l.counts.steps + l.left ≡ l.fuel)
    × Running l.rules.table.image.bytes.now l.rules.table.words.now l.initial.bytes l.initial.words l.fuel
    (head_in l.initial.head)
    l.bytes l.words (head_in l.head) l.counts

abbrev pub decreases-loop-left : goal.decreases-loop-left
decreases-loop-left l = l.left
