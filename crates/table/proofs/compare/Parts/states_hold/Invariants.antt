use Prim.Native.Nat.{◌-◌}
use mathlib.Core.Path.{◌≡◌}
use lib.ListN.{length}
use Rattle.image.specs.Sets.{set_of}
use Rattle.table.proofs.CheckLoop.{Checking}
use Rattle.table.proofs.compare.Parts.states_hold.Given as goal

abbrev pub invariant-loop-q : goal.invariant-loop-q
invariant-loop-q l =
    (length l.trie ≡ length l.initial.trie)
    × Checking (set_of l.self.rooted.image) l.trie l.self.matches.now l.self.rows.now l.n l.self.width l.self.rooted.root l.q

abbrev pub decreases-loop-q : goal.decreases-loop-q
decreases-loop-q l = l.n - l.q
