use Prim.Native.Nat.{◌+◌}
use lib.ListN.{length}
use Rattle.image.specs.Sets.{set_of}
use Rattle.trie.proofs.Laying.{LaidBelow}
use Rattle.trie.proofs.rows.lay_children.Given as goal

abbrev pub invariant-loop-c : goal.invariant-loop-c
invariant-loop-c l = LaidBelow (set_of l.rooted.image) l.rows (l.rooted.root + 1 + length l.yielded)
