use lib.ListN.{length}
use Rattle.image.specs.Sets.{set_of}
use Rattle.trie.proofs.Building.{Building}
use Rattle.trie.proofs.build.Given as goal

abbrev pub invariant-loop-i : goal.invariant-loop-i
invariant-loop-i l = Building (set_of l.rooted.image) (length l.initial.trie) l.i l.n l.at l.trie
