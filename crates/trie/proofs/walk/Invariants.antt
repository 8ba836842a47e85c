use lib.ListN.{length}
use Rattle.image.specs.Sets.{set_of}
use Rattle.trie.proofs.Walking.{Walking}
use Rattle.trie.proofs.walk.Given as goal

abbrev pub invariant-loop-a : goal.invariant-loop-a
invariant-loop-a l = Walking (set_of l.rooted.image) l.i (length l.initial.trie) l.a-index l.q l.nodes l.trie
