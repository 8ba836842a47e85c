use Rattle.trie.proofs.Nodes.{Searching}
use Rattle.trie.proofs.child.Given as goal

abbrev pub invariant-loop-c : goal.invariant-loop-c
invariant-loop-c l = Searching l.root l.trie l.n l.q l.a l.c

abbrev pub decreases-loop-c : goal.decreases-loop-c
decreases-loop-c l = l.c
