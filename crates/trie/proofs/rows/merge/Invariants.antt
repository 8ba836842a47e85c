use Rattle.trie.specs.Rows.{Merged}
use Rattle.trie.proofs.rows.merge.Given as goal

abbrev pub invariant-loop-a : goal.invariant-loop-a
invariant-loop-a l = Merged l.initial.rows l.rows l.s l.q l.f l.a
