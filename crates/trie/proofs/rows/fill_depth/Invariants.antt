use Rattle.image.specs.Sets.{set_of}
use Rattle.trie.specs.Rows.{FillingAt}
use Rattle.trie.proofs.rows.fill_depth.Given as goal

abbrev pub invariant-loop-q : goal.invariant-loop-q
invariant-loop-q l = FillingAt (set_of l.rooted.image) l.d l.q l.trie l.rows
