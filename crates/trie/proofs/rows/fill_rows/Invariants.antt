use Rattle.image.specs.Sets.{set_of}
use Rattle.trie.specs.Rows.{FillingAt}
use Rattle.trie.proofs.rows.fill_rows.Given as goal

abbrev pub invariant-loop-d : goal.invariant-loop-d
invariant-loop-d l = FillingAt (set_of l.rooted.image) l.d 0 l.trie l.rows
