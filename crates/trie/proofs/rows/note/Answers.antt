-- `trie::rows::note` meets its contract: it stores one node.
use mathlib.Core.Path.{refl}
use Rattle.trie.specs.Rows.{noted}
use Rattle.trie.proofs.rows.note.Goals as goal

pub returns : goal.returns
unfolding noted
returns c = rw c.chosen.ensures refl
