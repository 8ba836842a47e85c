-- `trie::rows::fill` meets its contract: the first n nodes hold the trie too.
use Rattle.trie.proofs.Building.{built_taken}
use Rattle.trie.proofs.rows.fill.Goals as goal

pub fill_rows-requires-clause-trie : goal.fill_rows-requires-clause-trie
fill_rows-requires-clause-trie c = built_taken _ _ _ c.requires.trie
