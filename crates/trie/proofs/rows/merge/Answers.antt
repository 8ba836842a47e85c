-- `trie::rows::merge` meets its contract. The loop's invariant: the first `a` words of the row of `q` are merged.
use Rattle.trie.proofs.RowWords.{merged_more}
use Rattle.trie.proofs.rows.merge.Goals as goal

pub loop-a-preserved : goal.loop-a-preserved
loop-a-preserved c = merged_more _ _ _ _ _ _ c.requires.own c.loop-a-test.true c.loop-a.invariant _ c.chosen.ensures
