-- `table::begins_by` meets its contract: by the trie, what the comparison says.
use Rattle.trie.proofs.Building.{built_taken}
use Rattle.table.proofs.begins_by.Goals as goal

pub holds-requires : goal.holds-requires
holds-requires c = built_taken _ _ _ c.build-n.ensures
