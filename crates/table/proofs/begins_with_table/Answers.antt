-- `table::begins_with_table` meets its contract: either array has room for the trie, and no node of it is in use.
use mathlib.Core.Path.{refl}
use Rattle.trie.proofs.Walking.{roomy_small, roomy_large}
use Rattle.table.proofs.begins_with_table.Goals as goal

pub begins_by-requires : goal.begins_by-requires
begins_by-requires c = (refl, roomy_small _ (rw c.bodies_length.ensures at c.if-bodies_length-lt63.true))

pub begins_by-requires-else-bodies_length-lt63 : goal.begins_by-requires-else-bodies_length-lt63
begins_by-requires-else-bodies_length-lt63 c = (refl, roomy_large _ c.args.rooted.image.valid)
