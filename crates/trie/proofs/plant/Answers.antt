-- `trie::plant` meets its contract: it stores node 0.
use mathlib.Core.Path.{refl}
use Rattle.trie.specs.Nodes.{planted}
use Rattle.trie.proofs.plant.Goals as goal

pub returns : goal.returns
unfolding planted
returns c = refl
