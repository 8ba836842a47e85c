use Rattle.std.proofs.Common.{◌≡◌, take}
use lib.Dec.{ltb}
use Rattle.rewriting.specs.Lists.{below}
use Rattle.validity.proofs.all_below.Given as goal

abbrev pub invariant-loop-x : goal.invariant-loop-x
invariant-loop-x l = ltb l.most l.s ≡ below l.s (take l.x-index l.symbols)
