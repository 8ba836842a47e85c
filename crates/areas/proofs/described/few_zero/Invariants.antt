use lib.ListN.{get_or}
use Rattle.areas.proofs.Zeros.{Tells}
use Rattle.areas.proofs.described.few_zero.Given as goal

abbrev pub invariant-loop-x : goal.invariant-loop-x
invariant-loop-x g l = let zero = g.T.Bits.zero in Tells zero (λ k. get_or l.items k zero) l.all l.x-index
