use Rattle.areas.proofs.Zeros.{Tells, quarters}
use Rattle.areas.proofs.described.all_zero.Given as goal

abbrev pub invariant-loop-i : goal.invariant-loop-i
invariant-loop-i g l = let bits = g.T.Bits in Tells bits.zero (quarters bits.zero bits.or_of l.items l.size) l.all l.i
