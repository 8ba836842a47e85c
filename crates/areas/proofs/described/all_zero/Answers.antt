-- `areas::described::all_zero` meets its contract. The loop's invariant: `all` is 0 exactly when the first i numbers of each
-- quarter are.
use native.Mathlib.Omega.{arith}
use Rattle.areas.proofs.Zeros.{quarters_all}
use Rattle.areas.proofs.described.all_zero.Goals as goal

pub returns : goal.returns
returns g c =
    quarters_all g.met.T.Bits.gathers c.args.items.now c.quarter-size.result c.is_zero.result c.quarter-size.ensures.all
    c.loop-i.invariant
    (omega (arith, c.loop-i-test.false)) c.is_zero.ensures
