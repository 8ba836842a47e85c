-- `areas::described::few_zero` meets its contract. The loop's invariant: `all` is 0 exactly when the numbers before `x` are.
use native.Mathlib.Omega.{arith}
use Rattle.areas.proofs.Zeros.{tells_all}
use Rattle.areas.proofs.described.few_zero.Goals as goal

pub returns : goal.returns
returns g c =
    tells_all c.args.items.now c.is_zero.result c.loop-x.invariant (omega (arith, c.loop-x-test.false)) c.is_zero.ensures
