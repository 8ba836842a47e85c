-- `table::compare::Parts::led_to` meets its contract: it reads the parent's row at the node's symbol.
use Prim.Native.Nat.{◌+◌, ◌*◌, ◌<◌}
use native.Mathlib.Omega.{arith}
use lib.ListN.{length}
use Rattle.table.proofs.compare.Parts.led_to.Goals.{After-from-a}
use Rattle.table.proofs.compare.Parts.led_to.Goals as goal

-- the word that is read stands in the rows
inside : (c : After-from-a)
    → c.from-p.result * c.args.self.width + c.from-a.result
    < length c.args.self.rows.now
inside c =
    rw (c.from-a.ensures, c.from-p.ensures) c.requires.row

pub overflow_mul-p : goal.overflow_mul-p
overflow_mul-p c = omega (arith, inside c)

pub overflow_add-p : goal.overflow_add-p
overflow_add-p c = omega (arith, inside c)

pub offset_bounds-self-p : goal.offset_bounds-self-p
offset_bounds-self-p c = omega (arith, inside c)

pub bounds-self-p : goal.bounds-self-p
bounds-self-p c = inside (goal.at.bounds-self-p c).After-from-a

pub returns : goal.returns
returns c =
    rw (c.from.ensures, c.from-a.ensures, c.from-p.ensures)
