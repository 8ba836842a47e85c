-- `Line::put_counts` meets its contract: a number up to 1,000 has four digits at most.
use native.Mathlib.Omega.{arith}
use Rattle.printing.proofs.Decimals.{decimal-length}
use Rattle.lines.proofs.Writing.{room_left_in, writes_then_in}
use Rattle.lines.proofs.Line.put_counts.Goals as goal

pub put_decimal-requires : goal.put_decimal-requires
put_decimal-requires g c =
    omega (arith, c.requires.room, decimal-length 3 c.args.steps (omega (arith, c.requires.few.0)))

pub put_byte-requires : goal.put_byte-requires
put_byte-requires g c =
    omega (
      arith,
      c.requires.room,
      decimal-length 3 c.args.steps (omega (arith, c.requires.few.0)),
      room_left_in c.put_decimal.ensures,
    )

pub put_decimal-requires-2 : goal.put_decimal-requires-2
put_decimal-requires-2 g c =
    omega (
      arith,
      c.requires.room,
      decimal-length 3 c.args.steps (omega (arith, c.requires.few.0)),
      decimal-length 3 c.args.rewrites (omega (arith, c.requires.few.1)),
      room_left_in c.put_decimal.ensures,
      room_left_in c.put_byte.ensures,
    )

pub returns : goal.returns
returns g c = writes_then_in c.put_decimal.ensures (writes_then_in c.put_byte.ensures c.put_decimal-2.ensures)
