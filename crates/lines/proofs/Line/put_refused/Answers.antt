-- `Line::put_refused` meets its contract.
use native.Mathlib.Omega.{arith}
use Rattle.printing.specs.Ascii.{bytes}
use Rattle.printing.proofs.Decimals.{decimal-length}
use Rattle.lines.proofs.Writing.{room_left_in, writes_then_in}
use Rattle.lines.proofs.Line.put_refused.Goals as goal

pub put_decimal-requires : goal.put_decimal-requires
put_decimal-requires g c =
    omega (arith, c.requires.room, room_left_in c.put.ensures, decimal-length 9 c.from.result (omega arith))

pub put_byte-requires : goal.put_byte-requires
put_byte-requires g c =
    omega (
      arith,
      c.requires.room,
      room_left_in c.put.ensures,
      decimal-length 9 c.from.result (omega arith),
      room_left_in c.put_decimal.ensures,
    )

pub returns : goal.returns
unfolding bytes
returns g c = writes_then_in c.put.ensures (writes_then_in (rw c.from.ensures at c.put_decimal.ensures) c.put_byte.ensures)
