-- `Line::put_rules_refused` meets its contract.
use native.Mathlib.Omega.{arith}
use Rattle.printing.specs.Ascii.{bytes}
use Rattle.printing.specs.Lines.{refused_line}
use Rattle.printing.proofs.Decimals.{decimal-length}
use Rattle.lines.proofs.Writing.{room_left_in, writes_then_in}
use Rattle.lines.proofs.Line.put_rules_refused.Goals as goal

pub put_decimal-requires : goal.put_decimal-requires
put_decimal-requires g c =
    omega (arith, c.requires, room_left_in c.put.ensures, decimal-length 9 c.from.result (omega arith))

pub put_byte-requires : goal.put_byte-requires
put_byte-requires g c =
    omega (
      arith,
      c.requires,
      room_left_in c.put.ensures,
      decimal-length 9 c.from.result (omega arith),
      room_left_in c.put_decimal.ensures,
    )

pub put_decimal-requires-2 : goal.put_decimal-requires-2
put_decimal-requires-2 g c =
    omega (
      arith,
      c.requires,
      room_left_in c.put.ensures,
      decimal-length 9 c.from.result (omega arith),
      room_left_in c.put_decimal.ensures,
      room_left_in c.put_byte.ensures,
      decimal-length 19 c.args.place (omega arith),
    )

pub put_byte-requires-2 : goal.put_byte-requires-2
put_byte-requires-2 g c =
    omega (
      arith,
      c.requires,
      room_left_in c.put.ensures,
      decimal-length 9 c.from.result (omega arith),
      room_left_in c.put_decimal.ensures,
      room_left_in c.put_byte.ensures,
      decimal-length 19 c.args.place (omega arith),
      room_left_in c.put_decimal-2.ensures,
    )

pub returns : goal.returns
unfolding refused_line bytes
returns g c =
    writes_then_in c.put.ensures
    (writes_then_in (rw c.from.ensures at c.put_decimal.ensures)
    (writes_then_in c.put_byte.ensures (writes_then_in c.put_decimal-2.ensures c.put_byte-2.ensures)))
