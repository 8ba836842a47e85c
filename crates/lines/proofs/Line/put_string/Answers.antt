-- `Line::put_string` meets its contract.
use native.Mathlib.Omega.{arith}
use Rattle.printing.proofs.SlotNames.{name-length}
use Rattle.lines.proofs.Writing.{room_left_in, writes_then_in, writes_as_in}
use Rattle.lines.proofs.Joining.{commas_length, joined_left, joined_right, joined_none}
use Rattle.lines.proofs.Joining.{others_below, settled_below, waiting_below}
use Rattle.lines.proofs.Line.put_string.Goals as goal

pub put_symbols-requires : goal.put_symbols-requires
put_symbols-requires g c = (
  omega arith,
  (
    others_below _ _ _ c.in-Some.ensures.cases.0 (settled_below c.args.settled.now c.args.waiting.now c.requires.slots),
    omega (
      arith,
      c.requires.room,
      c.in-Some.ensures.cases.1,
      name-length c.args.names.now c.from.result,
      room_left_in c.put_name.ensures,
    ),
  ),
)

pub put_symbols-requires-in-Some : goal.put_symbols-requires-in-Some
put_symbols-requires-in-Some g c = (
  omega arith,
  (
    waiting_below c.args.settled.now c.args.waiting.now c.requires.slots,
    omega (
      arith,
      c.requires.room,
      c.in-Some.ensures.cases.1,
      name-length c.args.names.now c.from.result,
      room_left_in c.put_name.ensures,
      commas_length c.args.names.now c.in-Some.others.now,
      room_left_in c.put_symbols.ensures,
    ),
  ),
)

pub returns-in-Some : goal.returns-in-Some
returns-in-Some g c =
    writes_as_in (joined_left _ _ _ _ _ c.in-Some.ensures.cases.0)
    (writes_then_in (rw c.from.ensures at c.put_name.ensures)
    (writes_then_in c.put_symbols.ensures c.put_symbols-in-Some.ensures))

pub put_symbols-requires-in-Some-split_first : goal.put_symbols-requires-in-Some-split_first
put_symbols-requires-in-Some-split_first g c = (
  omega arith,
  (
    others_below _ _ _ c.in-Some-split_first.ensures.cases.0
        (waiting_below c.args.settled.now c.args.waiting.now c.requires.slots),
    omega (
      arith,
      c.requires.room,
      c.in-Some-split_first.ensures.cases.1,
      name-length c.args.names.now c.from-in-Some-split_first.result,
      room_left_in c.put_name-in-Some-split_first.ensures,
    ),
  ),
)

pub returns-in-Some-split_first : goal.returns-in-Some-split_first
returns-in-Some-split_first g c =
    writes_as_in (joined_right _ _ _ _ _ c.in_default.ensures.cases c.in-Some-split_first.ensures.cases.0)
    (writes_then_in (rw c.from-in-Some-split_first.ensures at c.put_name-in-Some-split_first.ensures)
    c.put_symbols-in-Some-split_first.ensures)

pub returns-in_default-split_first : goal.returns-in_default-split_first
returns-in_default-split_first g c =
    writes_as_in (joined_none _ _ _ c.in_default.ensures.cases c.in_default-split_first.ensures.cases) c.put_byte.ensures
