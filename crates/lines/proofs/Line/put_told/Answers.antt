-- `Line::put_told` meets its contract.
use Prim.Native.Nat.{ℕ}
use mathlib.Core.Path.{ap}
use native.Mathlib.Omega.{arith}
use Rattle.std.specs.Prelude.{Ok, Option, Result}
use Rattle.layout.specs.declared.Refusal.{Refusal}
use Rattle.layout.specs.Refusals.{refused_by, numbered}
use Rattle.machine.specs.declared.Answer.{Answer}
use Rattle.printing.specs.Lines.{answer_word, counted, told}
use Rattle.printing.proofs.SlotNames.{answer_length}
use Rattle.lines.proofs.Writing.{room_left_in, writes_then_in}
use Rattle.lines.proofs.Line.put_told.Goals as goal

-- the refusal that an answer is
abbrev refused : Result Answer Refusal → Option ℕ
refused r = refused_by (numbered r)

pub put_byte-requires : goal.put_byte-requires
put_byte-requires g c =
    omega (arith, c.requires.room, answer_length c.args.names.now (Ok c.in-Ok.answer), room_left_in c.put_answer.ensures)

pub put_counted-requires : goal.put_counted-requires
unfolding refused_by
put_counted-requires g c = (
  omega arith,
  (
    c.requires.small (ap refused c.in-Ok.is),
    omega (
      arith,
      c.requires.room,
      answer_length c.args.names.now (Ok c.in-Ok.answer),
      room_left_in c.put_answer.ensures,
      room_left_in c.put_byte.ensures,
    ),
  ),
)

pub returns-in-Err : goal.returns-in-Err
unfolding answer_word told
returns-in-Err g c =
    rw c.in-Err.is (rw c.number.ensures at c.put_refused.ensures)

pub returns-in-Ok : goal.returns-in-Ok
unfolding told counted
returns-in-Ok g c =
    rw c.in-Ok.is (writes_then_in c.put_answer.ensures (writes_then_in c.put_byte.ensures c.put_counted.ensures))
