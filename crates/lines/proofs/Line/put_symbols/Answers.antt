-- `Line::put_symbols` meets its contract. The loop's invariant: the names of the symbols before this one are written.
use mathlib.Core.Path.{ap}
use native.Mathlib.Numerals.{add-one}
use native.Mathlib.Omega.{arith}
use lib.Seq.{take_all}
use Rattle.lines.proofs.Writing.{room_left_in, writes_as_in}
use Rattle.lines.proofs.Joining.{with_commas, naming_first_in, naming_room_in, naming_next_in, symbol_below}
use Rattle.lines.proofs.Line.put_symbols.Goals as goal

pub loop-symbol-init : goal.loop-symbol-init
loop-symbol-init g c = naming_first_in c.args.names.now c.args.symbols.now _

pub put_byte-requires : goal.put_byte-requires
put_byte-requires g c =
    omega (
      arith,
      naming_room_in c.args.names.now c.args.symbols.now c.loop-symbol.invariant c.loop-symbol-test.true c.requires.room,
    )

pub put_name-requires : goal.put_name-requires
put_name-requires g c = (
  omega arith,
  (
    rw c.from.ensures (symbol_below c.args.symbols.now c.loop-symbol.symbol-index c.requires.slots c.loop-symbol-test.true),
    omega (
      arith,
      naming_room_in c.args.names.now c.args.symbols.now c.loop-symbol.invariant c.loop-symbol-test.true c.requires.room,
      room_left_in c.put_byte.ensures,
    ),
  ),
)

pub loop-symbol-preserved : goal.loop-symbol-preserved
loop-symbol-preserved g c =
    rw add-one
    (naming_next_in c.args.names.now c.args.symbols.now c.loop-symbol.invariant c.loop-symbol-test.true c.put_byte.ensures
    (rw c.from.ensures at c.put_name.ensures))

pub returns : goal.returns
returns g c =
    let all = take_all c.loop-symbol.symbol-index c.args.symbols.now c.loop-symbol-test.false in
    writes_as_in (ap (with_commas c.args.names.now) all) c.loop-symbol.invariant
