-- `parser::Reader::side_symbol` meets its contract.
use native.Mathlib.Omega.{arith}
use Rattle.std.proofs.Math.Logic.{∥∥₁_elim, ∥∥₁_map}
use Rattle.std.proofs.Math.Bridge.{le_prop}
use Rattle.grammar.proofs.Slots.{name_short}
use Rattle.grammar.proofs.Sound.{sound_name}
use Rattle.parser.specs.Held.{Held}
use Rattle.parser.proofs.Room.{side_room}
use Rattle.parser.proofs.Keeping.{symbols_number}
use Rattle.parser.proofs.Taking.{err_by, too_many_kept, ninth, symbol_33, side_longer, in_side, still_held, held_symbols}
use Rattle.parser.proofs.Reader.side_symbol.Goals as goal

pub returns-then-self-ge8 : goal.returns-then-self-ge8
returns-then-self-ge8 c = λ s sound k.
    let i = in_side k c.args.x.bytes.now _ c.requires.place c.requires.few in
    rw i.is (ninth k c.args.x.bytes.now i.side i.to i.longer.size c.if-self-ge8.true)

pub number_of-requires : goal.number_of-requires
number_of-requires c = (omega arith, name_short _ c.args.x.named)

pub invariant_of-self : goal.invariant_of-self
invariant_of-self c =
    record {
      held = ∥∥₁_map c.args.self.now.held (λ h.
          let s = h.reading in
          held_symbols h _ _
          (too_many_kept 32 s.symbols c.args.x.bytes.now _ _
          (rw c.in_err-number.ensures.ok_part at (c.number_of.ensures.numbered s.symbols h.keeps.symbol-slots
          (symbols_number s h.keeps.numbers)
          h.sound.few_symbols))));
    }

pub returns-in_err-number : goal.returns-in_err-number
returns-in_err-number c = λ s sound k.
    let i = in_side k c.args.x.bytes.now _ c.requires.place c.requires.few in
    rw (err_by _ _ _ _ c.from_residual.ensures.1 c.in_err-number.ensures.value, i.is)
    (symbol_33 k c.args.x.bytes.now i.side i.to i.longer _ _ c.if-self-ge8.false
    (rw c.in_err-number.ensures.ok_part at (c.number_of.ensures.numbered s.symbols k.symbol-slots (symbols_number s k.numbers)
    sound.few_symbols)) _)

pub bounds-self-self : goal.bounds-self-self
bounds-self-self c =
    ∥∥₁_elim c.args.self.now.held le_prop (λ h. side_room h _ c.requires.place c.requires.few c.if-self-ge8.false)

pub overflow_add-self : goal.overflow_add-self
overflow_add-self c =
    let room = ∥∥₁_elim c.args.self.now.held le_prop (λ h. side_room h _ c.requires.place c.requires.few c.if-self-ge8.false) in
    omega (arith, room)

pub invariant_of-self-2 : goal.invariant_of-self-2
invariant_of-self-2 c =
    record {
      held = ∥∥₁_map c.args.self.now.held (λ h.
          let s = h.reading in
          let i = in_side h.keeps c.args.x.bytes.now _ c.requires.place c.requires.few in
          still_held _ (sound_name s c.args.x.bytes.now s.place h.sound h.sound.here c.args.x.named)
          (rw i.is
          (side_longer h.keeps c.args.x.bytes.now i.side i.to i.longer _ _ c.if-self-ge8.false c.in_ok-number.number
          (rw c.in_ok-number.ensures.ok_part at (c.number_of.ensures.numbered s.symbols h.keeps.symbol-slots
          (symbols_number s h.keeps.numbers)
          h.sound.few_symbols))
          (rw h.keeps.bodies_size_lem (side_room h _ c.requires.place c.requires.few c.if-self-ge8.false)))));
    }

pub returns : goal.returns
returns c = λ s sound k.
    let i = in_side k c.args.x.bytes.now _ c.requires.place c.requires.few in
    let h : Held _ _ _ _ _ = record { reading = s; sound = sound; keeps = k } in
    rw i.is
    (side_longer k c.args.x.bytes.now i.side i.to i.longer _ _ c.if-self-ge8.false c.in_ok-number.number
    (rw c.in_ok-number.ensures.ok_part at (c.number_of.ensures.numbered s.symbols k.symbol-slots (symbols_number s k.numbers)
    sound.few_symbols))
    (rw k.bodies_size_lem (side_room h _ c.requires.place c.requires.few c.if-self-ge8.false)))
