-- `parser::Reader::event` meets its contract.
use native.Mathlib.Omega.{arith}
use Rattle.std.proofs.Math.Logic.{∥∥₁_map}
use Rattle.grammar.proofs.Slots.{name_short}
use Rattle.parser.proofs.Keeping.{symbols_number, here_at}
use Rattle.parser.proofs.Taking.{err_by, event_twice, event_33, event_new, event_held}
use Rattle.parser.proofs.Reader.event.Goals as goal

pub number_of-requires : goal.number_of-requires
number_of-requires c = (omega arith, name_short _ c.args.x.named)

pub invariant_of-self : goal.invariant_of-self
invariant_of-self c =
    record {
      held = ∥∥₁_map c.args.self.now.held (λ h.
          event_held h c.args.x.bytes.now c.args.x.named c.requires c.number_of.result _ _
          (c.number_of.ensures.numbered h.reading.symbols h.keeps.symbol-slots (symbols_number h.reading h.keeps.numbers)
          h.sound.few_symbols));
    }

pub returns-in_err-number : goal.returns-in_err-number
returns-in_err-number c = λ s sound k.
    rw (err_by _ _ _ _ c.from_residual.ensures.1 c.in_err-number.ensures.value)
    (event_33 k c.args.x.bytes.now _ _ (here_at k _ c.requires)
    (rw c.in_err-number.ensures.ok_part at (c.number_of.ensures.numbered s.symbols k.symbol-slots (symbols_number s k.numbers)
    sound.few_symbols)) _)

pub returns-then-number-before : goal.returns-then-number-before
returns-then-number-before c = λ s sound k.
    event_twice k c.args.x.bytes.now _ _ (here_at k _ c.requires) c.in_ok-number.number
    (rw c.in_ok-number.ensures.ok_part at (c.number_of.ensures.numbered s.symbols k.symbol-slots (symbols_number s k.numbers)
    sound.few_symbols))
    c.if-number-before.true _

pub returns : goal.returns
returns c = λ s sound k.
    event_new k c.args.x.bytes.now _ _ (here_at k _ c.requires) c.in_ok-number.number
    (rw c.in_ok-number.ensures.ok_part at (c.number_of.ensures.numbered s.symbols k.symbol-slots (symbols_number s k.numbers)
    sound.few_symbols))
    c.if-number-before.false
