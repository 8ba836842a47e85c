-- `parser::Reader::right_word` meets its contract.
use mathlib.Core.Path.{sym, ◌∙◌}
use native.Mathlib.Omega.{arith}
use Rattle.std.proofs.Math.Logic.{∥∥₁_map}
use Rattle.grammar.proofs.Slots.{name_short}
use Rattle.grammar.proofs.Sound.{sound_word}
use Rattle.parser.proofs.Keeping.{words_number, here_at}
use Rattle.parser.proofs.Taking.{
  err_by,
  too_many_kept,
  word_behind,
  word_epsilon,
  word_17,
  word_verdict,
  still_held,
  held_words,
}
use Rattle.parser.proofs.Reader.right_word.Goals as goal

pub returns-then-self-ne0 : goal.returns-then-self-ne0
returns-then-self-ne0 c = λ s sound k.
    let w = here_at k _ c.requires in word_behind k w.0 w.1 w.2 w.3 c.args.x.bytes.now c.if-self-ne0.true

pub invariant_of-self : goal.invariant_of-self
invariant_of-self c =
    record {
      held = ∥∥₁_map c.args.self.now.held (λ h.
          let s = h.reading in
          let w = here_at h.keeps _ c.requires in
          still_held _ (sound_word s c.args.x.bytes.now s.place h.sound h.sound.here c.args.x.named)
          (word_epsilon h.keeps w.0 w.1 w.2 w.3 c.args.x.bytes.now c.if-self-ne0.false
          (rw c.as_slice.ensures at (sym c.eq.ensures ∙ c.if-eq.true))));
    }

pub returns-then-eq : goal.returns-then-eq
returns-then-eq c = λ s sound k.
    let w = here_at k _ c.requires in
    word_epsilon k w.0 w.1 w.2 w.3 c.args.x.bytes.now c.if-self-ne0.false
    (rw c.as_slice.ensures at (sym c.eq.ensures ∙ c.if-eq.true))

pub number_of-requires : goal.number_of-requires
number_of-requires c = (omega arith, name_short _ c.args.x.named)

pub invariant_of-self-in-Break-1 : goal.invariant_of-self-in-Break-1
invariant_of-self-in-Break-1 c =
    record {
      held = ∥∥₁_map c.args.self.now.held (λ h.
          let s = h.reading in
          held_words h _ _
          (too_many_kept 16 s.words c.args.x.bytes.now _ _
          (rw c.in_err-number.ensures.ok_part at (c.number_of.ensures.numbered s.words h.keeps.word-slots
          (words_number s h.keeps.numbers)
          h.sound.few_words))));
    }

pub returns-in_err-number : goal.returns-in_err-number
returns-in_err-number c = λ s sound k.
    let w = here_at k _ c.requires in
    rw (err_by _ _ _ _ c.from_residual.ensures.1 c.in_err-number.ensures.value)
    (word_17 k w.0 w.1 w.2 w.3 c.args.x.bytes.now c.if-self-ne0.false
    (rw c.as_slice.ensures at (sym c.eq.ensures ∙ c.if-eq.false)) _ _
    (rw c.in_err-number.ensures.ok_part at (c.number_of.ensures.numbered s.words k.word-slots (words_number s k.numbers)
    sound.few_words)) _)

pub invariant_of-self-2 : goal.invariant_of-self-2
invariant_of-self-2 c =
    record {
      held = ∥∥₁_map c.args.self.now.held (λ h.
          let s = h.reading in
          let w = here_at h.keeps _ c.requires in
          still_held _ (sound_word s c.args.x.bytes.now s.place h.sound h.sound.here c.args.x.named)
          (word_verdict h.keeps w.0 w.1 w.2 w.3 c.args.x.bytes.now c.if-self-ne0.false
          (rw c.as_slice.ensures at (sym c.eq.ensures ∙ c.if-eq.false)) _ _ c.in_ok-number.number
          (rw c.in_ok-number.ensures.ok_part at (c.number_of.ensures.numbered s.words h.keeps.word-slots
          (words_number s h.keeps.numbers)
          h.sound.few_words))));
    }

pub returns : goal.returns
returns c = λ s sound k.
    let w = here_at k _ c.requires in
    word_verdict k w.0 w.1 w.2 w.3 c.args.x.bytes.now c.if-self-ne0.false
    (rw c.as_slice.ensures at (sym c.eq.ensures ∙ c.if-eq.false)) _ _ c.in_ok-number.number
    (rw c.in_ok-number.ensures.ok_part at (c.number_of.ensures.numbered s.words k.word-slots (words_number s k.numbers)
    sound.few_words))
