-- `parser::Reader::first` meets its contract.
use mathlib.Core.Path.{sym, ◌∙◌}
use Rattle.std.proofs.Math.Logic.{∥∥₁_map}
use Rattle.grammar.proofs.Sound.{sound_name}
use Rattle.parser.proofs.Keeping.{here_at}
use Rattle.parser.proofs.Taking.{first_events, first_other, still_held}
use Rattle.parser.proofs.Reader.first.Goals as goal

pub invariant_of-self : goal.invariant_of-self
invariant_of-self c =
    let x = c.args.x.bytes.now in
    record {
      held = ∥∥₁_map c.args.self.now.held (λ h.
          still_held _ (sound_name h.reading x h.reading.place h.sound h.sound.here c.args.x.named)
          (first_events h.keeps x (here_at h.keeps _ c.requires)
          (rw c.as_slice.ensures at (sym c.eq.ensures ∙ c.if-eq.true))));
    }

pub returns-then-eq : goal.returns-then-eq
returns-then-eq c = λ s sound k.
    first_events k c.args.x.bytes.now (here_at k _ c.requires) (rw c.as_slice.ensures at (sym c.eq.ensures ∙ c.if-eq.true))

pub returns-else-eq : goal.returns-else-eq
returns-else-eq c = λ s sound k.
    first_other k c.args.x.bytes.now (here_at k _ c.requires) (rw c.as_slice.ensures at (sym c.eq.ensures ∙ c.if-eq.false))
