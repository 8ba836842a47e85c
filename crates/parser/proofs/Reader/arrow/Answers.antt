-- `parser::Reader::arrow` meets its contract.
use mathlib.Core.Path.{refl}
use Rattle.std.proofs.Math.Logic.{∥∥₁_map}
use Rattle.grammar.proofs.Sound.{sound_arrow}
use Rattle.parser.proofs.Places.{arrow_elsewhere}
use Rattle.parser.proofs.Keeping.{place_number, here_at}
use Rattle.parser.proofs.Taking.{arrow_left, still_held}
use Rattle.parser.proofs.Reader.arrow.Goals as goal

pub invariant_of-self : goal.invariant_of-self
invariant_of-self c =
    record {
      held = ∥∥₁_map c.args.self.now.held (λ h.
          let w = here_at h.keeps _ c.in-Left.is in
          still_held _ (sound_arrow h.reading h.reading.place h.sound h.sound.here) (arrow_left h.keeps w.0 w.1 w.2));
    }

pub returns-in-Left : goal.returns-in-Left
returns-in-Left c = λ s sound k. let w = here_at k _ c.in-Left.is in arrow_left k w.0 w.1 w.2

pub returns-in_default : goal.returns-in_default
returns-in_default c = λ s sound k. rw (arrow_elsewhere s s.place (rw (place_number s k.numbers) at c.in_default.not-Left)) refl
