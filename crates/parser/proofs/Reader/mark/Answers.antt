-- `parser::Reader::mark` meets its contract.
use mathlib.Core.Path.{refl}
use Rattle.std.proofs.Math.Logic.{∥∥₁_map}
use Rattle.grammar.proofs.Sound.{sound_mark}
use Rattle.parser.proofs.Places.{mark_elsewhere}
use Rattle.parser.proofs.Keeping.{place_number, here_at}
use Rattle.parser.proofs.Taking.{mark-between, still_held}
use Rattle.parser.proofs.Reader.mark.Goals as goal

pub invariant_of-self : goal.invariant_of-self
invariant_of-self c =
    record {
      held = ∥∥₁_map c.args.self.now.held (λ h.
          still_held _ (sound_mark h.reading h.reading.place h.sound h.sound.here)
          (mark-between h.keeps (here_at h.keeps _ c.in-Between.is)));
    }

pub returns-in-Between : goal.returns-in-Between
returns-in-Between c = λ s sound k. mark-between k (here_at k _ c.in-Between.is)

pub returns-in_default : goal.returns-in_default
returns-in_default c = λ s sound k.
    rw (mark_elsewhere s s.place (rw (place_number s k.numbers) at c.in_default.not-Between)) refl
