-- `parser::Reader::close_events` meets its contract.
use Rattle.std.proofs.Math.Logic.{∥∥₁_map}
use Rattle.grammar.proofs.Sound.{sound_stop}
use Rattle.parser.proofs.Keeping.{here_at}
use Rattle.parser.proofs.Taking.{no_events, some_events, still_held}
use Rattle.parser.proofs.Reader.close_events.Goals as goal

pub returns-then-self-eq0 : goal.returns-then-self-eq0
returns-then-self-eq0 c = λ s sound k. no_events k (here_at k _ c.requires) c.if-self-eq0.true

pub invariant_of-self : goal.invariant_of-self
invariant_of-self c =
    record {
      held = ∥∥₁_map c.args.self.now.held (λ h.
          still_held _ (sound_stop h.reading h.reading.place h.sound h.sound.here)
          (some_events h.keeps (here_at h.keeps _ c.requires) c.if-self-eq0.false));
    }

pub returns : goal.returns
returns c = λ s sound k. some_events k (here_at k _ c.requires) c.if-self-eq0.false
