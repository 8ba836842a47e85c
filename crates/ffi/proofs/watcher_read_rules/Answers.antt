-- `ffi::watcher_read_rules` meets its contract, by the answer of read_rules.
use mathlib.Core.Path.{sym, ap, ◌∙◌}
use Rattle.grammar.specs.Read.{answered, refused_by, refusal_place, image_length}
use Rattle.layout.specs.Refusals.{refusal_number}
use Rattle.ffi.specs.Numbers.{read_number, read_words}
use Rattle.ffi.proofs.watcher_read_rules.Goals as goal

pub returns-in-Ok : goal.returns-in-Ok
unfolding read_number read_words refusal_number refused_by image_length refusal_place
returns-in-Ok c =
    let called = c.read_rules in
    let answer = sym called.ensures.answer ∙ ap answered c.in-Ok.is in record {
      refusal = rw answer;
      image = called.ensures.image;
      names = called.ensures.names;
      words = rw answer;
    }

pub returns-in-Err : goal.returns-in-Err
unfolding read_number read_words refusal_number refused_by image_length refusal_place
returns-in-Err c =
    let called = c.read_rules in
    let answer = sym called.ensures.answer ∙ ap answered c.in-Err.is in record {
      refusal = rw answer c.number.ensures;
      image = called.ensures.image;
      names = called.ensures.names;
      words = rw answer;
    }
