-- `ffi::watcher_compile` meets its contract, by the answer of compile.
use mathlib.Core.Path.{sym, ap, ◌∙◌}
use Rattle.layout.specs.Compile.{word_count}
use Rattle.layout.specs.Refusals.{refusal_number, refused_by, numbered}
use Rattle.ffi.specs.Numbers.{refused_number}
use Rattle.ffi.proofs.watcher_compile.Goals as goal

pub returns-in-Ok : goal.returns-in-Ok
unfolding refused_number refusal_number refused_by word_count
returns-in-Ok c =
    let called = c.compile in
    let answer = sym called.ensures.answer ∙ ap numbered c.in-Ok.is in record {
      refusal = rw answer;
      area = called.ensures.area;
      words = rw answer;
    }

pub returns-in-Err : goal.returns-in-Err
unfolding refused_number refusal_number refused_by word_count
returns-in-Err c =
    let called = c.compile in
    let answer = sym called.ensures.answer ∙ ap numbered c.in-Err.is in record {
      refusal = rw (answer, c.number.ensures);
      area = called.ensures.area;
      words = rw answer;
    }
