-- `parser::Reader::token` meets its contract.
use mathlib.Core.Path.{refl}
use Rattle.grammar.specs.Grammar.{after_run, after_token}
use Rattle.tokens.specs.Scanned.{token_as}
use Rattle.parser.proofs.Taking.{err_by}
use Rattle.parser.proofs.Reader.token.Goals as goal

pub returns-in_err-ok_or : goal.returns-in_err-ok_or
unfolding after_run after_token token_as
returns-in_err-ok_or c = λ s sound k.
    rw (err_by _ _ _ _ c.from_residual.ensures.1 c.in_err-ok_or.ensures.value, c.in_err-ok_or.ensures.ok_part) refl

pub returns-in-Name : goal.returns-in-Name
unfolding after_run after_token token_as
returns-in-Name c = λ s sound k. rw (c.in_ok-ok_or.ensures.ok_part, c.in-Name.is) (c.name.ensures s sound k)

pub returns-in-Word : goal.returns-in-Word
unfolding after_run after_token token_as
returns-in-Word c = λ s sound k. rw (c.in_ok-ok_or.ensures.ok_part, c.in-Word.is) (c.word.ensures s sound k)

pub returns-in-Arrow : goal.returns-in-Arrow
unfolding after_run after_token token_as
returns-in-Arrow c = λ s sound k. rw (c.in_ok-ok_or.ensures.ok_part, c.in-Arrow.is) (c.arrow.ensures s sound k)

pub returns-in-Stop : goal.returns-in-Stop
unfolding after_run after_token token_as
returns-in-Stop c = λ s sound k. rw (c.in_ok-ok_or.ensures.ok_part, c.in-Stop.is) (c.stop.ensures s sound k)

pub returns-in-Mark : goal.returns-in-Mark
unfolding after_run after_token token_as
returns-in-Mark c = λ s sound k. rw (c.in_ok-ok_or.ensures.ok_part, c.in-Mark.is) (c.mark.ensures s sound k)
