-- `parser::Reader::stop` meets its contract.
use mathlib.Core.Path.{refl}
use Rattle.parser.proofs.Places.{stop_elsewhere}
use Rattle.parser.proofs.Keeping.{place_number, here_at}
use Rattle.parser.proofs.Taking.{stop-empty}
use Rattle.parser.proofs.Reader.stop.Goals as goal

pub returns-then-self-eq0 : goal.returns-then-self-eq0
returns-then-self-eq0 c = λ s sound k.
    let here = here_at k _ c.in-Right.is in stop-empty k here.0 here.1 here.2 here.3 c.if-self-eq0.true

pub returns-in_default : goal.returns-in_default
returns-in_default c = λ s sound k.
    let e = place_number s k.numbers in
    let not = c.in_default in
    rw (stop_elsewhere s s.place (rw e at not.not-Events) (rw e at not.not-Right) (rw e at not.not-Ending)) refl
