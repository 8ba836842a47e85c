-- `parser::Reader::ended` meets its contract.
use Rattle.parser.proofs.Places.{incomplete}
use Rattle.parser.proofs.Keeping.{place_number, here_at}
use Rattle.parser.proofs.Reading.{ended_good, ended_early}
use Rattle.parser.proofs.Reader.ended.Goals as goal

pub returns-in-Between : goal.returns-in-Between
returns-in-Between c = λ s sound k. ended_good c.args.size sound k (here_at k _ c.in-Between.is)

pub returns-in_default : goal.returns-in_default
returns-in_default c = λ s sound k.
    ended_early c.args.size sound k (incomplete s.place (rw (place_number s k.numbers) at c.in_default.not-Between))
