-- `parser::Reader::word` meets its contract.
use mathlib.Core.Path.{refl}
use Rattle.parser.proofs.Places.{word_elsewhere}
use Rattle.parser.proofs.Keeping.{place_number}
use Rattle.parser.proofs.Reader.word.Goals as goal

pub returns-in_default : goal.returns-in_default
returns-in_default c = λ s sound k.
    rw (word_elsewhere s c.args.x.bytes.now s.place (rw (place_number s k.numbers) at c.in_default.not-Right)) refl
