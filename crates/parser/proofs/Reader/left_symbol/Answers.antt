-- `parser::Reader::left_symbol` meets its contract.
use Rattle.parser.proofs.Taking.{name_65}
use Rattle.parser.proofs.Reader.left_symbol.Goals as goal

pub returns-then-self-ge64 : goal.returns-then-self-ge64
returns-then-self-ge64 c = λ s sound k. name_65 k c.args.x.bytes.now c.requires c.if-self-ge64.true
