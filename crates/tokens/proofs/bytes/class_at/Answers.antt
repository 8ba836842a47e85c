-- `tokens::bytes::class_at` meets its contract: behind the last byte there is a separator's class.
use borrow.Author.Rules.{rules}
use Rattle.tokens.proofs.Classes.{class_behind}
use Rattle.tokens.proofs.bytes.class_at.Goals as goal

pub returns-in-None : goal.returns-in-None
returns-in-None c = class_behind c.args.text.now c.args.i (search rules)
