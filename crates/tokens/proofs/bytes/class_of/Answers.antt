-- `tokens::bytes::class_of` meets its contract: the table has the class of each byte.
use native.Mathlib.Omega.{arith}
use Rattle.tokens.proofs.Classes.{table_entry}
use Rattle.tokens.proofs.bytes.class_of.Goals as goal

pub returns : goal.returns
returns c = table_entry c.args.b (omega arith)
