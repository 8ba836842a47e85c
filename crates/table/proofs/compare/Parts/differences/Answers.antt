-- `table::compare::Parts::differences` meets its contract: the others are the words of the row of f.
use Rattle.layout.specs.Words.{transition}
use Rattle.std.proofs.Common.{rules}
use Rattle.table.specs.Consistent.{differing}
use Rattle.table.proofs.compare.Parts.differences.Goals as goal

pub returns : goal.returns
unfolding differing
returns c = c.unlike.ensures (transition c.args.self.rows.now c.args.self.width c.args.f) (λ a r h e. search rules)
