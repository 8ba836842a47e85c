-- `table::compare::Parts::transitions` meets its contract: the others are the root's number.
use Rattle.std.proofs.Common.{rules}
use Rattle.table.specs.Consistent.{leaving}
use Rattle.table.proofs.compare.Parts.transitions.Goals as goal

pub returns : goal.returns
unfolding leaving
returns c = c.unlike.ensures (λ a. c.args.self.rooted.root) (λ a r h e. search rules)
