-- `parser::Reader::name` meets its contract.
use mathlib.Core.Path.{refl}
use Rattle.std.proofs.Math.Logic.{∥∥₁_elim}
use Rattle.std.proofs.Math.Bridge.{le_prop}
use Rattle.parser.proofs.Room.{left_rules, right_rules}
use Rattle.parser.proofs.Keeping.{here_at}
use Rattle.parser.proofs.Taking.{name-ending}
use Rattle.parser.proofs.Reader.name.Goals as goal

pub side_symbol-requires-clause-few : goal.side_symbol-requires-clause-few
side_symbol-requires-clause-few c = ∥∥₁_elim c.args.self.now.held le_prop (λ h. left_rules h c.in-Left.is)

pub side_symbol-requires-in-Right-clause-few : goal.side_symbol-requires-in-Right-clause-few
side_symbol-requires-in-Right-clause-few c = ∥∥₁_elim c.args.self.now.held le_prop (λ h. right_rules h c.in-Right.is)

pub returns-in-Ending : goal.returns-in-Ending
returns-in-Ending c = λ s sound k.
    let here = here_at k _ c.in-Ending.is in rw (name-ending s c.args.x.bytes.now here.0 here.1 here.2 here.3) refl
