-- `Line::put_decimal` meets its contract.
use mathlib.Core.Path.{refl}
use Rattle.lines.proofs.Writing.{writes_behind, writes_in}
use Rattle.lines.proofs.Line.put_decimal.Goals as goal

pub returns : goal.returns
returns g c =
    let made = c.write_decimal-digits.ensures in
    writes_in (writes_behind _ _ _ _ _ c.args.self.now.inside c.requires made.digits made.line) refl
