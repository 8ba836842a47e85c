-- `tokens::names::Names::number_of` meets its contract.
use mathlib.Core.Path.{sym, ◌∙◌}
use native.Mathlib.Omega.{arith}
use Rattle.tokens.proofs.Numbering.{number_found, number_full, number_new, among-below}
use Rattle.tokens.proofs.names.Names.number_of.Goals as goal

pub returns-in-Some-clause-numbered : goal.returns-in-Some-clause-numbered
returns-in-Some-clause-numbered g c = λ names kept all_kept few.
    number_found g.row.N names _ _ _ _ kept all_kept few c.slot_of-key.ensures _ (sym c.find.ensures ∙ c.in-Some.is)

pub returns-in-Some-clause-near : goal.returns-in-Some-clause-near
returns-in-Some-clause-near g c =
    omega (arith, among-below _ _ _ (sym c.find.ensures ∙ c.in-Some.is))

pub returns-then-number-clause-numbered : goal.returns-then-number-clause-numbered
returns-then-number-clause-numbered g c = λ names kept all_kept few.
    number_full g.row.N names _ _ _ _ kept all_kept few c.slot_of-key.ensures (sym c.find.ensures ∙ c.in_default.is)
    c.if-number.true

pub returns-clause-numbered : goal.returns-clause-numbered
returns-clause-numbered g c = λ names kept all_kept few.
    number_new g.row.N names _ _ _ _ kept all_kept few c.slot_of-key.ensures (sym c.find.ensures ∙ c.in_default.is)
    c.if-number.false
