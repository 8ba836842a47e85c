-- `table::check` meets its contract: refused 7 where the image is not valid, 9 where the table is not its table.
use mathlib.Core.Path.{sym, ◌∙◌}
use Rattle.layout.proofs.TableCheck.{check_seven, check_nine, check_passed}
use Rattle.table.proofs.check.Goals as goal

pub returns-in-None : goal.returns-in-None
returns-in-None c = check_seven _ _ c.in-None.ensures

pub returns-in-Some : goal.returns-in-Some
returns-in-Some c =
    rw c.in-Some.ensures at
    (check_passed _ _ c.in-Some.rooted.image.valid (sym c.begins_with_table.ensures ∙ c.if-begins_with_table.true))

pub returns-in-Some-2 : goal.returns-in-Some-2
returns-in-Some-2 c =
    rw c.in-Some.ensures at
    (check_nine _ _ c.in-Some.rooted.image.valid (sym c.begins_with_table.ensures ∙ c.if-begins_with_table.false))
