-- The check of a lent image and table, which each call of a monitor begins with.
use Rattle.std.specs.Prelude.{ℕ, List, [], ◌∷◌, Result}
use Rattle.rewriting.specs.Lists.{prefix}
use Rattle.layout.specs.Image.{read, valid}
use Rattle.layout.specs.Refusals.{Check, refusal, answered}
use Rattle.layout.specs.Table.{table_of}

-- "7; 9, the table does not begin with the words that compile gives for this image"
abbrev pub table_checks : List ℕ → List ℕ → List Check
table_checks image table = (valid image, 7) ∷ (prefix (table_of (read image)) table, 9) ∷ []

unfoldable pub check_of : List ℕ → List ℕ → Result (Unit {0}) ℕ
check_of image table = answered (refusal (table_checks image table))
