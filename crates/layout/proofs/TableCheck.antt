-- Laws of the check of a lent image and table: what it answers, by what the code found.
-- Assumes nothing.
use Rattle.std.specs.Prelude.{Ok, Err}
use mathlib.Core.Path.{◌≡◌}
use mathlib.Core.Bool.{true, false}
use mathlib.Core.List.{List}
use Prim.Native.Nat.{ℕ}
use Rattle.rewriting.specs.Lists.{prefix}
use Rattle.layout.specs.Image.{read, valid}
use Rattle.layout.specs.Refusals.{refusal, answered}
use Rattle.layout.specs.Table.{table_of}
use Rattle.layout.specs.TableCheck.{check_of}

module _ (image table : List ℕ) where
  pub check_seven : valid image ≡ false → Err 7 ≡ check_of image table
  unfolding check_of answered refusal
  check_seven e = rw e

  pub check_nine : valid image ≡ true → prefix (table_of (read image)) table ≡ false → Err 9 ≡ check_of image table
  unfolding check_of answered refusal
  check_nine e p = rw (e, p)

  pub check_passed : valid image ≡ true → prefix (table_of (read image)) table ≡ true → Ok tt ≡ check_of image table
  unfolding check_of answered refusal
  check_passed e p = rw (e, p)
