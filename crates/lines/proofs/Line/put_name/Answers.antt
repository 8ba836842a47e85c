-- `Line::put_name` meets its contract.
use Prim.Native.Nat.{ℕ, ◌+◌, ◌*◌, ◌-◌, min}
use mathlib.Core.Path.{◌≡◌}
use mathlib.Core.List.{List}
use native.Mathlib.Omega.{arith}
use lib.ListN.{get_or, take, drop}
use Rattle.std.proofs.Common.{inl, inr}
use Rattle.std.proofs.lemmas.Bool.{cases_lt}
use Rattle.printing.specs.Lines.{name_in}
use Rattle.printing.proofs.SlotNames.{name_long, name_whole}
use Rattle.lines.proofs.Writing.{writes_as_in}
use Rattle.lines.proofs.Line.put_name.Goals as goal

name_part :
    (names : List ℕ) (i m : ℕ) → m ≡ min (get_or names (25 * i) 0) 24
    → take (25 * i + 1 + m - (25 * i + 1)) (drop (25 * i + 1) names) ≡ name_in names i
name_part names i m e = elim (cases_lt 24 (get_or names (25 * i) 0)) [
  | inl long ↦ (let is : m ≡ 24 = omega (arith, e, long) in rw is (name_long names i long))
  | inr whole ↦ (let is : m ≡ get_or names (25 * i) 0 = omega (arith, e, whole) in rw is (name_whole names i whole))
]

pub returns : goal.returns
returns g c = writes_as_in (name_part _ _ _ (rw c.from.ensures at c.min-size.ensures)) c.put.ensures
