-- `validity::body_size` meets its contract: each way out has the law for its case, from the tests that led there.
use Rattle.std.proofs.Common.{arith, sym}
use Rattle.layout.proofs.ImageCheck.{
  size_string,
  size_verdict,
  size_no_left,
  size_long_left,
  size_last,
  size_long_right,
  size_kind,
  size_no_verdict,
}
use Rattle.validity.proofs.body_size.Goals.{
  then-left-lt1-via-then-left-lt1,
  then-left-lt1-via-else-left-lt1+then-left-gt8,
  then-left-lt1-via-else-left-lt1+else-left-gt8+then-last-gt1,
}
use Rattle.validity.proofs.body_size.Goals as goal

pub returns-then-left-lt1 : goal.returns-then-left-lt1
returns-then-left-lt1 c =
    elim c.then-left-lt1.branch [
      | then-left-lt1-via-then-left-lt1 w ↦ size_no_left _ _ _ _ _ (omega arith)
      | then-left-lt1-via-else-left-lt1+then-left-gt8 w ↦ size_long_left _ _ _ _ _ (omega arith)
      | then-left-lt1-via-else-left-lt1+else-left-gt8+then-last-gt1 w ↦ size_last _ _ _ _ _ (omega arith)
    ]

pub returns-in-0 : goal.returns-in-0
returns-in-0 c = (omega arith, sym (size_string _ _ _ _ _ (omega arith)))

pub returns-in-1 : goal.returns-in-1
returns-in-1 c = (omega arith, sym (size_verdict _ _ _ _ _ (omega arith)))

pub returns-in_default : goal.returns-in_default
returns-in_default c = size_long_right _ _ _ _ _ (omega arith)

pub returns-in_default-2 : goal.returns-in_default-2
returns-in_default-2 c = size_no_verdict _ _ _ _ _ (omega arith)

pub returns-in_default-3 : goal.returns-in_default-3
returns-in_default-3 c = size_kind _ _ _ _ _ (omega arith)
