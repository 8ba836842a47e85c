-- Where a rule's sides stand in an image, and what a right side is as the code answers it.
use Rattle.std.specs.Prelude.{ℕ, ◌+◌, ◌*◌, length, take}
use mathlib.Core.List.{flat_map}
use Rattle.rewriting.specs.Rules.{Right, Put, Close, RuleSet, rule}
use Rattle.layout.specs.Image.{body}
use Rattle.layout.specs.declared.RightSide.{RightSide}

-- where the body of rule i begins, its left side first: behind 4 bytes, the contents and the bodies of the rules before it
unfoldable pub left_at : RuleSet → ℕ → ℕ
left_at set i = 4 + 4 * length set.rules + length (flat_map body (take i set.rules))

-- its right symbols stand behind its left symbols
unfoldable pub right_at : RuleSet → ℕ → ℕ
right_at set i = left_at set i + length (rule set.rules i).left

-- the number of symbols of a string, or the verdict
unfoldable pub right_side_of : Right → RightSide
right_side_of (Put v) = RightSide.Put (length v)
right_side_of (Close v) = RightSide.Close v
