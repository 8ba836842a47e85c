-- The first run of a part of a text: where it begins and ends.
use Rattle.std.specs.Prelude.{ℕ, suc, ◌+◌, cond, List, [], ◌∷◌, length, drop}
use Rattle.std.specs.declared.ops.Range.{Range}
use Rattle.grammar.specs.Tokens.{separator, unbroken}

-- the number of separators before the first run
unfoldable pub gap : List ℕ → ℕ
gap [] = 0
gap (b ∷ t) = cond (separator b) (suc (gap t)) 0

-- The first run of a part of a text; at its end, and empty, where there is none. That it is the first of `runs`: `first_some`,
-- `first_none` (proofs/Runs.antt).
unfoldable pub first_run : List ℕ → Range ℕ
first_run part =
    record { start = gap part; end = gap part + length (unbroken (drop (gap part) part)) }
