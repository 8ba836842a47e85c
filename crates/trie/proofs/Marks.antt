-- A marked rule, and the number of the root that follows from it.
-- Assumes nothing.
use Prim.Native.Nat.{ℕ, zero, suc}
use mathlib.Core.Path.{◌≡◌, refl}
use mathlib.Core.Bool.{Bool, true, false, ◌||◌}
use mathlib.Core.List.{List, [], ◌∷◌}
use native.Mathlib.Omega.{arith}
use Rattle.rewriting.specs.Rules.{Rule, rule}
use Rattle.layout.specs.States.{has_mark}
use Rattle.layout.specs.Words.{root}

-- rule i is marked
pub mark_here : (rs : List Rule) (i : ℕ) → (rule rs i).marked ≡ true → has_mark rs ≡ true
unfolding has_mark rule
mark_here [] i e = let z : ◌≡◌ {A = ℕ} 0 1 = cc in absurd (omega arith)
mark_here (r ∷ rs) zero e = rw e
mark_here (r ∷ rs) (suc i) e = go r.marked (mark_here rs i e)
  where
    go : (m : Bool) → has_mark rs ≡ true → (m || has_mark rs) ≡ true
    go true h = refl
    go false h = h

-- the empty string has number 1 then
pub root_found : (rs : List Rule) (i : ℕ) → (rule rs i).marked ≡ true → root rs ≡ 1
unfolding root
root_found rs i e = rw (mark_here rs i e)
