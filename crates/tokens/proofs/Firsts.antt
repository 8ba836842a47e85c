-- The counts of separators and of other bytes, as the places that a search finds.
-- Assumes nothing.
use Prim.Native.Nat.{ℕ, suc, ◌+◌}
use mathlib.Core.Path.{◌≡◌, refl, ◌∙◌}
use mathlib.Core.Bool.{Bool, true, false, cond, not}
use mathlib.Core.List.{List, [], ◌∷◌}
use native.Mathlib.Omega.{arith}
use lib.Dec.{ltb}
use borrow.Author.Tests.{ltb-false}
use Rattle.std.proofs.lemmas.List.Sums.{prefix_len-le-length}
use lib.ListN.{length}
use Rattle.std.specs.Prelude.{Option, Some, None}
use Rattle.std.specs.Option.{unwrap_or}
use Rattle.std.specs.List.{position_or_len}
use Rattle.std.proofs.lemmas.List.Recursion.{is_position_or_len}
use Rattle.grammar.specs.Tokens.{separator, unbroken}
use Rattle.grammar.specs.FirstRun.{gap}

-- the place of the first that passes, and the length where none does
pub place_or_length :
    {A : Type 0} (test : A → Bool) (xs : List A) (o : Option ℕ)
    → o ≡ cond (ltb (position_or_len test xs) (length xs)) (Some (position_or_len test xs)) None
    → unwrap_or o (length xs) ≡ position_or_len test xs
place_or_length test xs o e = go (ltb (position_or_len test xs) (length xs)) refl (rw e)
  where
    go :
        (b : Bool) → ltb (position_or_len test xs) (length xs) ≡ b
        → unwrap_or o (length xs) ≡ unwrap_or (cond b (Some (position_or_len test xs)) None) (length xs)
        → unwrap_or o (length xs) ≡ position_or_len test xs
    go true h f = f
    go false h f = f ∙ omega (arith, ltb-false _ _ h, prefix_len-le-length (λ x. not (test x)) xs)

pub gap-place : (t : List ℕ) → gap t ≡ position_or_len (λ b. not (separator b)) t
unfolding gap
gap-place t = is_position_or_len gap (λ b. not (separator b)) refl step t
  where
    step : (b : ℕ) (t : List ℕ) → gap (b ∷ t) ≡ cond (not (separator b)) 0 (1 + gap t)
    step b t = go (separator b)
      where
        go : (s : Bool) → cond s (suc (gap t)) 0 ≡ cond (not s) 0 (1 + gap t)
        go true = omega arith
        go false = refl

pub unbroken-place : (t : List ℕ) → length (unbroken t) ≡ position_or_len separator t
unfolding unbroken
unbroken-place t = is_position_or_len (λ (x : List ℕ). length (unbroken x)) separator refl step t
  where
    step : (b : ℕ) (t : List ℕ) → length (unbroken (b ∷ t)) ≡ cond (separator b) 0 (1 + length (unbroken t))
    step b t = go (separator b)
      where
        go : (s : Bool) → length (cond s [] (b ∷ unbroken t)) ≡ cond s 0 (1 + length (unbroken t))
        go true = refl
        go false = omega arith
