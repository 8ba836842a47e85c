-- Where the words of rows stand: row q of s words begins at word q * s.
-- Assumes nothing.
use Prim.Native.Nat.{ℕ, ◌+◌, ◌*◌, ◌/◌, ◌%◌, ◌≤◌, ◌<◌}
use mathlib.Core.Path.{◌≡◌, refl}
use mathlib.Core.Bool.{Bool, true, false}
use mathlib.Core.Logic.{◌⊎◌, inl, inr, ⊎_elim}
use native.Mathlib.Omega.{arith}
use native.Mathlib.Nat.{suc-mul, mul-le-mul_right, mod-lt, div-add-mod', div-lt_iff_lt-mul}
use lib.Dec.{eqb, ltb}
use borrow.Author.Tests.{ltb-true, ltb-false, eqb-true, eqb-false}

-- a row of s words ends where the next begins, or before
pub row_end : (s q n : ℕ) → q < n → q * s + s ≤ n * s
row_end s q n h = rw suc-mul at (mul-le-mul_right s h)

-- and its words stand before that
pub word_within : (s q n a : ℕ) → q < n → a < s → q * s + a < n * s
word_within s q n a h k = omega (arith, row_end s q n h)

-- row f ends where row q begins or before, or it begins there or behind
pub row_order : (s q f : ℕ) → (f * s + s ≤ q * s) ⊎ (q * s ≤ f * s)
row_order s q f = go (ltb f q) refl
  where
    go : (b : Bool) → ltb f q ≡ b → (f * s + s ≤ q * s) ⊎ (q * s ≤ f * s)
    go true e = inl (row_end s f q (ltb-true f q e))
    go false e = inr (mul-le-mul_right s (ltb-false f q e))

-- of two rows one ends where the other begins or before
pub row_apart : (s q f : ℕ) → (f ≡ q → ⊥) → (f * s + s ≤ q * s) ⊎ (q * s + s ≤ f * s)
row_apart s q f differs = go (ltb f q) refl
  where
    go : (b : Bool) → ltb f q ≡ b → (f * s + s ≤ q * s) ⊎ (q * s + s ≤ f * s)
    go true e = inl (row_end s f q (ltb-true f q e))
    go false e =
        let h : q ≤ f = ltb-false f q e in
        let k : q < f = omega arith in
        inr (row_end s q f k)

-- a place determines its row
pub place_row : (s q f a b : ℕ) → a < s → b < s → q * s + a ≡ f * s + b → q ≡ f
place_row s q f a b h k e = go (eqb q f) refl
  where
    go : (t : Bool) → eqb q f ≡ t → q ≡ f
    go true p = eqb-true q f p
    go false p =
        absurd
        (⊎_elim (λ (l : q * s + s ≤ f * s). omega arith) (λ (l : f * s + s ≤ q * s). omega arith)
        (row_apart s f q (eqb-false q f p)))

-- a place in n rows is that of a symbol in one of them
pub place_parts : (s n k : ℕ) → 0 < s → k < n * s → (q : ℕ) × (a : ℕ) × (q < n) × (a < s) × (q * s + a ≡ k)
place_parts s n k pos h = (k / s, k % s, (div-lt_iff_lt-mul pos).1 h, mod-lt k pos, div-add-mod' k s)
