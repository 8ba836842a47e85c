-- Tests on lists that the definitions share, and writing into a longer area.
use Rattle.std.specs.Prelude.{ℕ, zero, suc, Bool, true, false, not, ◌&&◌, ◌||◌, List, [], ◌∷◌, ◌++◌, eqb, leb, ltb, length, drop}

module _ {A : Type 0} where
  -- each element passes the test
  abbrev pub all : (A → Bool) → List A → Bool
  all test [] = true
  all test (x ∷ xs) = test x && all test xs

  -- some element passes the test
  abbrev pub any : (A → Bool) → List A → Bool
  any test [] = false
  any test (x ∷ xs) = test x || any test xs

-- the two answers are equal
abbrev pub alike : Bool → Bool → Bool
alike true b = b
alike false b = not b

-- the two lists are equal
abbrev pub same : List ℕ → List ℕ → Bool
same [] [] = true
same [] (y ∷ t) = false
same (x ∷ s) [] = false
same (x ∷ s) (y ∷ t) = eqb x y && same s t

-- the second list begins with the first
abbrev pub prefix : List ℕ → List ℕ → Bool
prefix [] t = true
prefix (x ∷ s) [] = false
prefix (x ∷ s) (y ∷ t) = eqb x y && prefix s t

-- low ≤ n ≤ high
abbrev pub between : ℕ → ℕ → ℕ → Bool
between low n high = leb low n && leb n high

-- each number is below n
abbrev pub below : ℕ → List ℕ → Bool
below n xs = all (λ x. ltb x n) xs

-- 0, 1, .., n - 1
abbrev pub up_to : ℕ → List ℕ
up_to zero = []
up_to (suc n) = up_to n ++ n ∷ []

-- v written over the beginning of an area: "leaves those beyond, as does each operation, later ones too, that writes into
-- a longer area"
unfoldable pub over : List ℕ → List ℕ → List ℕ
over v area = v ++ drop (length v) area
