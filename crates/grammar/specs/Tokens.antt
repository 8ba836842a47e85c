-- Tokens: "ASCII tokens separated by space, tab, CR or LF".
use Rattle.std.specs.Prelude.{ℕ, suc, Bool, true, false, cond, ◌&&◌, ◌||◌, List, [], ◌∷◌, eqb, leb, length, Option, None, Some}
use Rattle.rewriting.specs.Lists.{all, same, between}

-- "space, tab, CR or LF"
unfoldable pub separator : ℕ → Bool
separator b = eqb b 32 || eqb b 9 || eqb b 13 || eqb b 10

-- A to Z, a to z
unfoldable pub letter : ℕ → Bool
letter b = between 65 b 90 || between 97 b 122

-- 0 to 9
unfoldable pub digit : ℕ → Bool
digit b = between 48 b 57

-- "letters, digits or `_`"
unfoldable pub name_byte : ℕ → Bool
name_byte b = letter b || digit b || eqb b 95

-- "a name (a letter, then letters, digits or `_`, at most 24 bytes)"
unfoldable pub is_name : List ℕ → Bool
is_name [] = false
is_name (b ∷ t) = letter b && all name_byte t && leb (length (b ∷ t)) 24

-- "a name .., `#` and a name, `->`, `.`", and with document 02, No. 1, `^`
pub data Token : Type 0 where
  Name : List ℕ → Token
  Word : List ℕ → Token
  Arrow : Token
  Stop : Token
  Mark : Token

-- the token that a run of bytes is, if it is one
unfoldable pub token_of : List ℕ → Option Token
token_of [] = None
token_of (b ∷ t) =
    cond (is_name (b ∷ t)) (Some (Name (b ∷ t)))
    (cond (eqb b 35 && is_name t) (Some (Word t))
    (cond (same (b ∷ t) (45 ∷ 62 ∷ [])) (Some Arrow)
    (cond (same (b ∷ t) (46 ∷ [])) (Some Stop)
    (cond (same (b ∷ t) (94 ∷ [])) (Some Mark) None))))

-- A run of bytes other than separators, as long as can be, and the place of its first byte in the text.
pub record Run : Type 0 where
  pub place : ℕ
  pub bytes : List ℕ

-- the bytes before the first separator
unfoldable pub unbroken : List ℕ → List ℕ
unbroken [] = []
unbroken (b ∷ t) = cond (separator b) [] (b ∷ unbroken t)

-- The runs that begin in t, whose first byte has the place i in the text. A run begins at a byte that is no separator
-- and has none but a separator before it: `apart` says whether t's first byte has.
unfoldable pub runs_from : Bool → ℕ → List ℕ → List Run
runs_from apart i [] = []
runs_from apart i (b ∷ t) =
    cond (separator b) (runs_from true (suc i) t)
    (cond apart (record { place = i; bytes = unbroken (b ∷ t) } ∷ runs_from false (suc i) t) (runs_from false (suc i) t))

-- the runs of a text
unfoldable pub runs : List ℕ → List Run
runs text = runs_from true 0 text
