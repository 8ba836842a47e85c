-- Compile, as a function of the image and the area lent to it.
use Rattle.std.specs.Prelude.{ℕ, ◌≡◌, true, leb, length, take, drop, Option, None, Some, Result, Ok, Err}
use mathlib.Core.List.{List, [], ◌∷◌, Memᴰ}
use Rattle.rewriting.specs.Lists.{over}
use Rattle.layout.specs.Image.{read, valid}
use Rattle.layout.specs.Refusals.{Check, refusal, refused_by}
use Rattle.layout.specs.Table.{table_of}

-- What compile answers, the number of words written or the number of the refusal, and the area as it leaves it.
pub record Compilation : Type 0 where
  pub answer : Result ℕ ℕ
  pub area : List ℕ

-- "It refuses, in order: 7, the image breaks the layout or a range above; 8, the table area is shorter than the words needed."
unfoldable pub compile_checks : List ℕ → List ℕ → List Check
compile_checks image area = (valid image, 7) ∷ (leb (length (table_of (read image))) (length area), 8) ∷ []

-- a refusal, or the table written
unfoldable pub compiled : Option ℕ → List ℕ → List ℕ → Compilation
compiled (Some n) table area = record { answer = Err n; area = area }
compiled None table area = record { answer = Ok (length table); area = over table area }

-- "Compile returns the number of words written and leaves those beyond."
unfoldable pub compile_of : List ℕ → List ℕ → Compilation
compile_of image area = compiled (refusal (compile_checks image area)) (table_of (read image)) area

-- the number of words written, 0 beside a refusal
unfoldable pub word_count : Result ℕ ℕ → ℕ
word_count (Ok n) = n
word_count (Err n) = 0

-- What is promised of compile on whatever image and area, and of what it leads to: `compile_theorem` (proofs/Compilation.antt).
pub record CompileEnded (image area : List ℕ) (c : Compilation) : Type 0 where
  -- It is refused with 7 or 8, and then the area is as it was, ..
  pub refused : (n : ℕ) → refused_by c.answer ≡ Some n
      → Memᴰ n (7 ∷ 8 ∷ []) × (word_count c.answer ≡ 0) × (c.area ≡ area)
  -- .. or the image is valid, the table stands at the beginning of the area, and the words beyond it are as they were.
  pub taken : refused_by c.answer ≡ None
      → (valid image ≡ true)
      × (word_count c.answer ≡ length (table_of (read image)))
      × (take (word_count c.answer) c.area ≡ table_of (read image))
      × (drop (word_count c.answer) c.area ≡ drop (word_count c.answer) area)
  -- It keeps its length.
  pub size : length c.area ≡ length area

abbrev pub CompileCompiles : Type 0
CompileCompiles = (image area : List ℕ) → CompileEnded image area (compile_of image area)
