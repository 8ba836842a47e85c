-- Answers as numbers: 0, or the number that document 01 gives the refusal.
use Rattle.std.specs.Prelude.{ℕ, List, [], ◌∷◌, Result}
use Rattle.layout.specs.Refusals.{refusal_number, refused_by}
use Rattle.grammar.specs.Read as Read

unfoldable pub read_number : Result ℕ (ℕ × ℕ) → ℕ
read_number r = refusal_number (Read.refused_by r)

-- the image's length, and the place of a refusal
unfoldable pub read_words : Result ℕ (ℕ × ℕ) → List ℕ
read_words r = Read.image_length r ∷ Read.refusal_place r ∷ []

unfoldable pub refused_number : {A : Type 0} → Result A ℕ → ℕ
refused_number r = refusal_number (refused_by r)
