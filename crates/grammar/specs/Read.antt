-- The reader, as a function of the text and the two areas lent to it.
use Rattle.std.specs.Prelude.{ℕ, ◌≤◌, ◌≡◌, true, cond, ◌&&◌, leb, length, take, drop, Option, None, Some, Result, Ok, Err}
use mathlib.Core.List.{List, [], ◌∷◌, ◌++◌, Memᴰ}
use Rattle.rewriting.specs.Lists.{over}
use Rattle.layout.specs.Image.{image_most, image_of, read, valid}
use Rattle.layout.specs.Refusals.{Check, refusal, number}
use Rattle.grammar.specs.declared.TextError.{TextError}
use Rattle.grammar.specs.Tokens.{Run, token_of, runs}
use Rattle.grammar.specs.Names.{names_size, slots}
use Rattle.grammar.specs.Grammar.{Reading, Taken, begun, after_run, complete, rule_set_of}

-- What a text is read as: what it says, or the number of the refusal and its place.
abbrev pub ReadText : Type 0
ReadText = Result Reading (ℕ × ℕ)

-- "4, .. or the text ended": "the text's length at the end"
unfoldable pub ended : ℕ → Reading → ReadText
ended size s = cond (complete s.place) (Ok s) (Err (4, size))

-- "the first token at which the text breaks decides .. The place returned is that token's first byte"
unfoldable pub or_broken : ℕ → (Reading → ReadText) → Taken → ReadText
or_broken place rest (Ok s) = rest s
or_broken place rest (Err n) = Err (n, place)

-- the runs from here on, of a text of so many bytes
unfoldable pub read_runs : ℕ → Reading → List Run → ReadText
read_runs size s [] = ended size s
read_runs size s (r ∷ rest) =
    or_broken r.place (λ s'. read_runs size s' rest) (after_run s (token_of r.bytes))

unfoldable pub read_text : List ℕ → ReadText
read_text text = read_runs (length text) begun (runs text)

-- "Slots 0..31 are symbols, 32..47 verdicts (32 `fail`, 33 `succeed`, always)"
unfoldable pub names_of : Reading → List ℕ
names_of s = slots 32 s.symbols ++ slots 16 s.words

-- what the reader answers, and the areas as it leaves them
pub record Outcome : Type 0 where
  pub answer : Result ℕ (ℕ × ℕ)
  pub image : List ℕ
  pub names : List ℕ

-- "over 16,384 bytes"
abbrev pub text_most : ℕ
text_most = 16384

-- "1, over 16,384 bytes; 2, image area under 1,284 or name area under 1,200"
unfoldable pub read_checks : List ℕ → List ℕ → List ℕ → List Check
read_checks text image names =
    (leb (length text) text_most, 1) ∷ (leb image_most (length image) && leb names_size (length names), 2) ∷ []

-- "It returns the image's length; bytes beyond either stay."
unfoldable pub written : ReadText → List ℕ → List ℕ → Outcome
written (Ok s) image names =
    record {
      answer = Ok (length (image_of (rule_set_of s)));
      image = over (image_of (rule_set_of s)) image;
      names = over (names_of s) names;
    }
written (Err e) image names = record { answer = Err e; image = image; names = names }

-- "The place returned is .. 0 for 1 and 2."
unfoldable pub unless : Option ℕ → ReadText → ReadText
unless None r = r
unless (Some n) r = Err (n, 0)

unfoldable pub read_of : List ℕ → List ℕ → List ℕ → Outcome
read_of text image names = written (unless (refusal (read_checks text image names)) (read_text text)) image names

-- what the code answers, with the number of its refusal
abbrev pub answered : Result ℕ TextError → Result ℕ (ℕ × ℕ)
answered (Ok n) = Ok n
answered (Err e) = Err (number e.refusal, e.place)

-- the refusal that an answer is, if it is one; its place, 0 where there is none; the image's length, 0 beside a refusal
unfoldable pub refused_by : Result ℕ (ℕ × ℕ) → Option ℕ
refused_by (Ok n) = None
refused_by (Err (n, place)) = Some n

unfoldable pub refusal_place : Result ℕ (ℕ × ℕ) → ℕ
refusal_place (Ok n) = 0
refusal_place (Err (n, place)) = place

unfoldable pub image_length : Result ℕ (ℕ × ℕ) → ℕ
image_length (Ok n) = n
image_length (Err e) = 0

-- A text that is refused with n.
pub record ReadRefused (text image names : List ℕ) (o : Outcome) (n : ℕ) : Type 0 where
  -- the number is one of the reader's
  pub number-known : Memᴰ n (1 ∷ 2 ∷ 3 ∷ 4 ∷ 5 ∷ 6 ∷ [])
  -- the place is inside the text or at its end, and 0 for 1 and 2
  pub place_inside : refusal_place o.answer ≤ length text
  pub place_zero : n ≤ 2 → refusal_place o.answer ≡ 0
  -- there is no image, and both areas are as they were
  pub no_image : image_length o.answer ≡ 0
  pub image_stays : o.image ≡ image
  pub names_stay : o.names ≡ names

-- A text that is taken.
pub record ReadTaken (text image names : List ℕ) (o : Outcome) : Type 0 where
  -- it is short enough and good: this is what it says
  pub short_text : length text ≤ text_most
  pub reading : Reading
  pub good_text : read_text text ≡ Ok reading
  -- the image of its rules is valid, and they are read back from it
  pub rules-valid : valid (image_of (rule_set_of reading)) ≡ true
  pub rules_back : read (image_of (rule_set_of reading)) ≡ rule_set_of reading
  -- the image's length is answered, and at most 1,284
  pub image_told : image_length o.answer ≡ length (image_of (rule_set_of reading))
  pub image_short : image_length o.answer ≤ image_most
  -- the image stands at the beginning of its area, and the bytes beyond it are as they were
  pub image_there : take (image_length o.answer) o.image ≡ image_of (rule_set_of reading)
  pub image_beyond : drop (image_length o.answer) o.image ≡ drop (image_length o.answer) image
  -- so it is with the 48 slots of names
  pub names_there : take names_size o.names ≡ names_of reading
  pub names_beyond : drop names_size o.names ≡ drop names_size names

-- What is promised of the reader on whatever text and areas: `read_theorem` (proofs/ReadTheorem.antt).
pub record ReadEnded (text image names : List ℕ) (o : Outcome) : Type 0 where
  -- The text is refused, ..
  pub refused : (n : ℕ) → refused_by o.answer ≡ Some n → ReadRefused text image names o n
  -- .. or it is taken.
  pub taken : refused_by o.answer ≡ None → ReadTaken text image names o
  -- Both areas keep their lengths.
  pub size : (length o.image ≡ length image) × (length o.names ≡ length names)

abbrev pub ReadReads : Type 0
ReadReads = (text image names : List ℕ) → ReadEnded text image names (read_of text image names)
