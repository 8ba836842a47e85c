-- The lines that `watch` prints, as bytes: "No header."
use Rattle.std.specs.Prelude.{ℕ, zero, suc, ◌+◌, ◌*◌, ◌/◌, ◌%◌, cond, ltb, get_or, take, drop, Result, Ok, Err}
use mathlib.Core.List.{List, [], ◌∷◌, ◌++◌, flat_map}
use Rattle.machine.specs.declared.Answer.{Answer}
use Rattle.machine.specs.Calls.{Outcome}
use Rattle.machine.specs.Play.{string_of}
use Rattle.printing.specs.Ascii.{bytes}

-- a space, `#`, `,`, `-` and the end of a line
abbrev pub space : ℕ
space = 32

abbrev pub hash : ℕ
hash = 35

abbrev pub comma : ℕ
comma = 44

abbrev pub dash : ℕ
dash = 45

abbrev pub newline : ℕ
newline = 10

abbrev pub refused_word : List ℕ
refused_word = bytes "refused"

-- the digits of n, at most k of them, with no 0 before others
unfoldable pub digits : ℕ → ℕ → List ℕ
digits zero n = []
digits (suc k) n = cond (ltb n 10) ((48 + n) ∷ []) (digits k (n / 10) ++ (48 + n % 10) ∷ [])

-- "Numbers are in base ten."
unfoldable pub decimal : ℕ → List ℕ
decimal n = digits (suc n) n

-- the name in slot i of an area of name slots: "length byte, name, zeros". A name has at most 24 bytes. That it is the name
-- that the text gives symbol i, and in slot 32 + v verdict v: `symbol-name`, `verdict_name` (proofs/SlotNames.antt).
unfoldable pub name_in : List ℕ → ℕ → List ℕ
name_in names i = take (get_or names (25 * i) 0) (take 24 (drop (25 * i + 1) names))

-- "joined by commas or `-`"
unfoldable pub joined : List ℕ → List ℕ → List ℕ
joined names [] = dash ∷ []
joined names (a ∷ string) = name_in names a ++ flat_map (λ b. comma ∷ name_in names b) string

-- "`quiet`, `spent`, `full` or `#` with the verdict's name", `refused`; "32..47 verdicts"
unfoldable pub answer_word : List ℕ → Result Answer ℕ → List ℕ
answer_word names (Ok Answer.Quiet) = bytes "quiet"
answer_word names (Ok Answer.Spent) = bytes "spent"
answer_word names (Ok Answer.Full) = bytes "full"
answer_word names (Ok (Answer.Verdict v)) = hash ∷ name_in names (32 + v)
answer_word names (Err n) = refused_word

-- "steps, rewrites, the string's names (settled, then waiting) joined by commas or `-`"
unfoldable pub counted : List ℕ → Outcome → List ℕ
counted names o =
    decimal o.counts.steps ++ space ∷ (decimal o.counts.rewrites ++ space ∷ joined names (string_of o.monitor))

-- what is told behind the answer: that, or "number" where it is `refused`
unfoldable pub told : List ℕ → Outcome → Result Answer ℕ → List ℕ
told names o (Ok a) = counted names o
told names o (Err n) = decimal n

-- "one line each: name, .."; "A refused event prints name, `refused`, number"
unfoldable pub event_line : List ℕ → List ℕ → Outcome → List ℕ
event_line names x o = x ++ space ∷ (answer_word names o.answer ++ space ∷ (told names o o.answer ++ newline ∷ []))

-- "A refused text prints `rules refused`, number, place."
unfoldable pub refused_line : ℕ → ℕ → List ℕ
refused_line n place =
    bytes "rules refused" ++ space ∷ (decimal n ++ space ∷ (decimal place ++ newline ∷ []))

-- "else prints `input too long`"
unfoldable pub too_long_line : List ℕ
too_long_line = bytes "input too long" ++ newline ∷ []
