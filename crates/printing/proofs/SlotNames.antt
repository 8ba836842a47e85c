-- Laws of the name in a slot: in the slots that the reader wrote it is the text's (`symbol-name`, `verdict_name`), and it is
-- short.
-- Assumes nothing.
use Rattle.std.specs.Prelude.{Result, Ok, Err}
use Prim.Native.Nat.{ℕ, zero, suc, ◌+◌, ◌*◌, ◌-◌, ◌≤◌, ◌<◌}
use mathlib.Core.Path.{◌≡◌, sym, ◌∙◌}
use mathlib.Core.Bool.{true}
use mathlib.Core.List.{List, [], ◌∷◌, ◌++◌, append_assoc, flat_map}
use native.Mathlib.Omega.{arith}
use native.Mathlib.Nat.{le_of_suc-le-suc, not-suc-le-zero}
use lib.ListN.{length, get_or, take, drop, replicate, length-take}
use lib.Seq.{take_all, take-append_seam, take-take, drop-append-add, get_or-append-add}
use Rattle.rewriting.specs.Lists.{all, over}
use Rattle.rewriting.proofs.Lists.{and_left, and_right}
use Rattle.grammar.specs.Tokens.{is_name}
use Rattle.grammar.specs.Names.{slot, slots}
use Rattle.grammar.specs.Grammar.{Reading}
use Rattle.grammar.specs.Read.{read_text, names_of}
use Rattle.grammar.specs.Sound.{Sound}
use Rattle.grammar.proofs.Slots.{name_short, length-slot, length-slots}
use Rattle.grammar.proofs.Sound.{read_sound}
use Rattle.machine.specs.declared.Answer.{Answer}
use Rattle.printing.specs.Ascii.{bytes}
use Rattle.printing.specs.Lines.{name_in, answer_word}

-- Behind n slots the slots are counted from there.
pub name_behind : (p rest : List ℕ) (n i : ℕ) → length p ≡ 25 * n → name_in (p ++ rest) (n + i) ≡ name_in rest i
unfolding name_in
name_behind p rest n i size =
    let here : 25 * (n + i) ≡ length p + 25 * i = omega arith in
    let next : 25 * (n + i) + 1 ≡ length p + (25 * i + 1) = omega arith in
    rw (next, here, get_or-append-add p rest (25 * i) 0, drop-append-add p rest (25 * i + 1))

-- the name in the first slot
pub name_first : (x rest : List ℕ) → is_name x ≡ true → name_in (slot x ++ rest) 0 ≡ x
unfolding name_in slot
name_first x rest e =
    let behind : List ℕ = replicate (24 - length x) 0 ++ rest in
    rw (append_assoc, take-take (length x) 24 (x ++ behind) (name_short x e)) (take-append_seam x behind)

-- Slot i has name i, whatever is behind the slots of the names.
pub name_used :
    (names : List (List ℕ)) (rest : List ℕ) (i : ℕ) → all is_name names ≡ true → i < length names
    → name_in (flat_map slot names ++ rest) i ≡ get_or names i []
unfolding flat_map
name_used [] rest i named h = absurd (not-suc-le-zero h)
name_used (x ∷ names) rest zero named h =
    rw append_assoc (name_first x (flat_map slot names ++ rest) (and_left (is_name x) (all is_name names) named))
name_used (x ∷ names) rest (suc i) named h =
    let x_named : is_name x ≡ true = and_left (is_name x) (all is_name names) named in
    let one : suc i ≡ 1 + i = omega arith in
    rw (append_assoc, one)
    (name_behind (slot x) (flat_map slot names ++ rest) 1 i (length-slot x (name_short x x_named))
    ∙ name_used names rest i (and_right (is_name x) (all is_name names) named) (le_of_suc-le-suc h))

pub name-slots :
    (n : ℕ) (names : List (List ℕ)) (rest : List ℕ) (i : ℕ) → all is_name names ≡ true → i < length names
    → name_in (slots n names ++ rest) i ≡ get_or names i []
unfolding slots
name-slots n names rest i named h = rw append_assoc (name_used names _ i named h)

-- "Slots 0..31 are symbols"
pub symbol-name :
    (text : List ℕ) (s : Reading) (area : List ℕ) (i : ℕ) → read_text text ≡ Ok s → i < length s.symbols
    → name_in (over (names_of s) area) i ≡ get_or s.symbols i []
unfolding names_of over
symbol-name text s area i e h =
    let sound : Sound s = (read_sound text s e).0 in
    rw append_assoc (name-slots 32 s.symbols _ i sound.symbols_named h)

-- "32..47 verdicts"
pub verdict_name :
    (text : List ℕ) (s : Reading) (area : List ℕ) (v : ℕ) → read_text text ≡ Ok s → v < length s.words
    → name_in (over (names_of s) area) (32 + v) ≡ get_or s.words v []
unfolding names_of over
verdict_name text s area v e h =
    let sound : Sound s = (read_sound text s e).0 in
    let size : length (slots 32 s.symbols) ≡ 800 =
    length-slots 32 s.symbols sound.few_symbols sound.symbols_named
    in
    rw append_assoc
    (name_behind (slots 32 s.symbols) _ 32 v size ∙ name-slots 16 s.words _ v sound.words_named h)

-- The code's part of a slot is the name in it: at most 24 bytes.
pub name_long :
    (names : List ℕ) (i : ℕ) → 24 < get_or names (25 * i) 0
    → take (25 * i + 1 + 24 - (25 * i + 1)) (drop (25 * i + 1) names) ≡ name_in names i
unfolding name_in
name_long names i h =
    let size : 25 * i + 1 + 24 - (25 * i + 1) ≡ 24 = omega arith in
    let part : List ℕ = take 24 (drop (25 * i + 1) names) in
    rw size (sym (take_all (get_or names (25 * i) 0) part (omega (arith, length-take 24 (drop (25 * i + 1) names)))))

pub name_whole :
    (names : List ℕ) (i : ℕ) → get_or names (25 * i) 0 ≤ 24
    → take (25 * i + 1 + get_or names (25 * i) 0 - (25 * i + 1)) (drop (25 * i + 1) names) ≡ name_in names i
unfolding name_in
name_whole names i h =
    let n : ℕ = get_or names (25 * i) 0 in
    let size : 25 * i + 1 + n - (25 * i + 1) ≡ n = omega arith in
    rw size (sym (take-take n 24 (drop (25 * i + 1) names) h))

pub name-length : (names : List ℕ) (i : ℕ) → length (name_in names i) ≤ 24
unfolding name_in
name-length names i =
    omega (
      arith,
      length-take (get_or names (25 * i) 0) (take 24 (drop (25 * i + 1) names)),
      length-take 24 (drop (25 * i + 1) names),
    )

-- the word for an answer is no longer than `#` and a name
pub answer_length : (names : List ℕ) (a : Result Answer ℕ) → length (answer_word names a) ≤ 25
unfolding answer_word bytes
answer_length names (Ok Answer.Quiet) = omega arith
answer_length names (Ok Answer.Spent) = omega arith
answer_length names (Ok Answer.Full) = omega arith
answer_length names (Ok (Answer.Verdict v)) = omega (arith, name-length names (32 + v))
answer_length names (Err n) = omega arith
