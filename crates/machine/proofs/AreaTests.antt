-- The code's tests of head and areas together are `described`.
-- Assumes nothing.
use Prim.Native.Nat.{ℕ, ◌+◌, ◌-◌, ◌≤◌}
use mathlib.Core.Path.{◌≡◌, refl, sym, ap, ◌∙◌}
use mathlib.Core.Bool.{Bool, true, false, not, ◌&&◌}
use mathlib.Core.List.{List, [], ◌++◌, map, append-nil}
use native.Mathlib.Omega.{arith}
use lib.Dec.{leb, ltb}
use lib.ListN.{length, take, drop, replicate, length-map, length-drop, length-replicate, take-append-drop}
use lib.Seq.{length-take-le, take_at, drop_at, drop-drop}
use borrow.Author.Tests.{leb-true, le-leb, not-true, not-false}
use Rattle.rewriting.specs.Lists.{same, below}
use Rattle.rewriting.specs.Rules.{RuleSet}
use Rattle.rewriting.proofs.Lists.{and_both, and_left, and_right, all_append, all_left, all_right, same_eq, eq_same}
use Rattle.layout.specs.ImageCheck.{Decides}
use Rattle.layout.proofs.ImageCheck.{all_behind}
use Rattle.layout.specs.States.{states, number, after}
use Rattle.machine.specs.Areas.{Head, area_of, bytes_of, states_after, words_of, state_of, unmatched, stands_by, holds, described}
use Rattle.machine.specs.Lent.{monitor_in, Settled}
use Rattle.machine.proofs.Areas.{length-states_after}

-- The parts of the areas: from n on, and between a and the last w.
abbrev pub behind : ℕ → List ℕ → List ℕ
behind n l = take (length l - n) (drop n l)

abbrev pub between : ℕ → ℕ → List ℕ → List ℕ
between a n l = take (n - a) (drop a l)

-- What the code tests.
pub record Tested (set : RuleSet) (head : Head) (bytes words : List ℕ) : Type 0 where
  pub room : head.settled + head.waiting ≤ length bytes
  pub stands : stands_by set.rules head.verdict head.rule ≡ true
  pub settled_part : Settled set (take head.settled bytes) (take head.settled words)
  pub middle : between head.settled (length bytes - head.waiting) bytes
      ≡ replicate (length (between head.settled (length bytes - head.waiting) bytes)) 0
  pub waiting_part : below set.symbols (behind (length bytes - head.waiting) bytes) ≡ true
  pub rest : behind head.settled words ≡ replicate (length (behind head.settled words)) 0

-- zeros between two ends are an area
area_whole : (capacity : ℕ) (s z q : List ℕ) → length s + length z + length q ≡ capacity → z ≡ replicate (length z) 0
    → area_of capacity s q ≡ s ++ (z ++ q)
unfolding area_of
area_whole capacity s z q size e =
    let gap : capacity - (length s + length q) ≡ length z = omega arith in
    rw (gap, ← e)

-- and an area has zeros there
area_zeros : (capacity a : ℕ) (s q l : List ℕ) → area_of capacity s q ≡ l → length s ≡ a
    → take (capacity - (a + length q)) (drop a l) ≡ replicate (capacity - (a + length q)) 0
unfolding area_of
area_zeros capacity a s q l e size =
    let n : ℕ = capacity - (a + length q) in
    let z : List ℕ = replicate (capacity - (length s + length q)) 0 in
    let same_n : capacity - (length s + length q) ≡ n = rw size in
    ap (λ (x : List ℕ). take n (drop a x)) (sym e)
    ∙ ap (take n) (drop_at s (z ++ q) a size)
    ∙ take_at z q n (length-replicate {A = ℕ} (capacity - (length s + length q)) 0 ∙ same_n)
    ∙ ap (λ (k : ℕ). replicate {A = ℕ} k 0) same_n

-- zeros are as many as there are
zeros_many : (l : List ℕ) (n : ℕ) → l ≡ replicate n 0 → l ≡ replicate (length l) 0
zeros_many l n e =
    let size : length l ≡ n = ap length e ∙ length-replicate {A = ℕ} n 0 in
    e ∙ ap (λ (k : ℕ). replicate {A = ℕ} k 0) (sym size)

-- a list is its beginning, what is between, and its end
three_parts : (a n : ℕ) (l : List ℕ) → a ≤ n → take a l ++ (between a n l ++ drop n l) ≡ l
three_parts a n l h =
    let to : a + (n - a) ≡ n = omega arith in
    let end : drop (n - a) (drop a l) ≡ drop n l = drop-drop (n - a) a l ∙ ap (λ (k : ℕ). drop k l) to in
    ap (λ (x : List ℕ). take a l ++ (between a n l ++ x)) (sym end)
    ∙ ap (λ (x : List ℕ). take a l ++ x) (take-append-drop (n - a) (drop a l))
    ∙ take-append-drop a l

module _ (set : RuleSet) (head : Head) (bytes words : List ℕ) (size : length words ≡ length bytes) where
  module _ (t : Tested set head bytes words) where
    front : length (take head.settled bytes) ≡ head.settled
    front = length-take-le head.settled bytes (omega (arith, t.room))

    back : length (drop (length bytes - head.waiting) bytes) ≡ head.waiting
    back = length-drop (length bytes - head.waiting) bytes ∙ omega (arith, t.room)

    gap : length (between head.settled (length bytes - head.waiting) bytes) ≡ length bytes - head.waiting - head.settled
    gap =
        length-take-le (length bytes - head.waiting - head.settled) (drop head.settled bytes)
        (simp length-drop (omega (arith, t.room)))

    bytes_area : area_of (length bytes) (take head.settled bytes) (drop (length bytes - head.waiting) bytes) ≡ bytes
    bytes_area =
        area_whole (length bytes) (take head.settled bytes) (between head.settled (length bytes - head.waiting) bytes)
        (drop (length bytes - head.waiting) bytes) (omega (arith, front, back, gap, t.room)) t.middle
        ∙ three_parts head.settled (length bytes - head.waiting) bytes (omega (arith, t.room))

    words_area : area_of (length bytes)
        (map (number (states set.rules)) (states_after set.rules (after set.rules []) (take head.settled bytes))) []
        ≡ words
    words_area =
        let own : length (take head.settled words) ≡ head.settled =
        length-take-le head.settled words (omega (arith, size, t.room)) in
        let all_rest : behind head.settled words ≡ drop head.settled words = all_behind head.settled words in
        let long : length (behind head.settled words) ≡ length words - head.settled =
        ap length all_rest ∙ length-drop head.settled words in
        ap (λ (x : List ℕ). area_of (length bytes) x []) (sym t.settled_part.words_right)
        ∙ area_whole (length bytes) (take head.settled words) (behind head.settled words) []
        (omega (arith, own, long, size, t.room)) t.rest
        ∙ ap (λ (x : List ℕ). take head.settled words ++ x) (append-nil (behind head.settled words) ∙ all_rest)
        ∙ take-append-drop head.settled words

    tested_described : described set (length bytes) (monitor_in head bytes words) ≡ true
    unfolding described holds state_of bytes_of words_of
    tested_described =
        and_both
        (and_both
        (and_both
        (and_both
        (and_both (le-leb (head.settled + head.waiting) (length bytes) t.room)
        (all_append (λ x. ltb x set.symbols) (take head.settled bytes) (drop (length bytes - head.waiting) bytes)
        t.settled_part.symbols_below (rw all_behind at t.waiting_part)))
        (eq_same _ _ bytes_area))
        (eq_same _ _ words_area))
        t.settled_part.no_match_lem)
        t.stands

  module _ (d : described set (length bytes) (monitor_in head bytes words) ≡ true) where
    abbrev first : List ℕ
    first = take head.settled bytes

    abbrev last : List ℕ
    last = drop (length bytes - head.waiting) bytes

    abbrev numbers : List ℕ
    numbers = map (number (states set.rules)) (states_after set.rules (after set.rules []) first)

    abbrev p₁ : Bool
    p₁ = leb (head.settled + head.waiting) (length bytes)

    abbrev p₂ : Bool
    p₂ = below set.symbols (first ++ last)

    abbrev p₃ : Bool
    p₃ = same (area_of (length bytes) first last) bytes

    abbrev p₄ : Bool
    p₄ = same (area_of (length bytes) numbers []) words

    abbrev p₅ : Bool
    p₅ = unmatched set.rules first

    abbrev p₆ : Bool
    p₆ = stands_by set.rules head.verdict head.rule

    all_parts : (p₁ && p₂ && p₃ && p₄ && p₅ && p₆) ≡ true
    unfolding described holds state_of bytes_of words_of
    all_parts = d

    parts₅ : (p₁ && p₂ && p₃ && p₄ && p₅) ≡ true
    parts₅ = and_left (p₁ && p₂ && p₃ && p₄ && p₅) p₆ all_parts

    parts₄ : (p₁ && p₂ && p₃ && p₄) ≡ true
    parts₄ = and_left (p₁ && p₂ && p₃ && p₄) p₅ parts₅

    parts₃ : (p₁ && p₂ && p₃) ≡ true
    parts₃ = and_left (p₁ && p₂ && p₃) p₄ parts₄

    parts₂ : (p₁ && p₂) ≡ true
    parts₂ = and_left (p₁ && p₂) p₃ parts₃

    has_room : head.settled + head.waiting ≤ length bytes
    has_room = leb-true _ _ (and_left p₁ p₂ parts₂)

    all_below : below set.symbols (first ++ last) ≡ true
    all_below = and_right p₁ p₂ parts₂

    first_long : length first ≡ head.settled
    first_long = length-take-le head.settled bytes (omega (arith, has_room))

    last_long : length last ≡ head.waiting
    last_long = length-drop (length bytes - head.waiting) bytes ∙ omega (arith, has_room)

    numbers_long : length numbers ≡ head.settled
    numbers_long =
        length-map (states_after set.rules (after set.rules []) first) (number (states set.rules))
        ∙ length-states_after set.rules (after set.rules []) first
        ∙ first_long

    in_bytes : area_of (length bytes) first last ≡ bytes
    in_bytes = same_eq (area_of (length bytes) first last) bytes (and_right (p₁ && p₂) p₃ parts₃)

    in_words : area_of (length bytes) numbers [] ≡ words
    in_words = same_eq (area_of (length bytes) numbers []) words (and_right (p₁ && p₂ && p₃) p₄ parts₄)

    first_words : take head.settled words ≡ numbers
    unfolding area_of
    first_words =
        ap (take head.settled) (sym in_words) ∙ take_at numbers _ head.settled numbers_long

    described_tested : Tested set head bytes words
    described_tested =
        let gap : length bytes - (head.settled + length last) ≡ length bytes - head.waiting - head.settled =
        omega (arith, last_long, has_room) in
        let gap_words : length bytes - (head.settled + 0) ≡ length words - head.settled = omega (arith, size) in
        record {
          room = has_room;
          stands = and_right (p₁ && p₂ && p₃ && p₄ && p₅) p₆ all_parts;
          settled_part =
              record {
                symbols_below = all_left (λ x. ltb x set.symbols) first last all_below;
                words_right = first_words;
                no_match_lem = and_right (p₁ && p₂ && p₃ && p₄) p₅ parts₅;
              };
          middle =
              zeros_many (between head.settled (length bytes - head.waiting) bytes) (length bytes - head.waiting - head.settled)
              (rw gap at (area_zeros (length bytes) head.settled first last bytes in_bytes first_long));
          waiting_part = rw all_behind (all_right (λ x. ltb x set.symbols) first last all_below);
          rest =
              zeros_many (behind head.settled words) (length words - head.settled)
              (rw gap_words at (area_zeros (length bytes) head.settled numbers [] words in_words numbers_long));
        }

  -- a test fails
  pub not-described : (Tested set head bytes words → ⊥) → false ≡ described set (length bytes) (monitor_in head bytes words)
  not-described fails = go (described set (length bytes) (monitor_in head bytes words)) refl
    where
      go : (b : Bool) → described set (length bytes) (monitor_in head bytes words) ≡ b → false ≡ b
      go true e = absurd (fails (described_tested e))
      go false e = refl

  -- the last test decides
  pub rest_decides : (r : Bool) → Decides r (behind head.settled words ≡ replicate (length (behind head.settled words)) 0)
      → (behind head.settled words ≡ replicate (length (behind head.settled words)) 0 → Tested set head bytes words)
      → r ≡ described set (length bytes) (monitor_in head bytes words)
  rest_decides true d f = sym (tested_described (f d))
  rest_decides false d f = not-described (λ t. d t.rest)

-- What the answers say.
pub is-not : {b : Bool} (r : Bool) → r ≡ b → not r ≡ true → b ≡ true → ⊥
is-not r e n y = let f = not-true r n in let z : ◌≡◌ {A = ℕ} 0 1 = cc in omega arith

pub is_so : {b : Bool} (r : Bool) → r ≡ b → not r ≡ false → b ≡ true
is_so r e n = sym e ∙ not-false r n
