-- The contents of rules, four bytes each: what a turn of the loop over them tells.
use Rattle.std.proofs.Common.{
  ◌≡◌,
  ℕ,
  zero,
  suc,
  ◌+◌,
  ◌-◌,
  ◌*◌,
  ◌/◌,
  ◌≤◌,
  ◌<◌,
  Bool,
  true,
  false,
  cond,
  ◌||◌,
  eqb,
  List,
  [],
  length,
  get_or,
  take,
  drop,
  refl,
  sym,
  ap,
  ◌∙◌,
  arith,
  add-one,
}
use Rattle.std.proofs.lemmas.List.{get_or-take, drop-take}
use Rattle.std.specs.Simd.{first_chunks}
use lib.ListN.{length-drop}
use lib.Seq.{drop-drop, take_all}
use borrow.Author.Tests.{eq-eqb, ne_eqb}
use Rattle.layout.specs.ImageCheck.{body_size, first_size, announces, marks_in}
use Rattle.layout.specs.Image.{read}
use Rattle.layout.specs.Words.{root}
use Rattle.layout.proofs.ImageCheck.{announces_out, announces_more, announces_on, marks-read}

-- array i of the contents c
chunk : (n i : ℕ) (c d : List ℕ) → i < n → get_or (first_chunks 4 n c) i d ≡ take 4 (drop (4 * i) c)
chunk zero i c d h = absurd (omega arith)
chunk (suc n) zero c d h = refl
chunk (suc n) (suc i) c d h =
    let behind : 4 * suc i ≡ 4 + 4 * i = omega arith in
    rw behind (chunk n i (drop 4 c) d (omega arith) ∙ ap (take 4) (drop-drop (4 * i) 4 c))

-- Array i as the program has it: its bytes, and the size that they announce.
module _ (n i : ℕ) (c : List ℕ) (xs : List (List ℕ)) (e : xs ≡ first_chunks 4 n c) (h : i < n) where
  pub chunk_byte : (j : ℕ) → j < 4 → get_or (get_or xs i []) j 0 ≡ get_or (drop (4 * i) c) j 0
  chunk_byte j k = rw (e, chunk n i c [] h) (get_or-take 4 (drop (4 * i) c) j 0 k)

  pub chunk_size :
      (v : ℕ)
      → body_size v (get_or (get_or xs i []) 0 0) (get_or (get_or xs i []) 1 0)
      (get_or (get_or xs i []) 2 0) (get_or (get_or xs i []) 3 0)
      ≡ first_size v (drop (4 * i) c)
  unfolding first_size
  chunk_size v =
      rw (chunk_byte 0 (omega arith), chunk_byte 1 (omega arith), chunk_byte 2 (omega arith), chunk_byte 3 (omega arith))

-- Rule i of n, in the contents c, with m symbols left: out of range, announcing more than these, or neither.
module _ (v n : ℕ) (c : List ℕ) (m i : ℕ) (more : i < n) where
  turns : n - i ≡ suc (n - (i + 1))
  turns = omega arith

  pub turn_out : first_size v (drop (4 * i) c) < 1 → announces v (n - i) (drop (4 * i) c) m ≡ false
  turn_out h = rw turns (announces_out v (n - (i + 1)) (drop (4 * i) c) m h)

  pub turn_more : m < first_size v (drop (4 * i) c) → announces v (n - i) (drop (4 * i) c) m ≡ false
  turn_more h = rw turns (announces_more v (n - (i + 1)) (drop (4 * i) c) m h)

  pub turn_on :
      1 ≤ first_size v (drop (4 * i) c) → first_size v (drop (4 * i) c) ≤ m
      → announces v (n - (i + 1)) (drop (4 * (i + 1)) c) (m - first_size v (drop (4 * i) c))
      ≡ announces v (n - i) (drop (4 * i) c) m
  turn_on some fits =
      let behind : 4 * (i + 1) ≡ 4 * i + 4 = omega arith in
      let next : drop (4 * (i + 1)) c ≡ drop 4 (drop (4 * i) c) = rw behind (sym (drop-drop 4 (4 * i) c)) in
      rw (turns, next) (sym (announces_on v (n - (i + 1)) (drop (4 * i) c) m some fits))

-- A rule more, with the mark or without it.
marks-next : (i : ℕ) (c : List ℕ) → marks_in (suc i) c ≡ (marks_in i c || eqb (get_or (drop (4 * i) c) 3 0) 1)
unfolding marks_in
marks-next zero c = go (eqb (get_or c 3 0) 1)
  where
    go : (t : Bool) → (t || false) ≡ t
    go true = refl
    go false = refl
marks-next (suc i) c =
    let behind : 4 * suc i ≡ 4 + 4 * i = omega arith in
    let there : drop (4 * i) (drop 4 c) ≡ drop (4 * suc i) c = rw behind (drop-drop (4 * i) 4 c) in
    go (eqb (get_or c 3 0) 1) (rw there at (marks-next i (drop 4 c)))
  where
    go :
        (t : Bool)
        → marks_in (suc i) (drop 4 c) ≡ (marks_in i (drop 4 c) || eqb (get_or (drop (4 * suc i) c) 3 0) 1)
        → (t || marks_in (suc i) (drop 4 c)) ≡ ((t || marks_in i (drop 4 c)) || eqb (get_or (drop (4 * suc i) c) 3 0) 1)
    go true e = refl
    go false e = e

pub none_marked : (c : List ℕ) → ◌≡◌ {A = ℕ} 0 (cond (marks_in 0 c) 1 0)
unfolding marks_in
none_marked c = refl

module _ (i : ℕ) (c : List ℕ) where
  pub mark_new : get_or (drop (4 * i) c) 3 0 ≡ 1 → ◌≡◌ {A = ℕ} 1 (cond (marks_in (i + 1) c) 1 0)
  mark_new e = rw (add-one, marks-next i c, eq-eqb (get_or (drop (4 * i) c) 3 0) 1 e) (go (marks_in i c))
    where
      go : (t : Bool) → ◌≡◌ {A = ℕ} 1 (cond (t || true) 1 0)
      go true = refl
      go false = refl

  pub mark_kept : (get_or (drop (4 * i) c) 3 0 ≡ 1 → ⊥) → ◌≡◌ {A = ℕ} (cond (marks_in i c) 1 0) (cond (marks_in (i + 1) c) 1 0)
  mark_kept e = rw (add-one, marks-next i c, ne_eqb (get_or (drop (4 * i) c) 3 0) 1 e) (go (marks_in i c))
    where
      go : (t : Bool) → ◌≡◌ {A = ℕ} (cond t 1 0) (cond (t || false) 1 0)
      go true = refl
      go false = refl

-- The contents of n rules by themselves, and at the head of more bytes.
drop-take_four : (n : ℕ) (c : List ℕ) → drop 4 (take (4 * suc n) c) ≡ take (4 * n) (drop 4 c)
drop-take_four n c = let size : 4 * suc n ≡ 4 + 4 * n = omega arith in rw size (drop-take 4 (4 * n) c)

first_size-take : (v n : ℕ) (c : List ℕ) → first_size v (take (4 * suc n) c) ≡ first_size v c
unfolding first_size
first_size-take v n c =
    let k = 4 * suc n in
    let at : (j : ℕ) → j < 4 → get_or (take k c) j 0 ≡ get_or c j 0 = λ j h. get_or-take k c j 0 (omega arith) in
    rw (at 0 (omega arith), at 1 (omega arith), at 2 (omega arith), at 3 (omega arith))

announces-take : (v n : ℕ) (c : List ℕ) (m : ℕ) → announces v n (take (4 * n) c) m ≡ announces v n c m
unfolding announces
announces-take v zero c m = refl
announces-take v (suc n) c m =
    rw (first_size-take v n c, drop-take_four n c, announces-take v n (drop 4 c) (m - first_size v c))

marks_in-take : (n : ℕ) (c : List ℕ) → marks_in n (take (4 * n) c) ≡ marks_in n c
unfolding marks_in
marks_in-take zero c = refl
marks_in-take (suc n) c =
    rw (get_or-take (4 * suc n) c 3 0 (omega arith), drop-take_four n c, marks_in-take n (drop 4 c))

-- The bytes b as the check takes them apart: the header, then the contents of n rules, and then the bodies.
pub record Apart (b : List ℕ) (n : ℕ) (contents bodies : List ℕ) : Type 0 where
  pub header : 4 ≤ length b
  pub fits : 4 * n ≤ length (take (length b - 4) (drop 4 b))
  pub front : contents ≡ take (4 * n) (take (length b - 4) (drop 4 b))
  pub back : bodies ≡ drop (4 * n) (take (length b - 4) (drop 4 b))
  pub size : length contents ≡ 4 * n

module _ (b : List ℕ) (n : ℕ) (contents bodies : List ℕ) (p : Apart b n contents bodies) where
  whole : take (length b - 4) (drop 4 b) ≡ drop 4 b
  whole = take_all (length b - 4) (drop 4 b) (omega (arith, length-drop 4 b))

  pub bodies_begin : bodies ≡ drop (4 + 4 * n) b
  bodies_begin = p.back ∙ rw whole (drop-drop (4 * n) 4 b)

  pub contents_fit : 4 + 4 * n ≤ length b
  contents_fit = omega (arith, ap length whole, length-drop 4 b)

  count : length contents / 4 ≡ n
  count = omega arith

  pub announced_alone :
      (v : ℕ) → announces v (length contents / 4) contents (length bodies) ≡ announces v n (drop 4 b) (length b - (4 + 4 * n))
  announced_alone v =
      let left : length bodies ≡ length b - (4 + 4 * n) = omega (arith, ap length bodies_begin, length-drop (4 + 4 * n) b) in
      rw (count, left, p.front, whole) (announces-take v n (drop 4 b) (length b - (4 + 4 * n)))

  pub marks_alone : marks_in (length contents / 4) contents ≡ marks_in n (drop 4 b)
  marks_alone = rw (count, p.front, whole) (marks_in-take n (drop 4 b))

-- the root's number, by the marks in the contents of an image's rules
pub root_by_marks : (b : List ℕ) (n : ℕ) → n ≡ get_or b 1 0 → root (read b).rules ≡ cond (marks_in n (drop 4 b)) 1 0
unfolding read root
root_by_marks b n e = rw (e, marks-read (get_or b 1 0) (drop 4 b) (drop (4 + 4 * get_or b 1 0) b))
