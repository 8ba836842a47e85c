-- The number that the code gives a name, and the slots then, are those of `numbered`; what it looks up is `symbol_named`.
-- Assumes nothing.
use Prim.Native.Nat.{ℕ, zero, suc, ◌+◌, ◌*◌, ◌-◌, ◌≤◌, ◌<◌}
use mathlib.Core.Path.{◌≡◌, refl, sym, ap, ◌∙◌}
use mathlib.Core.Bool.{Bool, true, false, cond, ◌&&◌}
use Rattle.std.specs.Prelude.{None, Some, map}
use mathlib.Core.List.{List, [], ◌∷◌, ◌++◌, flat_map}
use native.Mathlib.Omega.{arith}
use lib.Dec.{leb, ltb}
use lib.ListN.{length, set, take, drop, replicate, length-append}
use borrow.Author.Tests.{lt-ltb, le-ltb, le-leb, lt-leb}
use Rattle.std.proofs.lemmas.List.{replicate-append-replicate}
use Rattle.std.proofs.lemmas.Grind.{flat_map-append}
use Rattle.rewriting.specs.Lists.{same, between}
use Rattle.grammar.specs.Names.{number_of, or_new, numbered, slot, slots}
use Rattle.grammar.specs.Lookup.{slot_at, symbol_named}
use Rattle.tokens.specs.Numbered.{slots_of, slot_among, NumberedIs}
use Rattle.grammar.proofs.Slots.{same-slot}
use Rattle.grammar.proofs.Sound.{next-below}

-- The slots of names.

-- a name among names, by its slot
slots_used : (x : List ℕ) (names rest : List (List ℕ))
    → slot_among (slot x) (take (length names) (map slot names ++ rest)) ≡ number_of names x
unfolding slot_among number_of
slots_used x [] rest = refl
slots_used x (y ∷ names) rest = rw (same-slot x y, slots_used x names rest)

-- one more in the next slot
pub slots_set : (n : ℕ) (names : List (List ℕ)) (x : List ℕ) → length names < n
    → set (slots_of n names) (length names) (slot x) ≡ slots_of n (names ++ x ∷ [])
unfolding slots_of
slots_set n names x room =
    let left : n - length names ≡ suc (n - length (names ++ x ∷ [])) = rw length-append (omega arith) in
    rw left (go names (n - length (names ++ x ∷ [])))
  where
    zeros : List ℕ
    zeros = replicate 25 0

    go : (ys : List (List ℕ)) (k : ℕ)
        → set (map slot ys ++ replicate (suc k) zeros) (length ys) (slot x) ≡ map slot (ys ++ x ∷ []) ++ replicate k zeros
    go [] k = refl
    go (y ∷ ys) k = ap (λ (v : List (List ℕ)). slot y ∷ v) (go ys k)

-- their bytes
pub slots_flat : (n : ℕ) (names : List (List ℕ)) → flat_map (λ (x : List ℕ). x) (slots_of n names) ≡ slots n names
unfolding slots_of slots slot flat_map
slots_flat n names = flat_map-append (λ (x : List ℕ). x) (map slot names) _ ∙ rw (used names, unused (n - length names))
  where
    used : (ys : List (List ℕ)) → flat_map (λ (x : List ℕ). x) (map slot ys) ≡ flat_map slot ys
    used [] = refl
    used (y ∷ ys) = ap (λ (v : List ℕ). slot y ++ v) (used ys)

    unused : (k : ℕ) → flat_map (λ (x : List ℕ). x) (replicate k (replicate 25 0)) ≡ replicate (25 * k) 0
    unused zero = refl
    unused (suc k) =
        let e : 25 * suc k ≡ 25 + 25 * k = omega arith in
        rw (unused k, e) (replicate-append-replicate 25 (25 * k) 0)

-- The slots of at most `most` names, and a name x.
module _
    (most : ℕ) (names slots : List (List ℕ)) (x key : List ℕ) (count : ℕ)
    (kept : slots ≡ slots_of most names)
    (all_kept : count ≡ length names)
    (few : length names ≤ most)
    (made : key ≡ slot x)
  where
    number_there : slot_among key (take count slots) ≡ number_of names x
    unfolding slots_of
    number_there = rw (made, kept, all_kept) (slots_used x names _)

    pub number_found :
        (i : ℕ) → slot_among key (take count slots) ≡ Some i → NumberedIs most names (numbered most names x) (Some i) count slots
    unfolding numbered or_new
    number_found i found =
        let there : number_of names x ≡ Some i = sym number_there ∙ found in
        rw there (refl, all_kept, kept)

    module _ (none_found : slot_among key (take count slots) ≡ None) where
      nowhere : number_of names x ≡ None
      nowhere = sym number_there ∙ none_found

      pub number_full : most ≤ count → NumberedIs most names (numbered most names x) None count slots
      unfolding numbered or_new
      number_full full =
          let no_room : ltb (length names) most ≡ false = le-ltb (length names) most (omega arith) in
          rw (nowhere, no_room) (all_kept, kept)

      pub number_new : count < most → NumberedIs most names (numbered most names x) (Some count) (count + 1) (set slots count key)
      unfolding numbered or_new
      number_new room =
          let fits : ltb (length names) most ≡ true = lt-ltb (length names) most (omega arith) in
          rw (nowhere, fits) (
            all_kept,
            rw (all_kept, length-append) (omega arith),
            rw (kept, all_kept, made) (slots_set most names x (omega arith)),
          )

-- a slot that is found is one of them
pub among-below : (key : List ℕ) (slots : List (List ℕ)) (i : ℕ) → slot_among key slots ≡ Some i → i < length slots
unfolding slot_among
among-below key [] i e = let z : ◌≡◌ {A = ℕ} 0 1 = cc in absurd (omega arith)
among-below key (s ∷ slots) i e = next-below (same key s) (slot_among key slots) (length slots) i (among-below key slots) e

-- a slot that is found is one of the n
pub slot-below : (key : List ℕ) (n : ℕ) (area : List ℕ) (i : ℕ) → slot_at key n area ≡ Some i → i < n
unfolding slot_at
slot-below key zero area i e = let z : ◌≡◌ {A = ℕ} 0 1 = cc in absurd (omega arith)
slot-below key (suc n) area i e =
    next-below (same key (take 25 area)) (slot_at key n (drop 25 area)) n i (slot-below key n (drop 25 area)) e

-- The lookup of x in an area.
module _ (area x : List ℕ) where
  -- what is found is one of 32 symbols
  pub lookup_below : (i : ℕ) → symbol_named area x ≡ Some i → i < 32
  unfolding symbol_named
  lookup_below i e = go (between 1 (length x) 24 && leb 800 (length area)) e
    where
      go : (b : Bool) → cond b (slot_at (slot x) 32 area) None ≡ Some i → i < 32
      go true f = slot-below (slot x) 32 area i f
      go false f = let z : ◌≡◌ {A = ℕ} 0 1 = cc in absurd (omega arith)

  pub no_name : length x < 1 → None ≡ symbol_named area x
  unfolding symbol_named
  no_name h = rw (lt-leb 1 (length x) h)

  pub long_name : 24 < length x → None ≡ symbol_named area x
  unfolding symbol_named
  long_name h = rw (le-leb 1 (length x) (omega arith), lt-leb (length x) 24 h)

  pub short_area : length area < 800 → None ≡ symbol_named area x
  unfolding symbol_named
  short_area h = go (between 1 (length x) 24)
    where
      go : (b : Bool) → None ≡ cond (b && leb 800 (length area)) (slot_at (slot x) 32 area) None
      go true = rw (lt-leb 800 (length area) h)
      go false = refl

  module _ (some-name : 1 ≤ length x) (short : length x ≤ 24) (long : 800 ≤ length area) where
    pub looked : slot_at (slot x) 32 area ≡ symbol_named area x
    unfolding symbol_named
    looked = rw (le-leb 1 (length x) some-name, le-leb (length x) 24 short, le-leb 800 (length area) long)
