-- Name slots: how the code makes and keeps them. What is found in them: Lookup.antt.
-- Assumes nothing.
use Prim.Native.Nat.{ℕ, zero, suc, ◌+◌, ◌*◌, ◌-◌, ◌≤◌}
use mathlib.Core.Path.{◌≡◌, refl, sym, ap, ◌∙◌}
use mathlib.Core.Bool.{Bool, true, false, ◌&&◌}
use mathlib.Core.List.{List, [], ◌∷◌, ◌++◌, flat_map}
use native.Mathlib.Omega.{arith}
use lib.Dec.{leb}
use lib.ListN.{length, get_or, set, take, drop, replicate, length-append, length-replicate}
use lib.Seq.{paste, take-length, take_at, take-append_seam}
use borrow.Author.Tests.{leb-true}
use Rattle.rewriting.specs.Lists.{all, same}
use Rattle.rewriting.proofs.Lists.{and_left, and_right, same_eq, eq_same}
use Rattle.grammar.specs.Tokens.{letter, name_byte, is_name}
use Rattle.grammar.specs.Names.{slot, slots}

-- A name has 1 to 24 bytes.
pub name-some : (x : List ℕ) → is_name x ≡ true → 1 ≤ length x
unfolding is_name
name-some [] e = let z : ◌≡◌ {A = ℕ} 0 1 = cc in absurd (omega arith)
name-some (b ∷ t) e = omega arith

pub name_short : (x : List ℕ) → is_name x ≡ true → length x ≤ 24
unfolding is_name
name_short [] e = omega arith
name_short (b ∷ t) e =
    leb-true (length (b ∷ t)) 24 (and_right (letter b && all name_byte t) (leb (length (b ∷ t)) 24) e)

pub drop_zeros : (k n : ℕ) → drop k (replicate {A = ℕ} n 0) ≡ replicate (n - k) 0
drop_zeros zero n = let e : n - 0 ≡ n = omega arith in rw e
drop_zeros (suc k) zero = let e : 0 - suc k ≡ 0 = omega arith in rw e
drop_zeros (suc k) (suc n) = let e : suc n - suc k ≡ n - k = omega arith in rw e (drop_zeros k n)

-- The slot of a name, as the code makes it.

pub slot_made : (x : List ℕ) → length x ≤ 24 → paste (set (replicate 25 0) 0 (length x)) 1 x (length x) ≡ slot x
unfolding slot
slot_made x h =
    let e : take (length x) x ≡ x = take-length x in
    let one : 1 + length x ≡ suc (length x) = omega arith in
    rw (e, one, drop_zeros (length x) 24)

pub length-slot : (x : List ℕ) → length x ≤ 24 → length (slot x) ≡ 25
unfolding slot
length-slot x h = simp (length-append, length-replicate) (omega arith)

-- two slots are equal only where the names are
pub slot-name : (x y : List ℕ) → slot x ≡ slot y → x ≡ y
unfolding slot
slot-name x y e =
    let n : length x ≡ length y = ap (λ (l : List ℕ). get_or l 0 0) e in
    let rest : x ++ replicate (24 - length x) 0 ≡ y ++ replicate (24 - length y) 0 = ap (λ (l : List ℕ). drop 1 l) e in
    sym (take-append_seam x (replicate (24 - length x) 0)) ∙ ap (λ (l : List ℕ). take (length x) l) rest
    ∙ take_at y (replicate (24 - length y) 0) (length x) (sym n)

pub same-slot : (x y : List ℕ) → same (slot x) (slot y) ≡ same y x
same-slot x y = go (same y x) refl
  where
    go : (b : Bool) → same y x ≡ b → same (slot x) (slot y) ≡ b
    go true e = eq_same (slot x) (slot y) (ap slot (sym (same_eq y x e)))
    go false e = other (same (slot x) (slot y)) refl
      where
        other : (b : Bool) → same (slot x) (slot y) ≡ b → b ≡ false
        other false p = refl
        other true p =
            let q : y ≡ x = sym (slot-name x y (same_eq (slot x) (slot y) p)) in
            let r : same y x ≡ true = eq_same y x q in
            let z : ◌≡◌ {A = ℕ} 0 1 = cc in absurd (omega arith)

-- The slots of names.

pub length_used : (names : List (List ℕ)) → all is_name names ≡ true → length (flat_map slot names) ≡ 25 * length names
unfolding flat_map
length_used [] e = refl
length_used (x ∷ names) e =
    let one : length (slot x) ≡ 25 = length-slot x (name_short x (and_left (is_name x) (all is_name names) e)) in
    let ih : length (flat_map slot names) ≡ 25 * length names = length_used names (and_right (is_name x) (all is_name names) e) in
    simp length-append (omega arith)

pub length-slots : (n : ℕ) (names : List (List ℕ)) → length names ≤ n → all is_name names ≡ true → length (slots n names) ≡ 25 * n
unfolding slots
length-slots n names few e =
    let m : length (flat_map slot names) ≡ 25 * length names = length_used names e in
    simp (length-append, length-replicate) (omega arith)
