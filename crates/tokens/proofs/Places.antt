-- The search for a slot: its place among the slots.
-- Assumes nothing.
use Prim.Native.Nat.{ℕ, zero, suc, ◌+◌, ◌≤◌}
use mathlib.Core.Path.{◌≡◌, refl, sym, ap, ◌∙◌}
use mathlib.Core.Bool.{Bool, true, false, cond, not, ◌&&◌, and-false}
use mathlib.Core.List.{List, [], ◌∷◌}
use native.Mathlib.Omega.{arith}
use lib.Dec.{eqb, ltb}
use lib.ListN.{length, get_or, take, drop}
use borrow.Author.Tests.{eq-eqb, lt-ltb, le-ltb, ltb-true, ltb-false}
use Rattle.std.specs.Prelude.{Option, None, Some, option_map}
use Rattle.std.specs.List.{position_or_len}
use Rattle.std.specs.Simd.{first_chunks}
use Rattle.std.specs.Cmp.Lexicographic.{pointwise}
use Rattle.rewriting.specs.Lists.{same}
use Rattle.rewriting.proofs.Lists.{same_eq, eq_same}
use Rattle.grammar.specs.Lookup.{slot_at}
use Rattle.tokens.specs.Numbered.{slot_among}

-- the place of the first that passes
abbrev pub first_place : {A : Type 0} → (A → Bool) → List A → Option ℕ
first_place test xs = cond (ltb (position_or_len test xs) (length xs)) (Some (position_or_len test xs)) None

next_place : {A : Type 0} (test : A → Bool) (x : A) (xs : List A)
    → first_place test (x ∷ xs) ≡ cond (test x) (Some 0) (option_map suc (first_place test xs))
next_place test x xs = go (test x)
  where
    p : ℕ
    p = position_or_len test xs

    later :
        (h : Bool) → ltb p (length xs) ≡ h
        → cond (ltb (1 + p) (suc (length xs))) (Some (1 + p)) None ≡ option_map suc (cond h (Some p) None)
    later true e = rw (lt-ltb (1 + p) (suc (length xs)) (omega (arith, ltb-true p (length xs) e))) (ap Some (omega arith))
    later false e = rw (le-ltb (1 + p) (suc (length xs)) (omega (arith, ltb-false p (length xs) e)))

    go :
        (b : Bool)
        → cond (ltb (cond (not b) (1 + p) 0) (suc (length xs))) (Some (cond (not b) (1 + p) 0)) None
        ≡ cond b (Some 0) (option_map suc (first_place test xs))
    go true = rw (lt-ltb 0 (suc (length xs)) (omega arith))
    go false = later (ltb p (length xs)) refl

-- one byte first, then all: the slot is the one that is looked for
abbrev pub is_key : List ℕ → ℕ → List ℕ → Bool
is_key key last slot = eqb (get_or slot last 0) (get_or key last 0) && pointwise eqb slot key

key-same : (key : List ℕ) (last : ℕ) (slot : List ℕ) → is_key key last slot ≡ same key slot
key-same key last slot = go (same slot key) refl
  where
    go : (h : Bool) → same slot key ≡ h → is_key key last slot ≡ same key slot
    go true e = rw (same_eq slot key e, eq-eqb (get_or key last 0) (get_or key last 0) refl)
    go false e = rw (e, and-false (eqb (get_or slot last 0) (get_or key last 0))) (no (same key slot) refl)
      where
        no : (h : Bool) → same key slot ≡ h → false ≡ h
        no true f = sym e ∙ eq_same slot key (sym (same_eq key slot f))
        no false f = refl

pub slot_place : (key : List ℕ) (last : ℕ) (slots : List (List ℕ)) → first_place (is_key key last) slots ≡ slot_among key slots
unfolding slot_among
slot_place key last [] = refl
slot_place key last (s ∷ slots) = rw (next_place (is_key key last) s slots, key-same key last s, slot_place key last slots)

-- the first slots of an area, taken one by one
pub slots_taken : (key : List ℕ) (n k : ℕ) (area : List ℕ) → n ≤ k
    → slot_among key (take n (first_chunks 25 k area)) ≡ slot_at key n area
unfolding slot_among slot_at
slots_taken key zero k area h = refl
slots_taken key (suc n) zero area h = absurd (omega arith)
slots_taken key (suc n) (suc k) area h = rw (slots_taken key n k (drop 25 area) (omega arith))
