-- The tests for zeros: the `or` of numbers is 0 exactly where each is 0.
-- Assumes nothing.
use Prim.Native.Nat.{ℕ, zero, suc, ◌+◌, ◌*◌, ◌-◌, ◌≤◌, ◌<◌}
use mathlib.Core.Path.{◌≡◌, refl, sym, ap, ◌∙◌}
use mathlib.Core.Bool.{Bool, true, false}
use mathlib.Core.List.{List}
use native.Mathlib.Omega.{arith}
use lib.Dec.{ltb}
use lib.ListN.{length, get_or, replicate, length-replicate}
use lib.Seq.{ext_get_or}
use borrow.Author.Tests.{ltb-true, ltb-false}
use Rattle.layout.specs.ImageCheck.{Decides}
use Rattle.areas.specs.Bits.{Gathers}

-- `all`, the `or` of the numbers that f has up to i, says whether they are `none`, the number 0
pub record Tells {A : Type 0} (none : A) (f : ℕ → A) (all : A) (i : ℕ) : Type 0 where
  pub zeros : all ≡ none → (k : ℕ) → k < i → f k ≡ none
  pub zero_all : ((k : ℕ) → f k ≡ none) → all ≡ none

module _ {A : Type 0} {none : A} where
  pub tells_none : {f : ℕ → A} → Tells none f none 0
  tells_none = record { zeros = λ e k h. absurd (omega (arith, h)); zero_all = λ z. refl }

  -- zeros are 0 everywhere, behind their end too
  zeros_only : (n k : ℕ) → get_or (replicate n none) k none ≡ none
  zeros_only zero k = refl
  zeros_only (suc n) zero = refl
  zeros_only (suc n) (suc k) = zeros_only n k

  module _ (xs : List A) {all : A} where
    decides : (b : Bool) → Decides b (all ≡ none)
        → (all ≡ none → (k : ℕ) → k < length xs → get_or xs k none ≡ none) → (((k : ℕ) → get_or xs k none ≡ none) → all ≡ none)
        → Decides b (xs ≡ replicate (length xs) none)
    decides true d zeros zero_all =
        ext_get_or none xs (replicate (length xs) none) (sym (length-replicate (length xs) none))
        (λ k h. zeros d k h ∙ sym (zeros_only (length xs) k))
    decides false d zeros zero_all =
        λ p. d (zero_all (λ k. ap (λ (l : List A). get_or l k none) p ∙ zeros_only (length xs) k))

    -- one after another
    pub tells_all : {i : ℕ} (b : Bool) → Tells none (λ k. get_or xs k none) all i → length xs ≤ i → Decides b (all ≡ none)
        → Decides b (xs ≡ replicate (length xs) none)
    tells_all {i} b t whole d = decides b d (λ e k h. t.zeros e k (omega (arith, h, whole))) t.zero_all

module _ {A : Type 0} {none : A} {or_of : A → A → A} (laws : Gathers none or_of) where
  pub tells_more : {f : ℕ → A} {all : A} {i : ℕ} → Tells none f all i → Tells none f (or_of all (f i)) (i + 1)
  tells_more {f} {all} {i} t =
      record {
        zeros = λ e k h. go k (laws.parts all (f i) e) h (ltb k i) refl;
        zero_all = λ z. rw (t.zero_all z, z i) laws.none;
      }
    where
      go : (k : ℕ) → (all ≡ none) × (f i ≡ none) → k < i + 1 → (b : Bool) → ltb k i ≡ b → f k ≡ none
      go k parts h true e = t.zeros parts.0 k (ltb-true k i e)
      go k parts h false e = let here : k ≡ i = omega (arith, ltb-false k i e) in rw here parts.1

-- The `or` of the numbers at k in four quarters: three from the start, and one that ends with the list.
abbrev pub quarters : {A : Type 0} → A → (A → A → A) → List A → ℕ → ℕ → A
quarters none or_of xs size k =
    or_of (or_of (or_of (get_or xs k none) (get_or xs (size + k) none)) (get_or xs (size + size + k) none))
    (get_or xs (length xs - size + k) none)

module _ {A : Type 0} {none : A} {or_of : A → A → A} (laws : Gathers none or_of) (xs : List A) (size : ℕ) where
  -- where the `or` at k is 0, each of the four is
  each : (k : ℕ) → quarters none or_of xs size k ≡ none
      → (get_or xs k none ≡ none) × (get_or xs (size + k) none ≡ none) × (get_or xs (size + size + k) none ≡ none)
      × (get_or xs (length xs - size + k) none ≡ none)
  each k e =
      let three = laws.parts _ _ e in
      let two = laws.parts _ _ three.0 in
      let one = laws.parts _ _ two.0 in
      (one.0, one.1, two.1, three.1)

  -- the number at k, which stands behind place `from`
  behind : (from k : ℕ) → from ≤ k → get_or xs (from + (k - from)) none ≡ none → get_or xs k none ≡ none
  behind from k h e = let here : from + (k - from) ≡ k = omega arith in rw here at e

  -- every place is in a quarter
  everywhere : length xs ≤ 4 * size → ((k : ℕ) → k < size → quarters none or_of xs size k ≡ none)
      → (k : ℕ) → k < length xs → get_or xs k none ≡ none
  everywhere whole z k h = go (ltb k size) refl (ltb k (size + size)) refl (ltb k (length xs - size)) refl
    where
      go : (a : Bool) → ltb k size ≡ a → (b : Bool) → ltb k (size + size) ≡ b → (c : Bool) → ltb k (length xs - size) ≡ c
          → get_or xs k none ≡ none
      go true p b q c r = (each k (z k (ltb-true k size p))).0
      go false p true q c r =
          let j : ℕ = k - size in
          behind size k (ltb-false k size p) (each j (z j (omega (arith, ltb-true k (size + size) q, ltb-false k size p)))).1
      go false p false q true r =
          let j : ℕ = k - (size + size) in
          let from = ltb-false k (size + size) q in
          behind (size + size) k from (each j (z j (omega (arith, ltb-true k (length xs - size) r, from)))).2
      go false p false q false r =
          let j : ℕ = k - (length xs - size) in
          let from = ltb-false k (length xs - size) r in
          behind (length xs - size) k from (each j (z j (omega (arith, from, ltb-false k size p)))).3

  pub quarters_all :
      {all : A} {i : ℕ} (b : Bool) → length xs ≤ 4 * size → Tells none (quarters none or_of xs size) all i → size ≤ i
      → Decides b (all ≡ none) → Decides b (xs ≡ replicate (length xs) none)
  quarters_all {all} {i} b whole t done d =
      decides xs b d (λ e. everywhere whole (λ k h. t.zeros e k (omega (arith, h, done))))
      (λ z. t.zero_all (λ k. rw (z k, z (size + k), z (size + size + k), z (length xs - size + k))
      (rw laws.none (rw laws.none laws.none))))
