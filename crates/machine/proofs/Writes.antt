-- Loops that write: places set to 0, symbols copied. Each is `paste`, element by element.
-- Assumes nothing.
use Prim.Native.Nat.{ℕ, zero, suc, ◌+◌, ◌-◌, ◌≤◌, ◌<◌}
use mathlib.Core.Path.{◌≡◌, sym, ap, ◌∙◌}
use mathlib.Core.List.{List, [], ◌∷◌}
use native.Mathlib.Omega.{arith}
use native.Mathlib.Numerals.{add-one}
use lib.ListN.{length, get_or, set, drop, replicate, length-replicate, length-drop}
use lib.Seq.{paste, paste-zero, length-paste, drop-cons, get_or-drop}

-- one element more, before the others
one_before :
    (d : List ℕ) (i n x : ℕ) (s : List ℕ) → suc i + n ≤ length d → set (paste d (suc i) s n) i x ≡ paste d i (x ∷ s) (suc n)
one_before [] i n x s h = absurd (omega arith)
one_before (y ∷ d) zero n x s h =
    let e : suc zero + n ≡ suc n = omega arith in
    let f : zero + suc n ≡ suc n = omega arith in
    rw (e, f)
one_before (y ∷ d) (suc i) n x s h =
    let e : suc (suc i) + n ≡ suc (suc i + n) = omega arith in
    let f : suc i + suc n ≡ suc (i + suc n) = omega arith in
    rw (e, f) (ap (λ (l : List ℕ). y ∷ l) (one_before d i n x s (omega arith)))

-- places are set to 0 from `end` down to `at`
pub record Popping (d : List ℕ) (end : ℕ) (xs : List ℕ) (at : ℕ) : Type 0 where
  pub order : at ≤ end
  pub inside : end ≤ length d
  pub done : xs ≡ paste d at (replicate (end - at) 0) (end - at)

pub popping_first : (d : List ℕ) (end : ℕ) → end ≤ length d → Popping d end d end
popping_first d end inside =
    let e : end - end ≡ 0 = omega arith in
    record { order = omega arith; inside = inside; done = rw e (paste-zero d end []) }

pub popping_next : {d : List ℕ} {end : ℕ} {xs : List ℕ} {at : ℕ} → Popping d end xs at → 1 ≤ at
    → Popping d end (set xs (at - 1) 0) (at - 1)
popping_next {d} {end} {xs} {at} k some =
    let e : at ≡ suc (at - 1) = omega arith in
    let n : end - (at - 1) ≡ suc (end - at) = omega (arith, k.order) in
    record {
      order = omega (arith, k.order);
      inside = k.inside;
      done =
          ap (λ (l : List ℕ). set l (at - 1) 0)
          (k.done ∙ ap (λ (i : ℕ). paste d i (replicate (end - at) 0) (end - at)) e)
          ∙ one_before d (at - 1) (end - at) 0 (replicate (end - at) 0) (omega (arith, k.order, k.inside))
          ∙ ap (λ (m : ℕ). paste d (at - 1) (replicate m 0) m) (sym n);
    }

pub popping_length : {d : List ℕ} {end : ℕ} {xs : List ℕ} {at : ℕ} → Popping d end xs at → length xs ≡ length d
popping_length {d} {end} {xs} {at} k =
    rw k.done
    (length-paste d at (replicate (end - at) 0) (end - at) (omega (arith, k.order, k.inside))
    (rw (length-replicate {A = ℕ}) (omega arith)))

-- the symbols of b from `start` on, to the places from `to` on
pub source_at : (b : List ℕ) (start k : ℕ) → get_or b (start + k) 0 ≡ get_or (drop start b) k 0
source_at b start k = sym (get_or-drop start b k 0)

-- counted from the last of n
pub source_back :
    (b : List ℕ) (start n k i : ℕ) → i ≡ start + n - 1 - k → k < n → get_or b i 0 ≡ get_or (drop start b) (n - suc k) 0
source_back b start n k i e h =
    let place : i ≡ start + (n - suc k) = omega (arith, e) in
    rw place (source_at b start (n - suc k))

pub source_length : (b : List ℕ) (start n : ℕ) → start + n ≤ length b → n ≤ length (drop start b)
source_length b start n h = rw length-drop (omega arith)

-- the last j of n elements of s are copied, the last one to the place before `end`
pub record Backing (d : List ℕ) (end : ℕ) (s : List ℕ) (n : ℕ) (xs : List ℕ) (j : ℕ) : Type 0 where
  pub few : j ≤ n
  pub room : n ≤ end
  pub inside : end ≤ length d
  pub source : n ≤ length s
  pub done : xs ≡ paste d (end - j) (drop (n - j) s) j

pub backing_first : (d : List ℕ) (end : ℕ) (s : List ℕ) (n : ℕ) → n ≤ end → end ≤ length d → n ≤ length s → Backing d end s n d 0
backing_first d end s n room inside source =
    record { few = omega arith; room = room; inside = inside; source = source; done = paste-zero d (end - 0) (drop (n - 0) s) }

pub backing_next : {d : List ℕ} {end : ℕ} {s : List ℕ} {n : ℕ} {xs : List ℕ} {j : ℕ} (i x : ℕ) → Backing d end s n xs j → j < n
    → i ≡ end - suc j → x ≡ get_or s (n - suc j) 0 → Backing d end s n (set xs i x) (j + 1)
backing_next {d} {end} {s} {n} {xs} {j} i x k more place value =
    let e : end - j ≡ suc i = omega (arith, place, k.room) in
    let m : n - j ≡ suc (n - suc j) = omega arith in
    let rest : x ∷ drop (suc (n - suc j)) s ≡ drop (n - suc j) s =
    ap (λ (y : ℕ). y ∷ drop (suc (n - suc j)) s) value ∙ sym (drop-cons s (n - suc j) 0 (omega (arith, k.source)))
    in
    rw add-one
    (record {
      few = omega arith;
      room = k.room;
      inside = k.inside;
      source = k.source;
      done =
          ap (λ (l : List ℕ). set l i x)
          (k.done ∙ (λ t. paste d (e t) (drop (m t) s) j))
          ∙ one_before d i j x (drop (suc (n - suc j)) s) (omega (arith, place, k.room, k.inside))
          ∙ (λ t. paste d (place t) (rest t) (suc j));
    })

pub backing_length :
    {d : List ℕ} {end : ℕ} {s : List ℕ} {n : ℕ} {xs : List ℕ} {j : ℕ} → Backing d end s n xs j → length xs ≡ length d
backing_length {d} {end} {s} {n} {xs} {j} k =
    rw k.done
    (length-paste d (end - j) (drop (n - j) s) j (omega (arith, k.few, k.room, k.inside))
    (rw length-drop (omega (arith, k.few, k.source))))

pub backing_last : {d : List ℕ} {end : ℕ} {s : List ℕ} {n : ℕ} {xs : List ℕ} {j : ℕ} → Backing d end s n xs j → n ≤ j
    → (i : ℕ) → i ≡ end - n → xs ≡ paste d i s n
backing_last {d} {end} {s} {n} {xs} {j} k all i place =
    let e : j ≡ n = omega (arith, k.few) in
    let z : n - n ≡ 0 = omega arith in
    k.done ∙ ap (λ (m : ℕ). paste d (end - m) (drop (n - m) s) m) e ∙ (λ t. paste d (sym place t) (drop (z t) s) n)
