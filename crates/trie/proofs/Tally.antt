-- Laws of the tally: how many numbers below n pass a test.
-- Assumes nothing.
use Prim.Native.Nat.{ℕ, zero, suc, ◌+◌, ◌≤◌, ◌<◌}
use mathlib.Core.Path.{◌≡◌, refl, sym, ◌∙◌}
use mathlib.Core.Bool.{Bool, true, false, cond, not}
use mathlib.Core.Logic.{◌≢◌}
use native.Mathlib.Omega.{arith}
use native.Mathlib.Nat.{not-suc-le-zero}
use native.Mathlib.Numerals.{add-one}
use lib.Dec.{eqb, ltb}
use borrow.Author.Tests.{ltb-true, ltb-false, eqb-true, eqb-false, eq-eqb, ne_eqb}
use Rattle.trie.specs.Nodes.{tally}

-- tests that agree below n have one tally
pub tally_agree : (p r : ℕ → Bool) (n : ℕ) → ((a : ℕ) → a < n → p a ≡ r a) → tally p n ≡ tally r n
unfolding tally
tally_agree p r zero h = refl
tally_agree p r (suc n) h =
    let ih = tally_agree p r n (λ a k. h a (omega arith)) in
    rw (h n (omega arith), ih)

-- at most n
pub tally_most : (p : ℕ → Bool) (n : ℕ) → tally p n ≤ n
unfolding tally
tally_most p zero = omega arith
tally_most p (suc n) = go (p n) (tally_most p n)
  where
    go : (b : Bool) → tally p n ≤ n → tally p n + cond b 1 0 ≤ suc n
    go true h = omega arith
    go false h = omega arith

pub tally-none : (p : ℕ → Bool) (n : ℕ) → ((a : ℕ) → a < n → p a ≡ false) → tally p n ≡ 0
unfolding tally
tally-none p zero h = refl
tally-none p (suc n) h = rw (tally-none p n (λ a k. h a (omega arith)), h n (omega arith))

-- one more number passes
pub tally_more : (p r : ℕ → Bool) (n a : ℕ) → a < n → p a ≡ false → r a ≡ true → ((b : ℕ) → b < n → b ≢ a → r b ≡ p b)
    → tally r n ≡ tally p n + 1
unfolding tally
tally_more p r zero a lt pa ra h = absurd (omega arith)
tally_more p r (suc n) a lt pa ra h = go (eqb n a) refl (tally_more p r n a)
  where
    go : (b : Bool) → eqb n a ≡ b
        → (a < n → p a ≡ false → r a ≡ true → ((b : ℕ) → b < n → b ≢ a → r b ≡ p b) → tally r n ≡ tally p n + 1)
        → tally r n + cond (r n) 1 0 ≡ tally p n + cond (p n) 1 0 + 1
    go true e ih =
        let here : n ≡ a = eqb-true n a e in
        let pn : p n ≡ false = rw here pa in
        let rn : r n ≡ true = rw here ra in
        let same = tally_agree r p n (λ b k. h b (omega arith) (λ d. omega arith)) in
        rw (pn, rn, same) (omega arith)
    go false e ih =
        let other : n ≢ a = eqb-false n a e in
        let rest = ih (omega arith) pa ra (λ b k d. h b (omega arith) d) in
        rw (h n (omega arith) other, rest) (omega arith)

module _ (P Q : ℕ → Bool) where
  -- a test that implies another passes no more numbers
  tally_less : (n : ℕ) → ((a : ℕ) → a < n → P a ≡ true → Q a ≡ true) → tally P n ≤ tally Q n
  unfolding tally
  tally_less zero h = omega arith
  tally_less (suc n) h = go (P n) refl (Q n) refl (tally_less n (λ a lt. h a (omega arith)))
    where
      go : (b : Bool) → P n ≡ b → (c : Bool) → Q n ≡ c → tally P n ≤ tally Q n → tally P n + cond b 1 0 ≤ tally Q n + cond c 1 0
      go true p true q ih = omega arith
      go true p false q ih = let e = h n (omega arith) p in let z : ◌≡◌ {A = ℕ} 0 1 = cc in absurd (omega arith)
      go false p true q ih = omega arith
      go false p false q ih = omega arith

  -- of two tests, the first of which implies the second, and whose tallies are equal, the second implies the first
  pub tally-same : (n : ℕ) → ((a : ℕ) → a < n → P a ≡ true → Q a ≡ true) → tally P n ≡ tally Q n
      → (a : ℕ) → a < n → Q a ≡ true → P a ≡ true
  unfolding tally
  tally-same zero h e a lt q = absurd (not-suc-le-zero lt)
  tally-same (suc n) h e a lt q =
      go (P n) refl (Q n) refl e (tally_less n (λ a lt. h a (omega arith))) (tally-same n (λ a lt. h a (omega arith)))
    where
      last : P n ≡ Q n → (tally P n ≡ tally Q n → (a : ℕ) → a < n → Q a ≡ true → P a ≡ true) → tally P n ≡ tally Q n
          → (b : Bool) → ltb a n ≡ b → P a ≡ true
      last agree ih same true l = ih same a (ltb-true a n l) q
      last agree ih same false l =
          let here : a ≡ n = omega (arith, ltb-false a n l) in
          let p : P n ≡ Q n = agree in
          rw here (p ∙ rw here at q)

      go : (b : Bool) → P n ≡ b → (c : Bool) → Q n ≡ c → tally P n + cond b 1 0 ≡ tally Q n + cond c 1 0 → tally P n ≤ tally Q n
          → (tally P n ≡ tally Q n → (a : ℕ) → a < n → Q a ≡ true → P a ≡ true) → P a ≡ true
      go true p true r e less ih = last (p ∙ sym r) ih (omega arith) (ltb a n) refl
      go true p false r e less ih = let e = h n (omega arith) p in let z : ◌≡◌ {A = ℕ} 0 1 = cc in absurd (omega arith)
      go false p true r e less ih = absurd (omega arith)
      go false p false r e less ih = last (p ∙ sym r) ih (omega arith) (ltb a n) refl

-- how many words of two rows differ, one word further on
module _ (x y : ℕ → ℕ) (n : ℕ) where
  pub tally_differ : (x n ≡ y n → ⊥) → tally (λ k. not (eqb (x k) (y k))) (n + 1) ≡ tally (λ k. not (eqb (x k) (y k))) n + 1
  unfolding tally
  tally_differ h = rw (add-one n, ne_eqb (x n) (y n) h)

  pub tally_equal : x n ≡ y n → tally (λ k. not (eqb (x k) (y k))) (n + 1) ≡ tally (λ k. not (eqb (x k) (y k))) n
  unfolding tally
  tally_equal h = rw (add-one n, eq-eqb (x n) (y n) h) (omega arith)
