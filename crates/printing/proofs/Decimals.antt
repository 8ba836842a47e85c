-- Laws of numbers in base ten.
-- Assumes nothing.
use Prim.Native.Nat.pow
use Prim.Native.Nat.{ℕ, zero, suc, ◌+◌, ◌*◌, ◌/◌, ◌%◌, ◌^◌, ◌≤◌, ◌<◌}
use mathlib.Core.Path.{◌≡◌, refl}
use mathlib.Core.Bool.{Bool, true, false}
use mathlib.Core.List.{[], ◌∷◌, ◌++◌}
use native.Mathlib.Omega.{arith}
use lib.Dec.{ltb}
use lib.ListN.{length, length-append}
use borrow.Author.Tests.{ltb-false, lt-ltb, le-ltb}
use Rattle.printing.specs.Lines.{digits, decimal}

-- a count of digits that is large enough makes no difference
digits_enough : (k m n : ℕ) → n < k → n < m → digits k n ≡ digits m n
unfolding digits
digits_enough zero m n h g = absurd (omega arith)
digits_enough (suc k) zero n h g = absurd (omega arith)
digits_enough (suc k) (suc m) n h g = go (ltb n 10) refl (digits_enough k m (n / 10))
  where
    go :
        (b : Bool) → ltb n 10 ≡ b → (n / 10 < k → n / 10 < m → digits k (n / 10) ≡ digits m (n / 10))
        → digits (suc k) n ≡ digits (suc m) n
    go true e ih = rw e
    go false e ih =
        let large : 10 ≤ n = ltb-false n 10 e in
        rw (e, ih (omega arith) (omega arith))

-- the last digit, and those before it
pub decimal_one : (n : ℕ) → n < 10 → decimal n ≡ (48 + n) ∷ []
unfolding decimal digits
decimal_one n h = rw (lt-ltb n 10 h)

pub decimal_more : (n : ℕ) → 10 ≤ n → decimal n ≡ decimal (n / 10) ++ (48 + n % 10) ∷ []
unfolding decimal digits
decimal_more n h =
    let large : ltb n 10 ≡ false = le-ltb n 10 (omega arith) in
    rw (large, digits_enough n (suc (n / 10)) (n / 10) (omega arith) (omega arith))

-- a number below 10 ^ k has at most k digits
digits-length : (j k n : ℕ) → n < 10 ^ suc j → length (digits k n) ≤ suc j
unfolding digits
digits-length j zero n h = omega arith
digits-length zero (suc k) n h =
    let small : ltb n 10 ≡ true = lt-ltb n 10 h in
    rw small (omega arith)
digits-length (suc j) (suc k) n h = go (ltb n 10) refl (digits-length j k (n / 10))
  where
    tenth : n / 10 < 10 ^ suc j
    tenth = let p : n < 10 ^ suc j * 10 = rw (pow.suc 10 (suc j)) at h in omega (arith, p)

    go :
        (b : Bool) → ltb n 10 ≡ b → (n / 10 < 10 ^ suc j → length (digits k (n / 10)) ≤ suc j)
        → length (digits (suc k) n) ≤ suc (suc j)
    go true e ih = rw e (omega arith)
    go false e ih = rw e (omega (arith, length-append (digits k (n / 10)) ((48 + n % 10) ∷ []), ih tenth))

pub decimal-length : (j n : ℕ) → n < 10 ^ suc j → length (decimal n) ≤ suc j
unfolding decimal
decimal-length j n h = digits-length j (suc n) n h
