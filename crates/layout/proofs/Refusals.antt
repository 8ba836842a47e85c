-- Laws of `refusal`: it passes over the checks that hold and stops at the first that does not.
-- Assumes nothing.
use Prim.Native.Nat.{ℕ, ◌<◌}
use mathlib.Core.Path.{◌≡◌, refl}
use mathlib.Core.Bool.{Bool, true, false, cond}
use Rattle.std.specs.Prelude.{Option, None, Some, Result, Ok, Err, option_map}
use mathlib.Core.List.{List, [], ◌∷◌, ◌++◌, map, Memᴰ}
use native.Mathlib.Omega.{arith}
use Rattle.layout.specs.declared.Refusal.{Refusal}
use Rattle.layout.specs.Refusals.{Check, refusal, refusal_number, number}

-- no check, no refusal
pub refusal_nil : refusal [] ≡ None
unfolding refusal
refusal_nil = refl

-- the first check fails
pub refusal_head : (b : Bool) (n : ℕ) (cs : List Check) → b ≡ false → refusal ((b, n) ∷ cs) ≡ Some n
unfolding refusal
refusal_head b n cs e = rw e

-- the first check holds
pub refusal_pass : (b : Bool) (n : ℕ) (cs : List Check) → b ≡ true → refusal ((b, n) ∷ cs) ≡ refusal cs
unfolding refusal
refusal_pass b n cs e = rw e

-- nothing is refused: the first check holds
pub refusal_passed : (b : Bool) (n : ℕ) (cs : List Check) → refusal ((b, n) ∷ cs) ≡ None → b ≡ true
unfolding refusal
refusal_passed true n cs e = refl
refusal_passed false n cs e = let z : ◌≡◌ {A = ℕ} 0 1 = cc in absurd (omega arith)

-- nothing is refused: the other checks refuse nothing
pub refusal_rest : (b : Bool) (n : ℕ) (cs : List Check) → refusal ((b, n) ∷ cs) ≡ None → refusal cs ≡ None
unfolding refusal
refusal_rest true n cs e = e
refusal_rest false n cs e = let z : ◌≡◌ {A = ℕ} 0 1 = cc in absurd (omega arith)

-- the first checks refuse nothing: the others decide
pub refusal_append_none : (cs ds : List Check) → refusal cs ≡ None → refusal (cs ++ ds) ≡ refusal ds
unfolding refusal
refusal_append_none [] ds e = refl
refusal_append_none (c ∷ cs) ds e =
    let p : c.0 ≡ true = refusal_passed c.0 c.1 cs e in
    rw p (refusal_append_none cs ds (refusal_rest c.0 c.1 cs e))

-- the first checks refuse: the others are not asked
pub refusal_append_some : (cs ds : List Check) (n : ℕ) → refusal cs ≡ Some n → refusal (cs ++ ds) ≡ Some n
unfolding refusal
refusal_append_some [] ds n e = let z : ◌≡◌ {A = ℕ} 0 1 = cc in absurd (omega arith)
refusal_append_some (c ∷ cs) ds n e = go c.0 refl (refusal_append_some cs ds n)
  where
    go :
        (b : Bool) → c.0 ≡ b → (refusal cs ≡ Some n → refusal (cs ++ ds) ≡ Some n)
        → refusal ((c ∷ cs) ++ ds) ≡ Some n
    go true p ih = rw p (ih (rw p at e))
    go false p ih = rw p (rw p at e)

-- nothing is refused: neither the first checks nor the others refuse
pub refusal_none_left : (cs ds : List Check) → refusal (cs ++ ds) ≡ None → refusal cs ≡ None
unfolding refusal
refusal_none_left [] ds e = refl
refusal_none_left (c ∷ cs) ds e =
    rw (refusal_passed c.0 c.1 (cs ++ ds) e)
    (refusal_none_left cs ds (refusal_rest c.0 c.1 (cs ++ ds) e))

pub refusal_none_right : (cs ds : List Check) → refusal (cs ++ ds) ≡ None → refusal ds ≡ None
unfolding refusal
refusal_none_right [] ds e = e
refusal_none_right (c ∷ cs) ds e = refusal_none_right cs ds (refusal_rest c.0 c.1 (cs ++ ds) e)

-- a refusal has the number of one of the checks
pub refusal-number : (cs : List Check) (n : ℕ) → refusal cs ≡ Some n → Memᴰ n (map (λ (c : Check). c.1) cs)
unfolding refusal
refusal-number [] n e = let z : ◌≡◌ {A = ℕ} 0 1 = cc in absurd (omega arith)
refusal-number (c ∷ cs) n e = go c.0 e (refusal-number cs n)
  where
    go : (b : Bool) → cond b (refusal cs) (Some c.1) ≡ Some n
        → (refusal cs ≡ Some n → Memᴰ n (map (λ (d : Check). d.1) cs)) → Memᴰ n (c.1 ∷ map (λ (d : Check). d.1) cs)
    go true p ih = Memᴰ.tail (ih p)
    go false p ih = let q : n ≡ c.1 = cc in Memᴰ.head q

-- What the code knows behind an `if let` that did not match.
pub not_refused : (r : Result (Unit {0}) Refusal) → ((x : Refusal) → r ≡ Err x → ⊥) → r ≡ Ok tt
not_refused (Ok u) h = refl
not_refused (Err x) h = absurd (h x refl)

pub not_stopped : (s : Option Refusal) → ((x : Refusal) → s ≡ Some x → ⊥) → refusal_number (option_map number s) ≡ 0
unfolding refusal_number
not_stopped None h = refl
not_stopped (Some x) h = absurd (h x refl)

-- no refusal has the number 0
pub number_positive : (x : Refusal) → 0 < number x
number_positive Refusal.LongText = omega arith
number_positive Refusal.ShortArea = omega arith
number_positive Refusal.NoToken = omega arith
number_positive Refusal.Misplaced = omega arith
number_positive Refusal.TooMany = omega arith
number_positive Refusal.Repeated = omega arith
number_positive Refusal.BadImage = omega arith
number_positive Refusal.ShortTable = omega arith
number_positive Refusal.OtherTable = omega arith
number_positive Refusal.AreaLength = omega arith
number_positive Refusal.NotAsDescribed = omega arith
number_positive Refusal.NoEvent = omega arith
number_positive Refusal.TooMuchFuel = omega arith
number_positive Refusal.VerdictStands = omega arith
number_positive Refusal.NoRoom = omega arith
number_positive Refusal.BatchLength = omega arith
number_positive Refusal.NoCalls = omega arith
