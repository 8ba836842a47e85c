-- Numbers whose bits are gathered by `or`.
use Rattle.std.specs.Prelude.{◌≡◌, refl}
use native.Mathlib.Omega.{arith}
use lib.Bits.{bit_or, or_add_and, and_le_l, and_le_r}

-- The `or` of two is zero exactly where both are.
pub record Gathers {A : Type 0} (zero : A) (or_of : A → A → A) : Type 0 where
  pub parts : (a b : A) → or_of a b ≡ zero → (a ≡ zero) × (b ≡ zero)
  pub none : or_of zero zero ≡ zero

pub or_gathers : Gathers 0 bit_or
or_gathers = record {
  parts = λ a b e.
      let sum = or_add_and a b in
      let l = and_le_l a b in
      let r = and_le_r a b in
      (omega arith, omega arith);
  none = refl;
}
