-- The table of classes has the class of each byte, and what a class says of a byte.
-- Assumes nothing.
use Prim.Native.Nat.{ℕ, ◌≤◌, ◌<◌}
use mathlib.Core.Path.{◌≡◌, refl, sym, ap, ◌∙◌}
use mathlib.Core.Bool.{Bool, true, false, cond, ◌||◌}
use mathlib.Core.List.{List, map}
use native.Mathlib.Omega.{arith}
use lib.Dec.{eqb}
use lib.ListN.{length, get_or, get_or-eq_default}
use borrow.Author.Tests.{eqb-true}
use Rattle.std.proofs.lemmas.Bool.{false≢true}
use Rattle.rewriting.specs.Lists.{up_to}
use Rattle.grammar.specs.Tokens.{separator, letter, digit, name_byte}
use Rattle.tokens.specs.declared.bytes.Class.{Class}
use Rattle.tokens.specs.declared.bytes.Class.TheVariants as classes
use Rattle.tokens.specs.declared.bytes.TheConstants.{CLASSES}
use Rattle.tokens.specs.Classes.{class_of}
use Rattle.rewriting.proofs.Lists.{length-up_to, get_or-up_to, get_d_map}

-- all 256 entries are computed, and compared with those in the code
table : CLASSES ≡ map class_of (up_to 256)
unfolding class_of separator letter digit name_byte
table = refl

-- the entry of a byte
pub table_entry : (b : ℕ) → b < 256 → get_or CLASSES b classes.Separator ≡ class_of b
table_entry b h =
    let size = length-up_to 256 in
    ap (λ (t : List Class). get_or t b classes.Separator) table
    ∙ (get_d_map class_of (up_to 256) b 0 classes.Separator (omega arith) ∙ ap class_of (get_or-up_to 256 b 0 h))

-- The class of a byte, by the two tests on it.
abbrev class : Bool → Bool → Class
class separates named = cond separates classes.Separator (cond named classes.Name classes.Other)

-- a separator is in no name
separator-no_name : (b : ℕ) → separator b ≡ true → name_byte b ≡ false
unfolding separator name_byte letter digit
separator-no_name b e = go (eqb b 32) (eqb b 9) (eqb b 13) (eqb b 10) refl refl refl refl e
  where
    go :
        (s t r n : Bool) → eqb b 32 ≡ s → eqb b 9 ≡ t → eqb b 13 ≡ r → eqb b 10 ≡ n → (s || t || r || n) ≡ true
        → name_byte b ≡ false
    go true t r n is_s is_t is_r is_n some = rw (eqb-true b 32 is_s)
    go false true r n is_s is_t is_r is_n some = rw (eqb-true b 9 is_t)
    go false false true n is_s is_t is_r is_n some = rw (eqb-true b 13 is_r)
    go false false false true is_s is_t is_r is_n some = rw (eqb-true b 10 is_n)
    go false false false false is_s is_t is_r is_n some = absurd (false≢true some)

-- What a class says of a byte.
module _ (b : ℕ) where
  pub class_separator : class_of b ≡ classes.Separator → separator b ≡ true
  unfolding class_of
  class_separator e = go (separator b) (name_byte b) e
    where
      go : (s n : Bool) → class s n ≡ classes.Separator → s ≡ true
      go true n f = refl
      go false true f = cc
      go false false f = cc

  pub class_apart : (class_of b ≡ classes.Separator → ⊥) → separator b ≡ false
  unfolding class_of
  class_apart f = go (separator b) f
    where
      go : (s : Bool) → (class s (name_byte b) ≡ classes.Separator → ⊥) → s ≡ false
      go true g = absurd (g refl)
      go false g = refl

  pub class_name : class_of b ≡ classes.Name → (separator b ≡ false) × (name_byte b ≡ true)
  unfolding class_of
  class_name e = go (separator b) (name_byte b) e
    where
      go : (s n : Bool) → class s n ≡ classes.Name → (s ≡ false) × (n ≡ true)
      go true n f = cc
      go false true f = (refl, refl)
      go false false f = cc

  pub class_other : class_of b ≡ classes.Other → (separator b ≡ false) × (name_byte b ≡ false)
  unfolding class_of
  class_other e = go (separator b) (name_byte b) e
    where
      go : (s n : Bool) → class s n ≡ classes.Other → (s ≡ false) × (n ≡ false)
      go true n f = cc
      go false true f = cc
      go false false f = (refl, refl)

  pub name-class : name_byte b ≡ true → class_of b ≡ classes.Name
  unfolding class_of
  name-class e = go (separator b) refl
    where
      go : (s : Bool) → separator b ≡ s → class s (name_byte b) ≡ classes.Name
      go true f = absurd (false≢true (sym (separator-no_name b f) ∙ e))
      go false f = rw e

  pub class_unnamed : (class_of b ≡ classes.Name → ⊥) → name_byte b ≡ false
  class_unnamed f = go (name_byte b) refl
    where
      go : (n : Bool) → name_byte b ≡ n → n ≡ false
      go true e = absurd (f (name-class e))
      go false e = refl

-- behind the last byte, what is read is a space
pub class_behind : (t : List ℕ) (i : ℕ) → length t ≤ i → classes.Separator ≡ class_of (get_or t i 32)
unfolding class_of separator
class_behind t i h = sym (ap class_of (get_or-eq_default t 32 {n = i} h))
