-- The laws of `tie`, the choice among occurrences that end together. No other law opens it.
-- Assumes nothing.
use Prim.Native.Nat.{ℕ}
use mathlib.Core.Path.{◌≡◌, refl, sym, ◌∙◌}
use mathlib.Core.Logic.{◌⊎◌, inl, inr, ⊎_elim}
use Rattle.std.specs.Prelude.{Option, None, Some}
use Rattle.std.specs.Option.{option_or}
use native.Mathlib.Omega.{arith}
use Rattle.rewriting.specs.Occurrences.{tie}

-- it takes one of the two
tie_either : (earlier later : Option ℕ) → (tie earlier later ≡ earlier) ⊎ (tie earlier later ≡ later)
unfolding tie
tie_either None later = inr refl
tie_either (Some i) later = inl refl

pub tie-some : (earlier later : Option ℕ) (i : ℕ) → tie earlier later ≡ Some i → (earlier ≡ Some i) ⊎ (later ≡ Some i)
tie-some earlier later i e =
    ⊎_elim (λ (h : tie earlier later ≡ earlier). inl (sym h ∙ e)) (λ (h : tie earlier later ≡ later). inr (sym h ∙ e))
    (tie_either earlier later)

-- the earlier where there is one
pub tie_earlier : (earlier later : Option ℕ) (i j : ℕ) → tie earlier later ≡ Some i → earlier ≡ Some j → i ≡ j
unfolding tie
tie_earlier None later i j e p = let z : ◌≡◌ {A = ℕ} 0 1 = cc in absurd (omega arith)
tie_earlier (Some k) later i j e p = cc

-- the later where there is no earlier
pub tie_later : (later : Option ℕ) → tie None later ≡ later
unfolding tie
tie_later later = refl

-- neither only where there is neither
pub tie_none : (earlier later : Option ℕ) → tie earlier later ≡ None → (earlier ≡ None) × (later ≡ None)
unfolding tie
tie_none None later e = (refl, e)
tie_none (Some i) later e = let z : ◌≡◌ {A = ℕ} 0 1 = cc in absurd (omega arith)

-- in all: the earlier, or else the later
pub tie-or_else : (earlier later : Option ℕ) → tie earlier later ≡ option_or earlier later
unfolding tie
tie-or_else earlier later = refl
