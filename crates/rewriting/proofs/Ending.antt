-- What `ending` finds at the string's start, and behind one symbol more. These laws open `tie`: they are the choice of the
-- longest
-- left side, marked before unmarked.
-- Assumes nothing.
use Prim.Native.Nat.{ℕ}
use mathlib.Core.Path.{◌≡◌, refl, ap}
use mathlib.Core.Bool.{Bool, true, false}
use Rattle.std.specs.Prelude.{Option, None, Some}
use Rattle.std.specs.Option.{option_or}
use mathlib.Core.List.{List, [], ◌∷◌}
use native.Mathlib.Omega.{arith}
use lib.ListN.{length}
use Rattle.rewriting.specs.Rules.{Rule}
use Rattle.rewriting.specs.Occurrences.{lowest, spanning, ending}
use Rattle.rewriting.proofs.Choice.{tie-or_else}
use Rattle.rewriting.proofs.Scan.{lowest_left_lem}
use Rattle.rewriting.proofs.Redex.{NonEmpty}

module _ (rules : List Rule) where
  -- where no marked rule has the left side p, the start makes no difference
  pub ending_unmarked : (p : List ℕ) → lowest rules true p ≡ None → ending rules true p ≡ ending rules false p
  unfolding ending spanning
  ending_unmarked [] e = refl
  ending_unmarked (x ∷ p) e = rw e

  -- behind one symbol more: the rule with that left side, or what was found without the symbol
  pub ending_longer :
      (x : ℕ) (p : List ℕ) → ending rules false (x ∷ p) ≡ option_or (lowest rules false (x ∷ p)) (ending rules false p)
  unfolding ending spanning
  ending_longer x p = tie-or_else (lowest rules false (x ∷ p)) (ending rules false p)

  module _ (some_left : NonEmpty rules) where
    -- no left side is empty
    pub lowest-empty : (marked : Bool) → lowest rules marked [] ≡ None
    lowest-empty marked = go (lowest rules marked []) refl
      where
        go : (o : Option ℕ) → lowest rules marked [] ≡ o → o ≡ None
        go None e = refl
        go (Some i) e =
            let found = lowest_left_lem rules marked [] i e in
            absurd (omega (arith, some_left i found.0, ap length found.1.1))

    -- at the start: the marked rule with the left side p, or what is found elsewhere
    pub ending_start : (p : List ℕ) → ending rules true p ≡ option_or (lowest rules true p) (ending rules false p)
    unfolding ending spanning
    ending_start [] = rw (lowest-empty true)
    ending_start (x ∷ p) = rw (tie-or_else, tie-or_else) (go (lowest rules true (x ∷ p)))
      where
        go : (o : Option ℕ) → option_or (option_or o (lowest rules false (x ∷ p))) (ending rules false p)
            ≡ option_or o (option_or (lowest rules false (x ∷ p)) (ending rules false p))
        go None = refl
        go (Some i) = refl
