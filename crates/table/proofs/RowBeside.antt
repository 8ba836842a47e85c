-- A state's row beside its failure state's: in the rules' table the two differ just where the state has a child, and a row
-- that has each child in its place and differs in as many words as there are children is right.
-- Assumes nothing.
use Prim.Native.Nat.{ℕ, ◌≤◌, ◌<◌}
use mathlib.Core.Path.{◌≡◌, refl, sym, ap, ◌∙◌}
use mathlib.Core.Bool.{Bool, true, false, not}
use mathlib.Core.List.{List, [], ◌∷◌, ◌++◌}
use native.Mathlib.Omega.{arith}
use lib.Dec.{eqb}
use lib.ListN.{length, length-append}
use borrow.Author.Tests.{eqb-true, eq-eqb, ne_eqb}
use Rattle.rewriting.specs.Rules.{Rule}
use Rattle.layout.specs.States.{next, known, states, number}
use Rattle.layout.specs.Words.{failure_state}
use Rattle.trie.specs.Nodes.{tally}
use Rattle.layout.proofs.States.{known_nil, next_known, next_listed, number_at}
use Rattle.trie.proofs.Tally.{tally_agree, tally-same}
use Rattle.trie.proofs.Failure.{next_failure, failure_next_short, next-root}

-- where state v has no child by a symbol a, its next state is w a, which is shorter than a child
pub record Inherits (rules : List Rule) (v : List ℕ) (w : ℕ → List ℕ) : Type 0 where
  pub listed : (a : ℕ) → known (states rules) (w a) ≡ true
  pub short : (a : ℕ) → length (w a) ≤ length v
  pub other : (a : ℕ) → known (states rules) (v ++ a ∷ []) ≡ false → next rules v a ≡ w a

pub inherits_failure : (rules : List Rule) (v : List ℕ) → 0 < length v
    → Inherits rules v (λ a. next rules (failure_state rules v) a)
inherits_failure rules v long =
    record {
      listed = next_known rules (failure_state rules v);
      short = failure_next_short rules v long;
      other = next_failure rules v long;
    }

pub inherits_root : (rules : List Rule) → Inherits rules [] (λ a. [])
inherits_root rules = record { listed = λ a. known_nil rules; short = λ a. omega arith; other = next-root rules }

-- `here` and `base` are the two rows' words.
module _ {rules : List Rule} {v : List ℕ} {w : ℕ → List ℕ} (inherits : Inherits rules v w) (symbols : ℕ) (here base : ℕ → ℕ)
    (based : (a : ℕ) → a < symbols → base a ≡ number (states rules) (w a)) where
  -- a child's number is not the inherited one
  child_differs : (a : ℕ) → a < symbols → known (states rules) (v ++ a ∷ []) ≡ true → here a ≡ number (states rules) (v ++ a ∷ [])
      → not (eqb (here a) (base a)) ≡ true
  child_differs a lt k e = rw (ne_eqb (here a) (base a) different)
    where
      different : here a ≡ base a → ⊥
      different p =
          let child = (number_at (states rules) (v ++ a ∷ []) k).1 in
          let other = (number_at (states rules) (w a) (inherits.listed a)).1 in
          let at : number (states rules) (v ++ a ∷ []) ≡ number (states rules) (w a) = sym e ∙ p ∙ based a lt in
          let same : v ++ a ∷ [] ≡ w a = sym child ∙ rw at other in
          let s = inherits.short a in
          omega (arith, simp length-append at (ap length same))

  pub differs_child : ((a : ℕ) → a < symbols → here a ≡ number (states rules) (next rules v a))
      → tally (λ a. not (eqb (here a) (base a))) symbols ≡ tally (λ a. known (states rules) (v ++ a ∷ [])) symbols
  differs_child right =
      tally_agree (λ a. not (eqb (here a) (base a))) (λ a. known (states rules) (v ++ a ∷ [])) symbols
      (λ a lt. go a lt (known (states rules) (v ++ a ∷ [])) refl)
    where
      go : (a : ℕ) → a < symbols → (b : Bool) → known (states rules) (v ++ a ∷ []) ≡ b → not (eqb (here a) (base a)) ≡ b
      go a lt true k = child_differs a lt k (right a lt ∙ ap (number (states rules)) (next_listed rules v a k))
      go a lt false k =
          rw (eq-eqb (here a) (base a) (right a lt ∙ ap (number (states rules)) (inherits.other a k) ∙ sym (based a lt)))

  pub row_right : tally (λ a. not (eqb (here a) (base a))) symbols ≡ tally (λ a. known (states rules) (v ++ a ∷ [])) symbols
      → ((a : ℕ) → a < symbols → known (states rules) (v ++ a ∷ []) ≡ true → here a ≡ number (states rules) (v ++ a ∷ []))
      → (a : ℕ) → a < symbols → here a ≡ number (states rules) (next rules v a)
  row_right count placed a lt = go (known (states rules) (v ++ a ∷ [])) refl (eqb (here a) (base a)) refl
    where
      back : not (eqb (here a) (base a)) ≡ true → known (states rules) (v ++ a ∷ []) ≡ true
      back =
          tally-same (λ a. known (states rules) (v ++ a ∷ [])) (λ a. not (eqb (here a) (base a))) symbols
          (λ a lt k. child_differs a lt k (placed a lt k)) (sym count) a lt

      go : (b : Bool) → known (states rules) (v ++ a ∷ []) ≡ b → (d : Bool) → eqb (here a) (base a) ≡ d
          → here a ≡ number (states rules) (next rules v a)
      go true k d e = placed a lt k ∙ ap (number (states rules)) (sym (next_listed rules v a k))
      go false k true e = eqb-true (here a) (base a) e ∙ based a lt ∙ ap (number (states rules)) (sym (inherits.other a k))
      go false k false e = let r = back (rw e) in let z : ◌≡◌ {A = ℕ} 0 1 = cc in absurd (omega arith)
