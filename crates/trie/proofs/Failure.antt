-- A state's failure state: it is shorter, and gives the next state and the match word where the state has none of its own.
-- Found from the failure state of the parent, it is right where that and its row are.
-- Assumes nothing.
use Prim.Native.Nat.{ℕ, suc, ◌+◌, ◌*◌, ◌≤◌, ◌<◌}
use mathlib.Core.Path.{◌≡◌, refl, sym, ap, ◌∙◌}
use mathlib.Core.Bool.{Bool, true, false, cond}
use mathlib.Core.Logic.{◌≢◌, ◌⊎◌, inl, inr}
use Rattle.std.specs.Prelude.{Option, None, Some}
use Rattle.std.specs.Option.{option_or}
use mathlib.Core.List.{List, [], ◌∷◌, ◌++◌}
use native.Mathlib.Omega.{arith}
use native.Mathlib.Nat.{not-suc-le-zero}
use lib.Dec.{eqb}
use lib.ListN.{length, drop, length-append, length-drop}
use lib.Seq.{drop-append-le}
use borrow.Author.Tests.{eqb-true, eqb-false, ne_eqb}
use Rattle.rewriting.specs.Rules.{Rule, RuleSet}
use Rattle.rewriting.proofs.Redex.{NonEmpty}
use Rattle.layout.specs.States.{state, next, matching, known, states, number}
use Rattle.layout.specs.Table.{match_word}
use Rattle.layout.specs.Words.{root, text, own, failure_state, transition, own_or}
use Rattle.trie.specs.declared.Node.{Node}
use Rattle.trie.specs.Nodes.{parent, symbol, failure, TrieOf, RightFailure, failure_by}
use Rattle.layout.proofs.Matching.{Plain, state-drop, state_snoc, length-state, next_fail, matching_fail}
use Rattle.layout.proofs.States.{known_snoc, state-known, number_at, number-root, state_long}
use Rattle.trie.proofs.Growth.{node_cases}

-- f is the number of v's failure state, which is shorter than v
pub record FailsTo (rules : List Rule) (v : List ℕ) (f : ℕ) : Type 0 where
  pub place : f < length (states rules)
  pub string : text rules f ≡ failure_state rules v
  pub short : length (text rules f) < length v

module _ (rules : List Rule) (v : List ℕ) (long : 0 < length v) where
  pub failure_shorter : length (failure_state rules v) < length v
  failure_shorter = omega (arith, length-state rules (drop 1 v), length-drop 1 v)

  pub fails_to : (f : ℕ) → f ≡ number (states rules) (failure_state rules v) → FailsTo rules v f
  fails_to f e =
      let at = number_at (states rules) (failure_state rules v) (state-known rules (drop 1 v)) in
      let there : text rules f ≡ failure_state rules v = ap (text rules) e ∙ at.1 in
      record { place = rw e at.0; string = there; short = rw there failure_shorter }

  -- by a symbol for which it has no child, v leads where its failure state does
  pub next_failure : (a : ℕ) → known (states rules) (v ++ a ∷ []) ≡ false → next rules v a ≡ next rules (failure_state rules v) a
  next_failure = go v long
    where
      go : (v : List ℕ) → 0 < length v → (a : ℕ) → known (states rules) (v ++ a ∷ []) ≡ false
          → next rules v a ≡ next rules (failure_state rules v) a
      go [] h a k = absurd (not-suc-le-zero h)
      go (y ∷ p) h a k = next_fail rules y p a (sym (known_snoc rules (y ∷ p) a) ∙ k)

  pub failure_next_short : (a : ℕ) → length (next rules (failure_state rules v) a) ≤ length v
  unfolding next
  failure_next_short a =
      omega (arith, failure_shorter, simp length-append at (length-state rules (failure_state rules v ++ a ∷ [])))

-- and the empty state to itself
pub next-root : (rules : List Rule) (a : ℕ) → known (states rules) ([] ++ a ∷ []) ≡ false → next rules [] a ≡ []
unfolding next state
next-root rules a k = state-drop rules a [] (sym (known_snoc rules [] a) ∙ k)

-- the match word of two rules, the first before the second
match_own : (own other : Option ℕ) → match_word (option_or own other) ≡ own_or (match_word own) (match_word other)
unfolding match_word
match_own None other = refl
match_own (Some i) other = rw (ne_eqb (suc i) 0 (λ p. omega arith))

-- a state's match word is that of its own left side, or else its failure state's
pub match_failure : (rules : List Rule) → NonEmpty rules → (v : List ℕ) → 0 < length v → Plain (drop 1 v)
    → match_word (matching rules v) ≡ own_or (match_word (own rules v)) (match_word (matching rules (failure_state rules v)))
match_failure rules some_left [] h plain = absurd (not-suc-le-zero h)
match_failure rules some_left (y ∷ p) h plain =
    ap match_word (matching_fail rules some_left y p plain) ∙ match_own (own rules (y ∷ p)) (matching rules (state rules p))

-- The failure state found for node c is right where that of its parent, and the word of that state's row, are.
module _ (set : RuleSet) (t : List Node) (rows : List ℕ) (trie : TrieOf set t) where
  pub failure_found : (c : ℕ) → (c ≡ root set.rules → ⊥) → c < length (states set.rules)
      → (parent t c ≢ root set.rules → RightFailure set.rules t (parent t c))
      → (parent t c ≢ root set.rules → transition rows set.symbols (failure t (parent t c)) (symbol t c)
      ≡ number (states set.rules) (next set.rules (text set.rules (failure t (parent t c))) (symbol t c)))
      → failure_by t rows set.symbols (root set.rules) c
      ≡ number (states set.rules) (failure_state set.rules (text set.rules c))
  unfolding failure_by state
  failure_found c other lt up word = go (eqb (parent t c) (root set.rules)) refl (node_cases _ _ _ _ trie c other)
    where
      go : (b : Bool) → eqb (parent t c) (root set.rules) ≡ b
          → (root set.rules < c) ⊎ ((c ≡ 0) × (0 < root set.rules))
          → cond b (root set.rules) (transition rows set.symbols (failure t (parent t c)) (symbol t c))
          ≡ number (states set.rules) (failure_state set.rules (text set.rules c))
      go true e (inl behind) =
          let above : text set.rules (parent t c) ≡ [] = rw (eqb-true (parent t c) (root set.rules) e) trie.root-empty in
          rw (trie.made c behind lt, above) (sym (number-root set.rules))
      go true e (inr (first, pos)) =
          rw (first, trie.mark_alone pos) (sym (number-root set.rules))
      go false e (inr (first, pos)) = absurd (eqb-false (parent t c) (root set.rules) e (rw first trie.mark_parent))
      go false e (inl behind) =
          let high : parent t c ≢ root set.rules = eqb-false (parent t c) (root set.rules) e in
          let below : parent t c < length (states set.rules) = omega (arith, trie.linked.up c behind lt) in
          let v : List ℕ = text set.rules (parent t c) in
          let long : 0 < length v = state_long set.rules (parent t c) high below in
          let step : next set.rules (failure_state set.rules v) (symbol t c) ≡ failure_state set.rules (text set.rules c) =
          state_snoc set.rules (drop 1 v) (symbol t c)
          ∙ ap (state set.rules) (sym (drop-append-le 1 v (symbol t c ∷ []) long))
          ∙ ap (failure_state set.rules) (sym (trie.made c behind lt))
          in
          word high
          ∙ ap (λ (u : List ℕ). number (states set.rules) (next set.rules u (symbol t c)))
          (fails_to set.rules v long (failure t (parent t c)) (up high)).string
          ∙ ap (number (states set.rules)) step

-- how the code finds it: by the parent p, which is not the root, the symbol a and the parent's failure state f
module _ (t : List Node) (rows : List ℕ) (symbols root q : ℕ) {p a f : ℕ} (up : p ≡ parent t q) (by : a ≡ symbol t q)
    (fails : f ≡ failure t p)
    (high : p ≡ root → ⊥) where
  pub word_inside : (parent t q ≢ root → failure t (parent t q) * symbols + symbol t q < length rows)
      → f * symbols + a < length rows
  word_inside inside = rw (fails, by, up) (inside (λ e. high (up ∙ e)))

  pub word_read : transition rows symbols f a ≡ failure_by t rows symbols root q
  unfolding failure_by
  word_read = rw (ne_eqb (parent t q) root (λ e. high (up ∙ e)), fails, by, up)
