-- A table that passes the tests is the rules' table, by the states' lengths: a failure state is shorter, so its row is right; a
-- child stands in its place, since its parent leads to it; as many words differ as there are children, so every other word
-- is inherited, and right.
-- Assumes nothing.
use Prim.Native.Nat.{ℕ, zero, suc, ◌+◌, ◌<◌}
use mathlib.Core.Path.{◌≡◌, refl, sym, ap, ◌∙◌}
use mathlib.Core.Bool.{true}
use mathlib.Core.Logic.{◌≢◌, ◌⊎◌, inl, inr, ⊎_elim}
use mathlib.Core.List.{List, [], ◌∷◌, ◌++◌}
use native.Mathlib.Omega.{arith}
use native.Mathlib.Nat.{not-suc-le-zero}
use lib.ListN.{length, get_or, drop}
use Rattle.rewriting.specs.Rules.{RuleSet, in_range}
use Rattle.rewriting.specs.Occurrences.{ending}
use Rattle.rewriting.proofs.Lists.{same_or}
use Rattle.rewriting.proofs.Redex.{non_empty}
use Rattle.layout.specs.States.{starts, symbols_in, state, next, matching, known, states, number}
use Rattle.layout.specs.Table.{match_word}
use Rattle.layout.specs.Words.{root, text, transition}
use Rattle.trie.specs.declared.Node.{Node}
use Rattle.trie.specs.Nodes.{parent, symbol, failure, TrieOf, Owned, RightFailure}
use Rattle.table.specs.Consistent.{differing, leaving, Passed, RootPassed, MarkPassed, RightTable}
use Rattle.layout.proofs.Matching.{Plain}
use Rattle.layout.proofs.States.{number_at, number-root, state_long, state_plain}
use Rattle.trie.proofs.Growth.{node_cases, state_child, parent_shorter}
use Rattle.trie.proofs.Failure.{FailsTo, fails_to, match_failure, failure_found}
use Rattle.table.proofs.RowBeside.{inherits_failure, inherits_root, row_right}

-- behind its first place a state is plain
pub plain_behind : (set : RuleSet) → in_range set ≡ true → (c : ℕ) → c < length (states set.rules)
    → Plain (drop 1 (text set.rules c))
plain_behind set in_range_lem c lt = go (text set.rules c) refl
  where
    go : (v : List ℕ) → text set.rules c ≡ v → Plain (drop 1 v)
    go [] e = refl
    go (y ∷ p) e = state_plain set in_range_lem c y p lt e

-- the failure state of the mark alone is the root
pub mark_fails : (set : RuleSet) (t : List Node) → TrieOf set t → 0 < root set.rules → RightFailure set.rules t 0
unfolding state
mark_fails set t trie pos = trie.mark_failure ∙ rw (trie.mark_alone pos) (sym (number-root set.rules))

module _ (set : RuleSet) (in_range_lem : in_range set ≡ true) (t : List Node) (matches rows : List ℕ) (trie : TrieOf set t)
    (owned : Owned set.rules (states set.rules) t) (top : RootPassed t matches rows set.symbols (root set.rules))
    (first : 0 < root set.rules → MarkPassed t matches rows set.symbols (root set.rules))
    (each : (c : ℕ) → root set.rules < c → c < length (states set.rules)
    → Passed t matches rows set.symbols (root set.rules) (length (states set.rules)) c) where
  -- a child stands in its state's row, since its parent leads to it
  placed : (c a : ℕ) → c < length (states set.rules) → a < set.symbols
      → known (states set.rules) (text set.rules c ++ a ∷ []) ≡ true
      → transition rows set.symbols c a ≡ number (states set.rules) (text set.rules c ++ a ∷ [])
  placed c a lt small k =
      let s = states set.rules in
      let at = number_at s (text set.rules c ++ a ∷ []) k in
      let child =
      state_child (root set.rules) s set.symbols t trie c a (number s (text set.rules c ++ a ∷ [])) small lt at.0 at.1
      in
      rw (child.of, child.by) at (each (number s (text set.rules c ++ a ∷ [])) child.behind child.node).passing.led

  -- state c stands in the table as it should
  record RightState (c : ℕ) : Type 0 where
    row : (a : ℕ) → a < set.symbols
        → transition rows set.symbols c a ≡ number (states set.rules) (next set.rules (text set.rules c) a)
    word : get_or matches c 0 ≡ match_word (matching set.rules (text set.rules c))
    fails : c ≢ root set.rules → RightFailure set.rules t c

  root_right : RightState (root set.rules)
  unfolding leaving matching ending match_word starts symbols_in
  root_right =
      record {
        row = λ a small.
            row_right (inherits_root set.rules) set.symbols (λ a. transition rows set.symbols (root set.rules) a)
            (λ a. root set.rules) (λ a small. sym (number-root set.rules))
            (top.leads ∙ trie.counted (root set.rules) trie.some_node ∙ rw trie.root-empty)
            (λ a small k. placed (root set.rules) a trie.some_node small (rw trie.root-empty k) ∙ rw trie.root-empty)
            a small
            ∙ rw trie.root-empty;
        word = top.no_match_lem ∙ rw trie.root-empty;
        fails = λ other. absurd (other refl);
      }

  -- the mark alone, by the root
  mark_right : 0 < root set.rules → RightState 0
  unfolding differing matching ending match_word starts symbols_in state
  mark_right pos =
      record {
        row =
            row_right (inherits_failure set.rules (text set.rules 0) (rw (trie.mark_alone pos) (omega arith))) set.symbols
            (λ a. transition rows set.symbols 0 a) (λ a. transition rows set.symbols (root set.rules) a)
            (λ a small. root_right.row a small ∙ rw (trie.mark_alone pos, trie.root-empty))
            ((first pos).differs ∙ trie.counted 0 some)
            (λ a small k. placed 0 a some small k);
        word = (first pos).no_match_lem ∙ rw (trie.mark_alone pos);
        fails = λ other. mark_fails set t trie pos;
      }
    where
      some : 0 < length (states set.rules)
      some = omega (arith, trie.some_node)

  -- a state is right where every shorter one is
  state_right : (c : ℕ) → root set.rules < c → c < length (states set.rules)
      → ((b : ℕ) → b < length (states set.rules) → length (text set.rules b) < length (text set.rules c) → RightState b)
      → RightState c
  unfolding differing
  state_right c behind lt shorter =
      record {
        row =
            row_right (inherits_failure set.rules (text set.rules c) long) set.symbols (λ a. transition rows set.symbols c a)
            (λ a. transition rows set.symbols (failure t c) a)
            (λ a small. base.row a small ∙ ap (λ (u : List ℕ). number (states set.rules) (next set.rules u a)) f.string)
            ((each c behind lt).passing.differs ∙ trie.counted c lt)
            (λ a small k. placed c a lt small k);
        word =
            (each c behind lt).passing.inherits
            ∙ rw (owned c lt, base.word, f.string)
            (sym (match_failure set.rules (non_empty set in_range_lem) (text set.rules c) long
            (plain_behind set in_range_lem c lt)));
        fails = λ _. own;
      }
    where
      other : c ≢ root set.rules
      other e = omega arith

      long : 0 < length (text set.rules c)
      long = state_long set.rules c other lt

      below : parent t c < length (states set.rules)
      below = omega (arith, trie.linked.up c behind lt)

      more : length (text set.rules c) ≡ length (text set.rules (parent t c)) + 1
      more = parent_shorter (root set.rules) (states set.rules) set.symbols t trie c other lt

      above : RightState (parent t c)
      above = shorter (parent t c) below (omega (arith, more))

      over : parent t c ≢ root set.rules → RightState (failure t (parent t c))
      over high =
          let g =
          fails_to set.rules (text set.rules (parent t c)) (state_long set.rules (parent t c) high below) (failure t (parent t c))
          (above.fails high)
          in
          shorter (failure t (parent t c)) g.place (omega (arith, g.short, more))

      own : RightFailure set.rules t c
      own =
          (each c behind lt).failing
          ∙ failure_found set t rows trie c other lt above.fails (λ high. (over high).row (symbol t c) (trie.small c behind lt))

      f : FailsTo set.rules (text set.rules c) (failure t c)
      f = fails_to set.rules (text set.rules c) long (failure t c) own

      base : RightState (failure t c)
      base = shorter (failure t c) f.place f.short

  -- A table whose every state passes its tests is the rules' table.
  pub consistent_right : RightTable set.rules set.symbols matches rows
  consistent_right =
      record {
        right_next = λ c a lt small. (all (suc (length (text set.rules c))) c lt (omega arith)).row a small;
        right_match = λ c lt. (all (suc (length (text set.rules c))) c lt (omega arith)).word;
      }
    where
      turn : (c : ℕ) → c < length (states set.rules)
          → ((b : ℕ) → b < length (states set.rules) → length (text set.rules b) < length (text set.rules c) → RightState b)
          → (c ≡ root set.rules) ⊎ (c ≢ root set.rules) → RightState c
      turn c lt shorter (inl e) = rw e root_right
      turn c lt shorter (inr other) =
          ⊎_elim (λ (behind : root set.rules < c). state_right c behind lt shorter)
          (λ (p : (c ≡ 0) × (0 < root set.rules)). rw p.0 (mark_right p.1))
          (node_cases (root set.rules) (states set.rules) set.symbols t trie c other)

      all : (d c : ℕ) → c < length (states set.rules) → length (text set.rules c) < d → RightState c
      all zero c lt h = absurd (not-suc-le-zero h)
      all (suc d) c lt h = turn c lt (λ b below less. all d b below (omega arith)) (same_or (root set.rules) c)
