-- The rules' table passes the tests: each failure state that the check finds is right, a parent leads to its child, and a row
-- differs from its failure state's in as many words as there are children.
-- Assumes nothing.
use Prim.Native.Nat.{ℕ, zero, suc, ◌≤◌, ◌<◌}
use mathlib.Core.Path.{◌≡◌, sym, ap, ◌∙◌}
use mathlib.Core.Bool.{true}
use mathlib.Core.Logic.{◌≢◌, ⊎_elim}
use mathlib.Core.List.{List}
use native.Mathlib.Omega.{arith}
use native.Mathlib.Nat.{not-suc-le-zero}
use lib.ListN.{length}
use Rattle.rewriting.specs.Rules.{RuleSet, in_range}
use Rattle.rewriting.specs.Occurrences.{ending}
use Rattle.rewriting.proofs.Redex.{non_empty}
use Rattle.layout.specs.States.{starts, symbols_in, state, next, matching, states, number}
use Rattle.layout.specs.Table.{match_word}
use Rattle.layout.specs.Words.{root, text, failure_state, transition}
use Rattle.trie.specs.declared.Node.{Node}
use Rattle.trie.specs.Nodes.{parent, symbol, failure, TrieOf, Owned, RightFailure, failure_by}
use Rattle.table.specs.Consistent.{differing, leaving, Passes, RootPassed, MarkPassed, RightTable}
use Rattle.layout.proofs.States.{known_at, next_listed, number-root, state_long}
use Rattle.trie.proofs.Growth.{node_cases}
use Rattle.trie.proofs.Failure.{FailsTo, fails_to, match_failure, failure_found}
use Rattle.table.proofs.RowBeside.{inherits_failure, inherits_root, differs_child}
use Rattle.table.proofs.PassesRight.{plain_behind, mark_fails}

module _ (set : RuleSet) (t : List Node) (matches rows : List ℕ) (trie : TrieOf set t)
    (right : RightTable set.rules set.symbols matches rows) where
  up : (c : ℕ) → root set.rules < c → c < length (states set.rules) → parent t c < length (states set.rules)
  up c behind lt = omega (arith, trie.linked.up c behind lt)

  fails : (c : ℕ) → c ≢ root set.rules → c < length (states set.rules) → RightFailure set.rules t c
      → FailsTo set.rules (text set.rules c) (failure t c)
  fails c other lt e = fails_to set.rules (text set.rules c) (state_long set.rules c other lt) (failure t c) e

  -- the failure state found for node c is right where its parent's is
  found : (c : ℕ) → root set.rules < c → c < length (states set.rules)
      → (parent t c ≢ root set.rules → RightFailure set.rules t (parent t c))
      → failure_by t rows set.symbols (root set.rules) c ≡ number (states set.rules) (failure_state set.rules (text set.rules c))
  found c behind lt above =
      failure_found set t rows trie c (λ e. omega arith) lt above
      (λ high. right.right_next (failure t (parent t c)) (symbol t c)
      (fails (parent t c) high (up c behind lt) (above high)).place
      (trie.small c behind lt))

  -- a node's failure state, where those behind the root below d are right: the mark's always is
  by_cases : (d : ℕ) → ((c : ℕ) → root set.rules < c → c < d → RightFailure set.rules t c)
      → (c : ℕ) → c ≢ root set.rules → c < d → RightFailure set.rules t c
  by_cases d each c other lt =
      ⊎_elim (λ (behind : root set.rules < c). each c behind lt)
      (λ (p : (c ≡ 0) × (0 < root set.rules)). rw p.0 (mark_fails set t trie p.1))
      (node_cases (root set.rules) (states set.rules) set.symbols t trie c other)

  -- so those kept below node q are right
  failures_right : (q : ℕ) → q ≤ length (states set.rules)
      → ((c : ℕ) → root set.rules < c → c < q → failure t c ≡ failure_by t rows set.symbols (root set.rules) c)
      → (c : ℕ) → root set.rules < c → c < q → RightFailure set.rules t c
  failures_right q within failing c behind lt = go q c lt behind lt
    where
      go : (d c : ℕ) → c < d → root set.rules < c → c < q → RightFailure set.rules t c
      go zero c h behind lt = absurd (not-suc-le-zero h)
      go (suc d) c h behind lt =
          let up = trie.linked.up c behind (omega arith) in
          failing c behind lt
          ∙ found c behind (omega arith)
          (λ high. by_cases (suc (parent t c)) (λ b far less. go d b (omega arith) far (omega arith)) (parent t c) high
          (omega arith))

  -- a node's parent leads to it
  leads : (c : ℕ) → root set.rules < c → c < length (states set.rules)
      → next set.rules (text set.rules (parent t c)) (symbol t c) ≡ text set.rules c
  leads c behind lt =
      next_listed set.rules (text set.rules (parent t c)) (symbol t c)
      (rw (← trie.made c behind lt) (known_at (states set.rules) c lt))
      ∙ sym (trie.made c behind lt)

  -- each state whose failure state is right passes its tests
  right_state : in_range set ≡ true → Owned set.rules (states set.rules) t → (c : ℕ) → root set.rules < c
      → c < length (states set.rules)
      → RightFailure set.rules t c → Passes t matches rows set.symbols c
  unfolding differing
  right_state in_range_lem owned c behind lt e =
      let v : List ℕ = text set.rules c in
      let other : c ≢ root set.rules = λ p. omega arith in
      let long : 0 < length v = state_long set.rules c other lt in
      let f = fails c other lt e in
      record {
        led =
            right.right_next (parent t c) (symbol t c) (up c behind lt) (trie.small c behind lt)
            ∙ ap (number (states set.rules)) (leads c behind lt)
            ∙ trie.once c lt;
        inherits =
            right.right_match c lt
            ∙ match_failure set.rules (non_empty set in_range_lem) v long (plain_behind set in_range_lem c lt)
            ∙ sym (rw (owned c lt, right.right_match (failure t c) f.place, f.string));
        differs =
            differs_child (inherits_failure set.rules v long) set.symbols (λ a. transition rows set.symbols c a)
            (λ a. transition rows set.symbols (failure t c) a)
            (λ a small.
            right.right_next (failure t c) a f.place small
            ∙ ap (λ (u : List ℕ). number (states set.rules) (next set.rules u a)) f.string)
            (λ a small. right.right_next c a lt small)
            ∙ sym (trie.counted c lt);
      }

  -- The right table passes at node q, whose failure state and those before it were found as the check finds them.
  pub right_passes : in_range set ≡ true → Owned set.rules (states set.rules) t
      → (q : ℕ) → root set.rules < q → q < length (states set.rules)
      → ((c : ℕ) → root set.rules < c → c ≤ q → failure t c ≡ failure_by t rows set.symbols (root set.rules) c)
      → Passes t matches rows set.symbols q
  right_passes in_range_lem owned q behind lt failing =
      right_state in_range_lem owned q behind lt
      (failures_right (suc q) (omega arith) (λ c far less. failing c far (omega arith)) q behind (omega arith))

  -- There the failure state is one of the states.
  pub right_inside : (q : ℕ) → root set.rules < q → q < length (states set.rules)
      → ((c : ℕ) → root set.rules < c → c < q → failure t c ≡ failure_by t rows set.symbols (root set.rules) c)
      → failure_by t rows set.symbols (root set.rules) q < length (states set.rules)
  right_inside q behind lt failing =
      (fails_to set.rules (text set.rules q) (state_long set.rules q (λ e. omega arith) lt)
      (failure_by t rows set.symbols (root set.rules) q)
      (found q behind lt (λ high. by_cases q (failures_right q (omega arith) failing) (parent t q) high
      (trie.linked.up q behind lt)))
      ).place

  -- The root passes its tests.
  pub right_root : RootPassed t matches rows set.symbols (root set.rules)
  unfolding leaving matching ending match_word starts symbols_in
  right_root =
      record {
        no_match_lem = right.right_match (root set.rules) trie.some_node ∙ rw trie.root-empty;
        leads =
            differs_child (inherits_root set.rules) set.symbols (λ a. transition rows set.symbols (root set.rules) a)
            (λ a. root set.rules) (λ a small. sym (number-root set.rules))
            (λ a small. right.right_next (root set.rules) a trie.some_node small ∙ rw trie.root-empty)
            ∙ sym (trie.counted (root set.rules) trie.some_node ∙ rw trie.root-empty);
      }

  -- So does the mark alone.
  pub right_mark : 0 < root set.rules → MarkPassed t matches rows set.symbols (root set.rules)
  unfolding differing matching ending match_word starts symbols_in state
  right_mark pos =
      record {
        no_match_lem = right.right_match 0 some ∙ rw (trie.mark_alone pos);
        differs =
            differs_child (inherits_failure set.rules (text set.rules 0) (rw (trie.mark_alone pos) (omega arith))) set.symbols
            (λ a. transition rows set.symbols 0 a) (λ a. transition rows set.symbols (root set.rules) a)
            (λ a small. right.right_next (root set.rules) a trie.some_node small ∙ rw (trie.mark_alone pos, trie.root-empty))
            (λ a small. right.right_next 0 a some small)
            ∙ sym (trie.counted 0 some);
      }
    where
      some : 0 < length (states set.rules)
      some = omega (arith, trie.some_node)
