-- The check's way from state to state: when it reaches a node the nodes before it have passed, and a test that fails means that
-- the table is not the rules'.
-- Assumes nothing.
use Prim.Native.Nat.{ℕ, ◌+◌, ◌*◌, ◌≤◌, ◌<◌}
use mathlib.Core.Path.{◌≡◌, refl, sym, ◌∙◌}
use mathlib.Core.Bool.{Bool, true, false, not}
use mathlib.Core.Logic.{◌≢◌, ⊎_elim}
use mathlib.Core.List.{List}
use native.Mathlib.Omega.{arith}
use lib.Dec.{ltb}
use lib.ListN.{length, length-set}
use borrow.Author.Tests.{ltb-true, ltb-false, not-true, not-false}
use Rattle.rewriting.specs.Rules.{RuleSet, in_range}
use Rattle.layout.specs.ImageCheck.{Decides}
use Rattle.layout.proofs.ImageCheck.{decided, denied}
use Rattle.layout.specs.States.{states}
use Rattle.layout.specs.Words.{root, transition}
use Rattle.trie.specs.declared.Node.{Node}
use Rattle.trie.specs.Nodes.{parent, symbol, failure, TrieOf, Owned, failure_by}
use Rattle.table.specs.Consistent.{Passes, Passed, RootPassed, MarkPassed, RightTable}
use Rattle.layout.proofs.States.{few_states}
use Rattle.layout.proofs.RowPlaces.{word_within}
use Rattle.trie.proofs.Growth.{node_cases}
use Rattle.trie.proofs.Kept.{
  with_failure,
  parent_kept,
  symbol_kept,
  children_kept,
  failure_set,
  failure_other,
  matched_same,
  failure_kept,
  trie_kept,
}
use Rattle.table.proofs.PassesRight.{consistent_right}
use Rattle.table.proofs.RightPasses.{right_passes, right_inside, right_root, right_mark}

-- A check keeps node q's failure state, and what was tested before stays.
module _ (t : List Node) (q f : ℕ) (inside : q < length t) where
  module _ (set : RuleSet) (trie : TrieOf set t) (far : root set.rules < q) (lt : q < length (states set.rules)) where
    -- the trie stays the trie: q is not the mark's node
    pub trie_checked : TrieOf set (with_failure t q f)
    trie_checked =
        trie_kept (failure_kept t q f inside lt) (failure_other t q f inside 0 (λ e. omega arith) ∙ trie.mark_failure) trie

    -- the way to a failure state leads by nodes before
    pub failure_by_kept : (rows : List ℕ) (c : ℕ) → root set.rules < c → c ≤ q
        → failure_by (with_failure t q f) rows set.symbols (root set.rules) c ≡ failure_by t rows set.symbols (root set.rules) c
    unfolding failure_by
    failure_by_kept rows c behind less =
        let up = trie.linked.up c behind (omega arith) in
        let same = failure_kept t q f inside lt in
        rw (parent_kept same c, symbol_kept same c, failure_other t q f inside (parent t c) (λ e. omega arith))

    passed_kept : {matches rows : List ℕ} {n c : ℕ} → root set.rules < c → c < q
        → Passed t matches rows set.symbols (root set.rules) n c
        → Passed (with_failure t q f) matches rows set.symbols (root set.rules) n c
    passed_kept {rows = rows} {c = c} behind less p =
        let same = failure_kept t q f inside lt in
        let other : failure (with_failure t q f) c ≡ failure t c = failure_other t q f inside c (λ e. omega arith) in
        record {
          failing = other ∙ p.failing ∙ sym (failure_by_kept rows c behind (omega arith));
          inside = rw other p.inside;
          passing = record {
            led = rw (parent_kept same c, symbol_kept same c) p.passing.led;
            inherits = rw (matched_same t q f inside c, other) p.passing.inherits;
            differs = rw (other, children_kept same c) p.passing.differs;
          };
        }

-- What is known when the check reaches node q, behind the root: the nodes before it have passed.
pub record Checked (set : RuleSet) (t : List Node) (matches rows : List ℕ) (q : ℕ) : Type 0 where
  pub trie : TrieOf set t
  pub owned : Owned set.rules (states set.rules) t
  pub top : RootPassed t matches rows set.symbols (root set.rules)
  pub first : 0 < root set.rules → MarkPassed t matches rows set.symbols (root set.rules)
  pub started : root set.rules < q
  pub passed : (c : ℕ) → root set.rules < c → c < q
      → Passed t matches rows set.symbols (root set.rules) (length (states set.rules)) c

module _ {set : RuleSet} (in_range_lem : in_range set ≡ true) {t : List Node} {matches rows : List ℕ} where
  -- where all have, the table is right
  checked_all : {q : ℕ} → length (states set.rules) ≤ q → Checked set t matches rows q
      → RightTable set.rules set.symbols matches rows
  checked_all done k =
      consistent_right set in_range_lem t matches rows k.trie k.owned k.top k.first
      (λ c behind lt. k.passed c behind (omega arith))

  module _ {q : ℕ} (k : Checked set t matches rows q) (lt : q < length (states set.rules)) where
    room : q < length t
    room = omega (arith, k.trie.linked.size)

    -- a failure state that is no state is found in no right table
    wrong_failure : (failure_by t rows set.symbols (root set.rules) q < length (states set.rules) → ⊥)
        → RightTable set.rules set.symbols matches rows → ⊥
    wrong_failure outside right =
        outside (right_inside set t matches rows k.trie right q k.started lt (λ c behind less. (k.passed c behind less).failing))

    module _ {f : ℕ} (found : f ≡ failure_by t rows set.symbols (root set.rules) q) where
      found_kept : failure (with_failure t q f) q ≡ failure_by (with_failure t q f) rows set.symbols (root set.rules) q
      found_kept =
          failure_set t q f room ∙ found ∙ sym (failure_by_kept t q f room set k.trie k.started lt rows q k.started (omega arith))

      -- nor does a right table fail the tests of q
      wrong_state : (Passes (with_failure t q f) matches rows set.symbols q → ⊥) → RightTable set.rules set.symbols matches rows
          → ⊥
      wrong_state fails right =
          fails
          (right_passes set (with_failure t q f) matches rows (trie_checked t q f room set k.trie k.started lt) right in_range_lem
          (λ c h. matched_same t q f room c ∙ k.owned c h) q k.started lt (λ c behind less. failing c behind less (ltb c q) refl))
        where
          failing : (c : ℕ) → root set.rules < c → c ≤ q → (b : Bool) → ltb c q ≡ b
              → failure (with_failure t q f) c ≡ failure_by (with_failure t q f) rows set.symbols (root set.rules) c
          failing c behind less true l =
              (passed_kept t q f room set k.trie k.started lt behind (ltb-true c q l)
              (k.passed c behind (ltb-true c q l))).failing
          failing c behind less false l = let here : c ≡ q = omega (arith, ltb-false c q l) in rw here found_kept

      -- where q passes too, the check goes on behind it
      checked_more : f < length (states set.rules) → Passes (with_failure t q f) matches rows set.symbols q
          → Checked set (with_failure t q f) matches rows (q + 1)
      checked_more inside passing =
          let same = failure_kept t q f room lt in
          record {
            trie = trie_checked t q f room set k.trie k.started lt;
            owned = λ c h. matched_same t q f room c ∙ k.owned c h;
            top = record { no_match_lem = k.top.no_match_lem; leads = k.top.leads ∙ sym (children_kept same (root set.rules)) };
            first = λ pos.
                record {
                  no_match_lem = (k.first pos).no_match_lem;
                  differs = (k.first pos).differs ∙ sym
                      (children_kept same 0);
                };
            started = omega (arith, k.started);
            passed = λ c behind less. turn c behind less (ltb c q) refl;
          }
        where
          turn : (c : ℕ) → root set.rules < c → c < q + 1 → (b : Bool) → ltb c q ≡ b
              → Passed (with_failure t q f) matches rows set.symbols (root set.rules) (length (states set.rules)) c
          turn c behind less true l =
              passed_kept t q f room set k.trie k.started lt behind (ltb-true c q l) (k.passed c behind (ltb-true c q l))
          turn c behind less false l =
              let here : c ≡ q = omega (arith, ltb-false c q l) in
              rw here
              (record { failing = found_kept; inside = rw (failure_set t q f room) inside; passing = passing })

-- What is known when the check of a table of n states and s symbols, whose root is `top`, begins.
pub record Begun (set : RuleSet) (t : List Node) (matches rows : List ℕ) (n s top : ℕ) : Type 0 where
  pub in_range_lem : in_range set ≡ true
  pub all : n ≡ length (states set.rules)
  pub width : s ≡ set.symbols
  pub is-root : top ≡ root set.rules
  pub trie : TrieOf set t
  pub owned : Owned set.rules (states set.rules) t
  pub words : n ≡ length matches
  pub lines : n * set.symbols ≡ length rows

module _ {set : RuleSet} {t : List Node} {matches rows : List ℕ} {n s top : ℕ} (k : Begun set t matches rows n s top) where
  wide : n * s ≡ length rows
  wide = rw k.width k.lines

  top_below : top < n
  top_below = omega (arith, k.trie.some_node, k.all, k.is-root)

  pub root_asks : top < length t
  root_asks = omega (arith, k.trie.linked.size, k.all, top_below)

  pub mark_asks : 0 < length t
  mark_asks = omega (arith, root_asks)

  -- what the tests of the root and the mark decide, in the definitions' words
  root_passed : (b : Bool) → Decides b (RootPassed t matches rows s top)
      → Decides b (RootPassed t matches rows set.symbols (root set.rules))
  root_passed b d = rw (← k.width, ← k.is-root) d

  mark_passed : (b : Bool) → Decides b (MarkPassed t matches rows s top)
      → Decides b (MarkPassed t matches rows set.symbols (root set.rules))
  mark_passed b d = rw (← k.width, ← k.is-root) d

  pub wrong_root : (b : Bool) → not b ≡ true → Decides b (RootPassed t matches rows s top)
      → RightTable set.rules set.symbols matches rows → ⊥
  wrong_root b e d right = denied b (not-true b e) (root_passed b d) (right_root set t matches rows k.trie right)

  pub wrong_mark : 0 < top → (b : Bool) → not b ≡ true → Decides b (MarkPassed t matches rows s top)
      → RightTable set.rules set.symbols matches rows → ⊥
  wrong_mark pos b e d right =
      denied b (not-true b e) (mark_passed b d) (right_mark set t matches rows k.trie right (omega (arith, k.is-root)))

-- What the check holds to when it reaches node q.
pub record Checking (set : RuleSet) (t : List Node) (matches rows : List ℕ) (n s top q : ℕ) : Type 0 where
  pub in_range_lem : in_range set ≡ true
  pub all : n ≡ length (states set.rules)
  pub few : n ≤ 514
  pub width : s ≡ set.symbols
  pub is-root : top ≡ root set.rules
  pub words : n ≡ length matches
  pub lines : n * s ≡ length rows
  pub within : q ≤ n
  pub checked : Checked set t matches rows q

-- with the tests of the root and, where it is not state 0, of the mark passed, the check begins behind the root
pub checking_first : {set : RuleSet} {t : List Node} {matches rows : List ℕ} {n s top : ℕ} → Begun set t matches rows n s top
    → (b : Bool) → not b ≡ false → Decides b (RootPassed t matches rows s top)
    → (0 < top → (d : Bool) × (not d ≡ false) × Decides d (MarkPassed t matches rows s top))
    → (q : ℕ) → q ≡ top + 1 → Checking set t matches rows n s top q
checking_first {set} {t} {matches} {rows} {n} {s} {top} k b e d first q is =
    record {
      in_range_lem = k.in_range_lem;
      all = k.all;
      few = omega (arith, k.all, few_states set k.in_range_lem);
      width = k.width;
      is-root = k.is-root;
      words = k.words;
      lines = wide k;
      within = omega (arith, top_below k);
      checked =
          record {
            trie = k.trie;
            owned = k.owned;
            top = decided b (not-false b e) (root_passed k b d);
            first = λ pos.
                let (m, passes, told) = first (omega (arith, k.is-root)) in
                decided m (not-false m passes) (mark_passed k m told);
            started = omega (arith, k.is-root);
            passed = λ c behind lt. absurd (omega (arith, k.is-root));
          };
    }

module _ {set : RuleSet} {t : List Node} {matches rows : List ℕ} {n s top q : ℕ} (k : Checking set t matches rows n s top q) where
  pub checking_end : n ≤ q → RightTable set.rules set.symbols matches rows
  checking_end done = checked_all k.in_range_lem (omega (arith, k.all)) k.checked

  module _ (lt : q < n) where
    listed_below : q < length (states set.rules)
    listed_below = omega (arith, k.all)

    pub node_room : q < length t
    node_room = omega (arith, k.checked.trie.linked.size, listed_below)

    parent_below : parent t q < q
    parent_below = k.checked.trie.linked.up q k.checked.started listed_below

    symbol-below : symbol t q < s
    symbol-below = omega (arith, k.width, k.checked.trie.small q k.checked.started listed_below)

    -- the failure state of a node before q, other than the root, is a state
    failure_inside : (c : ℕ) → c ≢ root set.rules → c < q → failure t c < n
    failure_inside c other less =
        ⊎_elim
        (λ (behind : root set.rules < c). omega (arith, k.all, (k.checked.passed c behind less).inside))
        (λ (p : (c ≡ 0) × (0 < root set.rules)).
        rw (p.0, k.checked.trie.mark_failure) (omega (arith, k.all, k.checked.trie.some_node)))
        (node_cases (root set.rules) (states set.rules) set.symbols t k.checked.trie c other)

    pub led_asks : (q < length t) × (parent t q * s + symbol t q < length rows)
    led_asks = (
      omega (arith, node_room),
      rw (← k.lines) (word_within s (parent t q) n (symbol t q) (omega (arith, parent_below)) symbol-below),
    )

    pub failure_asks : (q < length t) × ((parent t q < length t)
        × (parent t q ≢ top → failure t (parent t q) * s + symbol t q < length rows))
    failure_asks = (omega (arith, node_room), (omega (arith, node_room, parent_below), row))
      where
        row : parent t q ≢ top → failure t (parent t q) * s + symbol t q < length rows
        row high =
            let inside : failure t (parent t q) < n = failure_inside (parent t q) (λ e. high (e ∙ sym k.is-root)) parent_below in
            rw (← k.lines) (word_within s (failure t (parent t q)) n (symbol t q) inside symbol-below)

    -- the failure state that the code finds, in the definitions' words
    by_root : {f : ℕ} → f ≡ failure_by t rows s top q → f ≡ failure_by t rows set.symbols (root set.rules) q
    by_root found = rw (← k.width, ← k.is-root) found

    pub no_failure : {f : ℕ} → f ≡ failure_by t rows s top q → n ≤ f → RightTable set.rules set.symbols matches rows → ⊥
    no_failure found out right =
        wrong_failure k.in_range_lem k.checked listed_below (λ h. omega (arith, k.all, by_root found)) right

    -- nor does a right table have a parent that leads elsewhere
    pub not_led : {child : ℕ} → child ≡ transition rows s (parent t q) (symbol t q) → (child ≡ q → ⊥)
        → RightTable set.rules set.symbols matches rows → ⊥
    not_led {child} read elsewhere right =
        let f = failure_by t rows set.symbols (root set.rules) q in
        let same = failure_kept t q f node_room listed_below in
        wrong_state k.in_range_lem k.checked listed_below {f = f} refl
        (λ p. elsewhere (read ∙ rw k.width (rw (parent_kept same q, symbol_kept same q) at p.led))) right

    module _ {f : ℕ} (found : f ≡ failure_by t rows s top q) where
      pub no_state : (b : Bool) → not b ≡ true → Decides b (Passes (with_failure t q f) matches rows s q)
          → RightTable set.rules set.symbols matches rows → ⊥
      no_state b e passes right =
          wrong_state k.in_range_lem k.checked listed_below (by_root found)
          (denied b (not-true b e) (rw (← k.width) passes)) right

      module _ (inside : f < n) where
        pub state_asks : transition rows s (parent t q) (symbol t q) ≡ q
            → (q < length (with_failure t q f))
            × (transition rows s (parent (with_failure t q f) q) (symbol (with_failure t q f) q) ≡ q)
            × (q < length matches)
            × (failure (with_failure t q f) q < length matches)
        state_asks led =
            let same = failure_kept t q f node_room listed_below in (
              rw length-set node_room,
              rw (parent_kept same q, symbol_kept same q) led,
              omega (arith, k.words),
              rw (failure_set t q f node_room) (omega (arith, k.words)),
            )

        pub checking_more : (b : Bool) → not b ≡ false → Decides b (Passes (with_failure t q f) matches rows s q)
            → Checking set (with_failure t q f) matches rows n s top (q + 1)
        checking_more b e passes =
            record {
              in_range_lem = k.in_range_lem;
              all = k.all;
              few = k.few;
              width = k.width;
              is-root = k.is-root;
              words = k.words;
              lines = k.lines;
              within = omega arith;
              checked =
                  checked_more k.in_range_lem k.checked listed_below (by_root found) (omega (arith, k.all))
                  (decided b (not-false b e) (rw (← k.width) passes));
            }
