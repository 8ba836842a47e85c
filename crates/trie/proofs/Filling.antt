-- How a state is filled from its failure state: its row, its match word, and what then holds of all states.
-- Assumes nothing.
use Prim.Native.Nat.{ℕ, ◌+◌, ◌*◌, ◌≤◌, ◌<◌}
use mathlib.Core.Path.{◌≡◌, refl, sym, ap, ◌∙◌}
use mathlib.Core.Bool.{Bool, true, false, cond}
use mathlib.Core.Logic.{◌≢◌, ◌⊎◌, inl, inr, ⊎_elim}
use mathlib.Core.List.{List, [], ◌∷◌, ◌++◌}
use native.Mathlib.Omega.{arith}
use lib.Dec.{eqb}
use lib.ListN.{length, drop}
use borrow.Author.Tests.{eqb-true, eqb-false, eq-eqb, ne_eqb}
use Rattle.rewriting.specs.Rules.{Rule, RuleSet, in_range}
use Rattle.rewriting.proofs.Redex.{non_empty}
use Rattle.layout.specs.States.{mark, next, matching, known, states, number}
use Rattle.layout.specs.Table.{match_word}
use Rattle.layout.specs.Words.{root, text, own, failure_state, transition, own_or}
use Rattle.trie.specs.declared.Node.{Node}
use Rattle.trie.specs.Nodes.{node, parent, symbol, matched, failure, RightFailure, failure_by}
use Rattle.trie.specs.Rows.{child_number, Merged, noted, Filling}
use Rattle.layout.proofs.Matching.{Plain}
use Rattle.layout.proofs.States.{next_listed, child_some, state_long, state_plain}
use Rattle.layout.proofs.RowPlaces.{row_apart}
use Rattle.trie.proofs.Growth.{node_cases, parent_below, parent_shorter}
use Rattle.trie.proofs.Kept.{trie_kept, noted_failure, noted_match, noted_other, noted_kept}
use Rattle.trie.proofs.Failure.{FailsTo, fails_to, next_failure, match_failure, failure_found}

-- the row of a state: its children, and for the other symbols the words of its failure state's row
row_filled : (rules : List Rule) (v : List ℕ) → 0 < length v → (a : ℕ) → a < mark
    → own_or (child_number (states rules) v a) (number (states rules) (next rules (failure_state rules v) a))
    ≡ number (states rules) (next rules v a)
unfolding child_number
row_filled rules v long a small = go (known (states rules) (v ++ a ∷ [])) refl
  where
    go : (b : Bool) → known (states rules) (v ++ a ∷ []) ≡ b
        → own_or (cond b (number (states rules) (v ++ a ∷ [])) 0) (number (states rules) (next rules (failure_state rules v) a))
        ≡ number (states rules) (next rules v a)
    go true e =
        rw (ne_eqb (number (states rules) (v ++ a ∷ [])) 0 (child_some rules v a small e))
        (ap (number (states rules)) (sym (next_listed rules v a e)))
    go false e = ap (number (states rules)) (sym (next_failure rules v long a e))

-- a child of the root has the root as its failure state
by_root : (t : List Node) (rows : List ℕ) (symbols root q : ℕ) → parent t q ≡ root → failure_by t rows symbols root q ≡ root
unfolding failure_by
by_root t rows symbols root q e = rw (eq-eqb (parent t q) root e)

-- State q, whose turn it is: every shorter state is done.
module _ (set : RuleSet) (done : ℕ → Bool) (t : List Node) (rows : List ℕ) (filling : Filling set done t rows) (q : ℕ)
    (in_range_lem : in_range set ≡ true) (other : q ≡ root set.rules → ⊥) (below : q < length (states set.rules))
    (shorter : (c : ℕ) → c < length (states set.rules) → length (text set.rules c) < length (text set.rules q) → done c ≡ true)
  where
    up : parent t q < length (states set.rules)
    up = parent_below (root set.rules) (states set.rules) set.symbols t filling.trie q other below

    size : length (text set.rules q) ≡ length (text set.rules (parent t q)) + 1
    size = parent_shorter (root set.rules) (states set.rules) set.symbols t filling.trie q other below

    -- the symbol that leads to it, where its parent is not the root
    pub symbol_small : parent t q ≢ root set.rules → symbol t q < set.symbols
    symbol_small high = go (node_cases (root set.rules) (states set.rules) set.symbols t filling.trie q other)
      where
        go : (root set.rules < q) ⊎ ((q ≡ 0) × (0 < root set.rules)) → symbol t q < set.symbols
        go (inl behind) = filling.trie.small q behind below
        go (inr (first, pos)) = absurd (high (rw first filling.trie.mark_parent))

    kept : parent t q ≢ root set.rules → RightFailure set.rules t (parent t q)
    kept high = filling.failures (parent t q) high up (shorter (parent t q) up (omega (arith, size)))

    -- so are its parent and its parent's failure state
    pub parent_fails : parent t q ≢ root set.rules → FailsTo set.rules (text set.rules (parent t q)) (failure t (parent t q))
    parent_fails high = fails_to set.rules (text set.rules (parent t q)) (state_long set.rules (parent t q) high up)
        (failure t (parent t q)) (kept high)

    -- by which its own is found
    pub own_failure : failure_by t rows set.symbols (root set.rules) q
        ≡ number (states set.rules) (failure_state set.rules (text set.rules q))
    own_failure =
        failure_found set t rows filling.trie q other below kept
        (λ high.
        let f = parent_fails high in
        let final = shorter (failure t (parent t q)) f.place (omega (arith, f.short, size)) in
        rw final at (filling.table (failure t (parent t q)) (symbol t q) f.place (symbol_small high)))

    -- with it, its match word and its row q is done too
    pub state_filled : (done' : ℕ → Bool) (t' : List Node) (rows' : List ℕ) (f : ℕ) → done q ≡ false → done' q ≡ true
        → ((c : ℕ) → (c ≡ q → ⊥) → done' c ≡ done c) → f ≡ failure_by t rows set.symbols (root set.rules) q → t' ≡ noted t q f
        → Merged rows rows' set.symbols q f set.symbols → Filling set done' t' rows'
    state_filled done' t' rows' f not_yet now_done others is note merged =
        record {
          trie = rw note (trie_kept (noted_kept t q f inside below) (rw note at mark_fails) filling.trie);
          size = merged.size ∙ filling.size;
          matches = λ c h. match c h (eqb c q) refl;
          failures = λ c other₂ h e. failing c other₂ h e (eqb c q) refl;
          table = λ c a h k. word c a h k (eqb c q) refl;
        }
      where
        inside : q < length t
        inside = omega (arith, filling.trie.linked.size)

        rules : List Rule
        rules = set.rules

        s : List (List ℕ)
        s = states rules

        v : List ℕ
        v = text rules q

        -- a word of another node
        apart : (c : ℕ) → c ≢ q → (word : Node → ℕ) → word (node t' c) ≡ word (node t c)
        apart c differs word = rw note (ap word (noted_other t q f inside c differs))

        -- the failure state of node 0 is the root, as it was or as it is noted
        mark_fails : failure t' 0 ≡ root rules
        mark_fails = go (eqb q 0) refl
          where
            go : (b : Bool) → eqb q 0 ≡ b → failure t' 0 ≡ root rules
            go true e =
                let first : q ≡ 0 = eqb-true q 0 e in
                rw first at (ap (λ (l : List Node). failure l q) note ∙ noted_failure t q f inside) ∙ is
                ∙ by_root t rows set.symbols (root rules) q (ap (λ
                (c : ℕ). parent t c) first ∙ filling.trie.mark_parent)
            go false e =
                let differs = eqb-false q 0 e in
                apart 0 (λ p. differs (sym p)) (λ x. x.failure) ∙ filling.trie.mark_failure

        long : 0 < length v
        long = state_long rules q other below

        -- behind its first place it is plain
        plain : Plain (drop 1 v)
        plain = go (text rules q) refl
          where
            go : (u : List ℕ) → text rules q ≡ u → Plain (drop 1 u)
            go [] e = refl
            go (y ∷ p) e = state_plain set in_range_lem q y p below e

        l : FailsTo rules v f
        l = fails_to rules v long f (is ∙ own_failure)

        f_done : done f ≡ true
        f_done = shorter f l.place l.short

        match : (c : ℕ) → c < length s → (b : Bool) → eqb c q ≡ b
            → matched t' c
            ≡ cond (done' c) (match_word (matching rules (text set.rules c))) (match_word (own rules (text set.rules c)))
        match c h true e =
            let same : c ≡ q = eqb-true c q e in
            let mine : matched t q ≡ match_word (own rules v) = rw not_yet at (filling.matches q below) in
            let its : matched t f ≡ match_word (matching rules (failure_state rules v)) = rw (f_done, l.string) at
            (filling.matches f l.place) in
            rw (same, now_done, note, noted_match t q f inside, mine, its)
            (sym (match_failure rules (non_empty set in_range_lem) v long plain))
        match c h false e =
            let differs = eqb-false c q e in
            rw (others c differs)
            (apart c differs (λ x. x.matched) ∙ filling.matches c h)

        failing : (c : ℕ) → (c ≡ root rules → ⊥) → c < length s → done' c ≡ true → (b : Bool) → eqb c q ≡ b
            → RightFailure rules t' c
        failing c other₂ h e true p =
            let same : c ≡ q = eqb-true c q p in
            rw (same, note) (noted_failure t q f inside ∙ is ∙ own_failure)
        failing c other₂ h e false p =
            let differs = eqb-false c q p in
            apart c differs (λ x. x.failure)
            ∙ filling.failures c other₂ h (sym (others c differs) ∙ e)

        word : (c a : ℕ) → c < length s → a < set.symbols → (b : Bool) → eqb c q ≡ b
            → transition rows' set.symbols c a
            ≡ cond (done' c) (number s (next rules (text set.rules c) a)) (child_number s (text set.rules c) a)
        word c a h k true e =
            let same : c ≡ q = eqb-true c q e in
            let mine : transition rows set.symbols q a ≡ child_number s v a = rw not_yet at (filling.table q a below k) in
            let its : transition rows set.symbols f a ≡ number s (next rules (failure_state rules v) a) =
            rw (f_done, l.string) at (filling.table f a l.place k)
            in
            rw (same, now_done, merged.own a k, mine, its) (row_filled rules v long a (omega (arith, filling.trie.few)))
        word c a h k false e =
            let differs = eqb-false c q e in
            rw (others c differs)
            (⊎_elim (λ (x : c * set.symbols + set.symbols ≤ q * set.symbols). merged.before (c * set.symbols + a) (omega arith))
            (λ (x : q * set.symbols + set.symbols ≤ c * set.symbols). merged.behind (c * set.symbols + a) (omega arith))
            (row_apart set.symbols q c differs)
            ∙ filling.table c a h k)
