-- Where the filling of the rows begins and ends: with the children laid and the root's row filled the empty state is done, and
-- when the longest states are done, the rows and match words are the table's, and are written there.
-- Assumes nothing.
use Prim.Native.Nat.{ℕ, ◌+◌, ◌*◌, ◌≤◌, ◌<◌}
use mathlib.Core.Path.{◌≡◌, refl, sym, ap, ◌∙◌}
use mathlib.Core.Bool.{Bool, true, false, cond, and-false}
use mathlib.Core.Logic.{⊎_elim}
use mathlib.Core.List.{List, [], ◌∷◌}
use native.Mathlib.Omega.{arith}
use lib.Dec.{eqb}
use lib.ListN.{length}
use borrow.Author.Tests.{eqb-true, eqb-false, ne_eqb, le-ltb}
use Rattle.rewriting.specs.Rules.{Rule, RuleSet, in_range}
use Rattle.rewriting.specs.Occurrences.{ending}
use Rattle.rewriting.proofs.Lists.{not-true}
use Rattle.rewriting.proofs.Ranges.{ranges}
use Rattle.rewriting.proofs.Redex.{non_empty}
use Rattle.rewriting.proofs.Ending.{lowest-empty}
use Rattle.layout.specs.States.{mark, next, starts, symbols_in, known, matching, states, number}
use Rattle.layout.specs.Table.{match_word}
use Rattle.layout.specs.Words.{root, text, own, NoLonger, transition, own_or}
use Rattle.trie.specs.declared.Node.{Node}
use Rattle.trie.specs.Nodes.{matched, TrieOf, Owned}
use Rattle.trie.specs.Rows.{child_number, Laid, RootFilled, reached, FillingAt, Filled}
use Rattle.layout.proofs.States.{next_listed, root_below, root-text, number-root, child_some, state_long, short_state}
use Rattle.layout.proofs.RowPlaces.{row_apart}
use Rattle.layout.proofs.Table.{rows_whole}
use Rattle.trie.proofs.Failure.{next-root}
use Rattle.trie.proofs.Turns.{reached_shorter}

-- no left side is empty, so the empty state has no match word
root_match : (set : RuleSet) → in_range set ≡ true → match_word (own set.rules []) ≡ match_word (matching set.rules [])
unfolding matching ending own starts symbols_in
root_match set e = ap match_word (lowest-empty set.rules (non_empty set e) false)

-- the row of the empty state has its children, and itself for each symbol by which it has none
root-row : (rules : List Rule) (a : ℕ) → a < mark
    → own_or (child_number (states rules) [] a) (root rules) ≡ number (states rules) (next rules [] a)
unfolding child_number
root-row rules a small = go (known (states rules) (a ∷ [])) refl
  where
    go : (b : Bool) → known (states rules) (a ∷ []) ≡ b
        → own_or (cond b (number (states rules) (a ∷ [])) 0) (root rules) ≡ number (states rules) (next rules [] a)
    go true e =
        rw (ne_eqb (number (states rules) (a ∷ [])) 0 (child_some rules [] a small e))
        (ap (number (states rules)) (sym (next_listed rules [] a e)))
    go false e = sym (ap (number (states rules)) (next-root rules a e) ∙ number-root rules)

-- the states longer than the empty one are not done at the start
reached-root : (rules : List Rule) (c : ℕ) → (c ≡ root rules → ⊥) → c < length (states rules)
    → reached (states rules) 1 0 c ≡ false
unfolding reached
reached-root rules c other below =
    rw (le-ltb (length (text rules c)) 1 (state_long rules c other below), le-ltb c 0 (omega arith), and-false)

-- With the children laid and the root's row filled, the empty state is done.
pub filling_start : (set : RuleSet) (t : List Node) (rows rows' : List ℕ) → in_range set ≡ true → TrieOf set t
    → Owned set.rules (states set.rules) t
    → Laid set rows → RootFilled rows rows' set.symbols (root set.rules) set.symbols → FillingAt set 1 0 t rows'
filling_start set t rows rows' e trie owned laid rooted =
    record {
      trie = trie;
      size = rooted.size ∙ laid.size;
      matches = λ c h. match c h (eqb c (root rules)) refl;
      failures = λ c other h p. absurd (not-true (sym (reached-root set.rules c other h) ∙ p));
      table = λ c a h k. word c a h k (eqb c (root rules)) refl;
    }
  where
    rules : List Rule
    rules = set.rules

    s : List (List ℕ)
    s = states rules

    top : reached s 1 0 (root rules) ≡ true
    top = let size = ap length (root-text rules) in reached_shorter s 1 0 (root rules) (omega arith)

    match : (c : ℕ) → c < length s → (b : Bool) → eqb c (root rules) ≡ b
        → matched t c
        ≡ cond (reached s 1 0 c) (match_word (matching rules (text set.rules c))) (match_word (own rules (text set.rules c)))
    match c h true p =
        let same : c ≡ root rules = eqb-true c (root rules) p in
        let mine : matched t (root rules) ≡ match_word (own rules []) = rw root-text at (owned (root rules) (root_below rules)) in
        rw (same, top, root-text) (mine ∙ root_match set e)
    match c h false p = rw (reached-root rules c (eqb-false c (root rules) p) h) (owned c h)

    -- a row other than the root's is as it was laid
    apart : (c a : ℕ) → (c ≡ root rules → ⊥) → a < set.symbols
        → transition rows' set.symbols c a ≡ transition rows set.symbols c a
    apart c a other k =
        ⊎_elim
        (λ (x : c * set.symbols + set.symbols ≤ root rules * set.symbols). rooted.before (c * set.symbols + a) (omega arith))
        (λ (x : root rules * set.symbols + set.symbols ≤ c * set.symbols). rooted.behind (c * set.symbols + a) (omega arith))
        (row_apart set.symbols (root rules) c other)

    word : (c a : ℕ) → c < length s → a < set.symbols → (b : Bool) → eqb c (root rules) ≡ b
        → transition rows' set.symbols c a
        ≡ cond (reached s 1 0 c) (number s (next rules (text set.rules c) a)) (child_number s (text set.rules c) a)
    word c a h k true p =
        let same : c ≡ root rules = eqb-true c (root rules) p in
        let mine : transition rows set.symbols (root rules) a ≡ child_number s [] a =
        rw root-text at (laid.table (root rules) a (root_below rules) k)
        in
        rw (same, top, root-text, rooted.own a k, mine) (root-row rules a (omega (arith, trie.few)))
    word c a h k false p =
        let other = eqb-false c (root rules) p in
        rw (reached-root rules c other h) (apart c a other k ∙ laid.table c a h k)

-- When the states as long as the longest left side, and the mark where there is one, are done, all are.
pub filling_end : (set : RuleSet) (n : ℕ) (t t' : List Node) (rows : List ℕ) → in_range set ≡ true → NoLonger n set.rules
    → length t' ≡ length t
    → FillingAt set (n + root set.rules + 1) 0 t' rows → Filled set t t' rows
filling_end set n t t' rows e long size filling =
    record {
      size = size;
      table =
          rows_whole set rows (ranges set e).some-symbol filling.size
          (λ c a h k. rw (final c h) at (filling.table c a h k));
      matches = λ c h. rw (final c h) at (filling.matches c h);
    }
  where
    final : (c : ℕ) → c < length (states set.rules) → reached (states set.rules) (n + root set.rules + 1) 0 c ≡ true
    final c h =
        let short = short_state n set.rules long c h in
        reached_shorter (states set.rules) (n + root set.rules + 1) 0 c (omega arith)
