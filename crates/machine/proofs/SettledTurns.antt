-- The test of settled symbols and their words, turn by turn: the symbols before i and their words have passed, so the word
-- before word i is the number of their state, and the table says what word i has to be.
-- Assumes nothing.
use Prim.Native.Nat.{ℕ, zero, suc, ◌+◌, ◌*◌, ◌-◌, ◌≤◌, ◌<◌}
use mathlib.Core.Path.{◌≡◌, refl, sym, ap, ◌∙◌}
use mathlib.Core.Bool.{true}
use Rattle.std.specs.Prelude.{Option, None, Some}
use mathlib.Core.List.{List, [], ◌∷◌, ◌++◌, map-append}
use native.Mathlib.Numerals.{add-one}
use native.Mathlib.Omega.{arith}
use lib.Dec.{ltb}
use lib.ListN.{length, get_or, take}
use lib.Seq.{take_all, take-suc, get_or-take, length-take-le}
use borrow.Author.Tests.{ltb-true, lt-ltb}
use Rattle.rewriting.specs.Lists.{prefix, below}
use Rattle.rewriting.specs.Rules.{RuleSet}
use Rattle.rewriting.proofs.Lists.{and_both, all_append, all_at, get_d_map}
use Rattle.rewriting.proofs.Ranges.{Ranges}
use Rattle.layout.specs.States.{states, number, known, mark, after, next, matching}
use Rattle.layout.specs.Table.{match_word, table_of}
use Rattle.layout.proofs.Matching.{state_snoc}
use Rattle.layout.proofs.States.{number_start, state-known, next_known}
use Rattle.machine.specs.Areas.{states_after, no_match, unmatched}
use Rattle.machine.specs.Lent.{rows_in, width_in, match_in, word_before, Settled}
use Rattle.machine.proofs.Areas.{length-states_after, states-after, states_after_snoc}
use Rattle.machine.proofs.TableWords.{next_inside, table_next_in, match_inside, table_match_in}

-- the word before word n, where n is not 0
pub word_before_lem : (words : List ℕ) (n : ℕ) → (n ≡ 0 → ⊥) → get_or words (n - 1) 0 ≡ word_before words n
word_before_lem words zero h = absurd (h refl)
word_before_lem words (suc i) h = let e : suc i - 1 ≡ i = omega arith in rw e

match_none : (m : Option ℕ) → match_word m ≡ 0 → no_match m ≡ true
unfolding match_word no_match
match_none None e = refl
match_none (Some i) e = absurd (omega (arith, e))

none_match : (m : Option ℕ) → no_match m ≡ true → match_word m ≡ 0
unfolding match_word no_match
none_match None e = refl
none_match (Some i) e = let z : ◌≡◌ {A = ℕ} 0 1 = cc in absurd (omega arith)

settled_snoc : (set : RuleSet) (s w : List ℕ) (a x : ℕ) → Settled set s w → a < set.symbols
    → x ≡ number (states set.rules) (next set.rules (after set.rules s) a)
    → match_word (matching set.rules (next set.rules (after set.rules s) a)) ≡ 0
    → Settled set (s ++ a ∷ []) (w ++ x ∷ [])
unfolding unmatched
settled_snoc set s w a x h low e m =
    let q : List ℕ = next set.rules (after set.rules s) a in
    let more : states_after set.rules (after set.rules []) (s ++ a ∷ [])
    ≡ states_after set.rules (after set.rules []) s ++ q ∷ [] =
    states_after_snoc set.rules (mark ∷ []) s a
    in
    record {
      symbols_below =
          all_append (λ y. ltb y set.symbols) s (a ∷ []) h.symbols_below (and_both (lt-ltb a set.symbols low) refl);
      words_right = rw (more, map-append, e, h.words_right);
      no_match_lem =
          rw more
          (all_append (λ y. no_match (matching set.rules y)) (states_after set.rules (after set.rules []) s)
          (q ∷ []) h.no_match_lem
          (and_both (match_none (matching set.rules q) m) refl));
    }

pub settled_none : (set : RuleSet) → Settled set [] []
unfolding states_after unmatched
settled_none set = record { symbols_below = refl; words_right = refl; no_match_lem = refl }

module _ (set : RuleSet) (symbols words : List ℕ) (h : Settled set symbols words) (i : ℕ) (lt : i < length symbols) where
  -- the state after the symbol at i
  state_there : get_or (states_after set.rules (after set.rules []) symbols) i []
      ≡ next set.rules (after set.rules (take i symbols)) (get_or symbols i 0)
  state_there =
      states-after set.rules (mark ∷ []) symbols i lt
      ∙ ap (after set.rules) (take-suc symbols i 0 lt)
      ∙ sym (state_snoc set.rules (mark ∷ take i symbols) (get_or symbols i 0))

  long : i < length (states_after set.rules (after set.rules []) symbols)
  long = omega (arith, length-states_after set.rules (after set.rules []) symbols)

  settled_word : get_or words i 0
      ≡ number (states set.rules) (next set.rules (after set.rules (take i symbols)) (get_or symbols i 0))
  settled_word =
      ap (λ (l : List ℕ). get_or l i 0) h.words_right
      ∙ get_d_map (number (states set.rules)) (states_after set.rules (after set.rules []) symbols) i [] 0 long
      ∙ ap (number (states set.rules)) state_there

  settled_unmatched : match_word (matching set.rules (next set.rules (after set.rules (take i symbols)) (get_or symbols i 0))) ≡ 0
  unfolding unmatched
  settled_unmatched =
      none_match _
      (rw state_there at (all_at (λ y. no_match (matching set.rules y))
      (states_after set.rules (after set.rules []) symbols) [] h.no_match_lem i long))

-- the word before word i is the number of the state
word_number :
    (set : RuleSet) → Ranges set → (symbols words : List ℕ) (i : ℕ) → i ≤ length symbols
    → Settled set (take i symbols) (take i words)
    → word_before words i ≡ number (states set.rules) (after set.rules (take i symbols))
word_number set ranges symbols words zero le h = sym (number_start set ranges)
word_number set ranges symbols words (suc j) le h =
    let size : length (take (suc j) symbols) ≡ suc j = length-take-le (suc j) symbols le in
    let last = settled_word set (take (suc j) symbols) (take (suc j) words) h j (omega arith) in
    sym (get_or-take (suc j) words j 0 (omega arith))
    ∙ last
    ∙ ap (number (states set.rules))
    (state_snoc set.rules (mark ∷ take j (take (suc j) symbols)) (get_or (take (suc j) symbols) j 0))
    ∙ ap (λ (p : List ℕ). number (states set.rules) (after set.rules p))
    (sym (take-suc (take (suc j) symbols) j 0 (omega arith)) ∙ take_all (suc j) (take (suc j) symbols) (omega arith))

-- A turn: w is the word before word i, a the symbol.
pub record Turn (set : RuleSet) (t : List ℕ) (rows width : ℕ) (symbols words : List ℕ) (i w a : ℕ) : Type 0 where
  pub in_range_lem : Ranges set
  pub table : prefix (table_of set) t ≡ true
  pub row_first : rows ≡ rows_in t
  pub row_width : width ≡ width_in t
  pub symbols_below : below set.symbols symbols ≡ true
  pub more : i < length symbols
  pub fits : i < length words
  pub so_far : Settled set (take i symbols) (take i words)
  pub word : w ≡ word_before words i
  pub symbol : a ≡ get_or symbols i 0

-- n is the state that the table has after it, m that state's match word.
module _ {set : RuleSet} {t : List ℕ} {rows width : ℕ} {symbols words : List ℕ} {i w a : ℕ}
    (turn : Turn set t rows width symbols words i w a) where
  abbrev here : List ℕ
  here = after set.rules (take i symbols)

  here_known : known (states set.rules) here ≡ true
  here_known = state-known set.rules (mark ∷ take i symbols)

  w_number : w ≡ number (states set.rules) here
  w_number = turn.word ∙ word_number set turn.in_range_lem symbols words i (omega (arith, turn.more)) turn.so_far

  low : a < set.symbols
  low = rw turn.symbol (ltb-true _ _ (all_at (λ y. ltb y set.symbols) symbols 0 turn.symbols_below i turn.more))

  pub next_asks : rows + w * width + a < length t
  next_asks = rw (turn.row_first, turn.row_width, w_number) (next_inside set t turn.table here here_known a low)

  module _ {n : ℕ} (is-next : n ≡ get_or t (rows + w * width + a) 0) where
    abbrev there : List ℕ
    there = next set.rules here a

    there_known : known (states set.rules) there ≡ true
    there_known = next_known set.rules here a

    n_number : n ≡ number (states set.rules) there
    n_number =
        is-next ∙ rw (turn.row_first, turn.row_width, w_number) (table_next_in set t turn.table here here_known a low)

    pub match_asks : 2 + n < length t
    match_asks = rw n_number (match_inside set t turn.table there there_known)

    pub other_word : (get_or words i 0 ≡ n → ⊥) → Settled set symbols words → ⊥
    other_word other h =
        other
        (settled_word set symbols words h i turn.more
        ∙ ap (λ (x : ℕ). number (states set.rules) (next set.rules here x)) (sym turn.symbol)
        ∙ sym n_number)

    module _ {m : ℕ} (is_match : m ≡ match_in t n) where
      m_match : m ≡ match_word (matching set.rules there)
      m_match = is_match ∙ ap (match_in t) n_number ∙ table_match_in set t turn.table there there_known

      pub some_match : (m ≡ 0 → ⊥) → Settled set symbols words → ⊥
      some_match some_m h =
          some_m
          (m_match
          ∙ ap (λ (x : ℕ). match_word (matching set.rules (next set.rules here x))) turn.symbol
          ∙ settled_unmatched set symbols words h i turn.more)

      pub settled_more : get_or words i 0 ≡ n → m ≡ 0 → Settled set (take (i + 1) symbols) (take (i + 1) words)
      settled_more same none_m =
          let grown =
          settled_snoc set (take i symbols) (take i words) a (get_or words i 0) turn.so_far low (same ∙ n_number)
          (sym m_match ∙ none_m)
          in
          let s : take i symbols ++ a ∷ [] ≡ take (i + 1) symbols =
          rw (add-one, turn.symbol) (sym (take-suc symbols i 0 turn.more)) in
          let v : take i words ++ get_or words i 0 ∷ [] ≡ take (i + 1) words = rw add-one (sym (take-suc words i 0 turn.fits)) in
          rw (s, v) at grown

pub settled_all : (set : RuleSet) (symbols words : List ℕ) (i : ℕ) → length symbols ≤ i → length words ≤ i
    → Settled set (take i symbols) (take i words) → Settled set symbols words
settled_all set symbols words i a b h = rw (take_all i symbols a, take_all i words b) at h
