-- Laws of the table: how long it is, what stands in each of its words, and that each fits 16 bits.
-- Assumes nothing.
use Prim.Native.Nat.{ℕ, suc, ◌+◌, ◌*◌, ◌≤◌, ◌<◌}
use mathlib.Core.Path.{◌≡◌, refl, sym, ap, ◌∙◌}
use mathlib.Core.Bool.{true}
use Rattle.std.specs.Prelude.{Option, None, Some}
use mathlib.Core.List.{List, [], map, flat_map}
use native.Mathlib.Omega.{arith}
use native.Mathlib.Nat.{mul-le-mul}
use lib.Dec.{ltb}
use lib.ListN.{length, get_or, length-append, length-map, get_or-append}
use lib.Seq.{get_or-append-add, ext_get_or}
use borrow.Author.Tests.{lt-ltb}
use Rattle.rewriting.specs.Lists.{prefix, below, up_to}
use Rattle.rewriting.specs.Rules.{Rule, RuleSet, in_range}
use Rattle.rewriting.specs.Occurrences.{ending}
use Rattle.rewriting.proofs.Lists.{
  and_both,
  all_append,
  all_map,
  all_flat_map,
  all_true,
  length-up_to,
  get_or-up_to,
  get_d_map,
  length-flat_map,
  get_or-flat_map,
  begins_at,
}
use Rattle.rewriting.proofs.Ranges.{ranges}
use Rattle.rewriting.proofs.Scan.{ending_left}
use Rattle.layout.specs.States.{starts, symbols_in, next, matching, states, number}
use Rattle.layout.specs.Table.{table_most, match_word, row, table_of}
use Rattle.layout.specs.Words.{text, transition}
use Rattle.layout.proofs.States.{next-below, few_states}
use Rattle.layout.proofs.RowPlaces.{word_within, place_parts}

-- a row has a word for each symbol: the number of the next state
pub length-row : (set : RuleSet) (q : List ℕ) → length (row set q) ≡ set.symbols
unfolding row
length-row set q = rw (length-map, length-up_to)

-- "Words written: 2 + N + N × S"
pub length_table :
    (set : RuleSet) → length (table_of set) ≡ 2 + length (states set.rules) + length (states set.rules) * set.symbols
unfolding table_of
length_table set =
    rw (length-append, length-map, length-flat_map (row set) set.symbols (length-row set)) (omega arith)

-- "the words 16,964": at most so many
pub table_length : (set : RuleSet) → in_range set ≡ true → length (table_of set) ≤ table_most
table_length set e =
    let few = few_states set e in
    let product = mul-le-mul few (ranges set e).few_symbols in
    rw length_table (omega arith)

pub table_states : (set : RuleSet) → get_or (table_of set) 0 0 ≡ length (states set.rules)
unfolding table_of
table_states set = refl

pub table_symbols : (set : RuleSet) → get_or (table_of set) 1 0 ≡ set.symbols
unfolding table_of
table_symbols set = refl

-- the match words, one for each state
abbrev match_words : RuleSet → List ℕ
match_words set = map (λ q. match_word (matching set.rules q)) (states set.rules)

length_match_words : (set : RuleSet) → length (match_words set) ≡ length (states set.rules)
length_match_words set = length-map (states set.rules) (λ q. match_word (matching set.rules q))

-- the match word of state i
pub table_match : (set : RuleSet) (i : ℕ) → i < length (states set.rules)
    → get_or (table_of set) (2 + i) 0 ≡ match_word (matching set.rules (text set.rules i))
unfolding table_of
table_match set i h =
    let at : 2 + i ≡ suc (suc i) = omega arith in
    let m = length_match_words set in
    rw at
    (get_or-append (match_words set) (flat_map (row set) (states set.rules)) 0 i (omega arith)
    ∙ get_d_map (λ q. match_word (matching set.rules q)) (states set.rules) i [] 0 h)

pub row_at : (set : RuleSet) (q : List ℕ) (a : ℕ) → a < set.symbols
    → get_or (row set q) a 0 ≡ number (states set.rules) (next set.rules q a)
unfolding row
row_at set q a h =
    let m = length-up_to set.symbols in
    get_d_map (λ a. number (states set.rules) (next set.rules q a)) (up_to set.symbols) a 0 0 (omega arith)
    ∙ rw (get_or-up_to set.symbols a 0 h)

-- the next state of state i on symbol a
pub table_next : (set : RuleSet) (i a : ℕ) → i < length (states set.rules) → a < set.symbols
    → get_or (table_of set) (2 + length (states set.rules) + i * set.symbols + a) 0
    ≡ number (states set.rules) (next set.rules (text set.rules i) a)
unfolding table_of
table_next set i a h below =
    let m = length_match_words set in
    let at : 2 + length (states set.rules) + i * set.symbols + a ≡ suc (suc (length (match_words set) + (i * set.symbols + a))) =
    omega arith in
    rw at
    (get_or-append-add (match_words set) (flat_map (row set) (states set.rules)) (i * set.symbols + a) 0
    ∙ get_or-flat_map (row set) set.symbols (length-row set) (states set.rules) i a [] 0 h below
    ∙ row_at set (text set.rules i) a below)

-- it is the number of a state
pub table_next_below : (set : RuleSet) (i a : ℕ) → i < length (states set.rules) → a < set.symbols
    → get_or (table_of set) (2 + length (states set.rules) + i * set.symbols + a) 0 < length (states set.rules)
table_next_below set i a h below =
    rw (table_next set i a h below) (next-below set.rules (text set.rules i) a)

-- match words, one by one, are those of the table
pub matches_whole : (set : RuleSet) (words : List ℕ) → length words ≡ length (states set.rules)
    → ((c : ℕ) → c < length (states set.rules) → get_or words c 0 ≡ match_word (matching set.rules (text set.rules c)))
    → words ≡ map (λ q. match_word (matching set.rules q)) (states set.rules)
matches_whole set words size each =
    ext_get_or 0 words (match_words set) (size ∙ sym (length_match_words set))
    (λ k h.
    each k (omega arith) ∙ sym (get_d_map (λ q. match_word (matching set.rules q)) (states set.rules) k [] 0 (omega arith)))

-- rows of the next states, word by word, are the rows of the table
pub rows_whole : (set : RuleSet) (rows : List ℕ) → 0 < set.symbols → length rows ≡ length (states set.rules) * set.symbols
    → ((c a : ℕ) → c < length (states set.rules) → a < set.symbols
    → transition rows set.symbols c a ≡ number (states set.rules) (next set.rules (text set.rules c) a))
    → rows ≡ flat_map (row set) (states set.rules)
rows_whole set rows pos size each =
    ext_get_or 0 rows (flat_map (row set) s) (size ∙ sym (length-flat_map (row set) set.symbols (length-row set) s)) word
  where
    s : List (List ℕ)
    s = states set.rules

    word : (k : ℕ) → k < length rows → get_or rows k 0 ≡ get_or (flat_map (row set) s) k 0
    word k h =
        let (q, a, listed, low, place) = place_parts set.symbols (length s) k pos (rw size at h) in
        ap (λ (i : ℕ). get_or rows i 0) (sym place)
        ∙ each q a listed low
        ∙ sym (row_at set (get_or s q []) a low)
        ∙ sym (get_or-flat_map (row set) set.symbols (length-row set) s q a [] 0 listed low)
        ∙ ap (λ (i : ℕ). get_or (flat_map (row set) s) i 0) place

-- The same of any table that begins with the words of table_of.
pub begins_match : (set : RuleSet) (t : List ℕ) → prefix (table_of set) t ≡ true → (i : ℕ) → i < length (states set.rules)
    → get_or t (2 + i) 0 ≡ match_word (matching set.rules (text set.rules i))
begins_match set t e i h =
    let m = length_table set in
    begins_at (table_of set) t e (2 + i) 0 (omega arith) ∙ table_match set i h

pub begins-next : (set : RuleSet) (t : List ℕ) → prefix (table_of set) t ≡ true
    → (i a : ℕ) → i < length (states set.rules) → a < set.symbols
    → get_or t (2 + length (states set.rules) + i * set.symbols + a) 0
    ≡ number (states set.rules) (next set.rules (text set.rules i) a)
begins-next set t e i a h below =
    let m = length_table set in
    let fits = word_within set.symbols i (length (states set.rules)) a h below in
    begins_at (table_of set) t e (2 + length (states set.rules) + i * set.symbols + a) 0 (omega arith)
    ∙ table_next set i a h below

-- a match word is at most the number of rules
pub few_matching : (rules : List Rule) (q : List ℕ) → match_word (matching rules q) ≤ length rules
unfolding matching match_word
few_matching rules q = go (ending rules (starts q) (symbols_in q)) refl
  where
    go : (m : Option ℕ) → ending rules (starts q) (symbols_in q) ≡ m → match_word m ≤ length rules
    go None e = omega arith
    go (Some i) e = (ending_left rules (starts q) (symbols_in q) i e).is-rule

row_fits : (set : RuleSet) → in_range set ≡ true → (q : List ℕ) → below 65536 (row set q) ≡ true
unfolding row
row_fits set e q = all_map (λ x. ltb x 65536) word fits (up_to set.symbols)
  where
    word : ℕ → ℕ
    word a = number (states set.rules) (next set.rules q a)

    fits : (a : ℕ) → ltb (word a) 65536 ≡ true
    fits a = lt-ltb (word a) 65536 (omega (arith, few_states set e, next-below set.rules q a))

match_words_fit : (set : RuleSet) → in_range set ≡ true → below 65536 (match_words set) ≡ true
match_words_fit set e = all_map (λ x. ltb x 65536) word fits (states set.rules)
  where
    word : List ℕ → ℕ
    word q = match_word (matching set.rules q)

    fits : (q : List ℕ) → ltb (word q) 65536 ≡ true
    fits q = lt-ltb (word q) 65536 (omega (arith, ranges set e, few_matching set.rules q))

-- each word fits 16 bits
pub words_fit : (set : RuleSet) → in_range set ≡ true → below 65536 (table_of set) ≡ true
unfolding table_of
words_fit set e =
    let rows : below 65536 (flat_map (row set) (states set.rules)) ≡ true =
    all_flat_map (λ q. true) (λ x. ltb x 65536) (row set) (λ q _. row_fits set e q) (states set.rules)
    (all_true (states set.rules))
    in
    and_both (lt-ltb (length (states set.rules)) 65536 (omega (arith, few_states set e)))
    (and_both (lt-ltb set.symbols 65536 (omega (arith, ranges set e)))
    (all_append (λ x. ltb x 65536) (match_words set) (flat_map (row set) (states set.rules)) (match_words_fit set e) rows))
