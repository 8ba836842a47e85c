-- From the states' tests to the table: it begins with the rules' words exactly where its match words and rows are right.
-- Assumes nothing.
use Prim.Native.Nat.{ℕ, suc, ◌+◌, ◌-◌, ◌*◌, ◌≤◌, ◌<◌}
use mathlib.Core.Path.{◌≡◌, refl, sym, ap, ◌∙◌}
use mathlib.Core.Bool.{Bool, true, false}
use mathlib.Core.List.{List, [], ◌∷◌, ◌++◌, append_assoc}
use native.Mathlib.Omega.{arith}
use lib.ListN.{length, get_or, take, drop, length-append, length-drop, take-append-drop}
use lib.Seq.{get_or-take, get_or-drop, drop-drop, length-take-le}
use Rattle.rewriting.specs.Lists.{prefix}
use Rattle.rewriting.specs.Rules.{RuleSet, in_range}
use Rattle.rewriting.proofs.Lists.{prefix_rest, prefix_append, begins_at}
use Rattle.rewriting.proofs.Ranges.{ranges}
use Rattle.layout.specs.ImageCheck.{Decides}
use Rattle.layout.specs.States.{states}
use Rattle.layout.specs.Table.{table_of}
use Rattle.table.specs.Consistent.{RightTable}
use Rattle.layout.proofs.RowPlaces.{word_within}
use Rattle.layout.proofs.Table.{
  length_table,
  table_length,
  table_states,
  table_symbols,
  begins_match,
  begins-next,
  matches_whole,
  rows_whole,
}

-- the parts of a table of n states and s symbols
abbrev pub match_part : List ℕ → ℕ → List ℕ
match_part table n = take (2 + n - 2) (drop 2 table)

abbrev pub row_part : List ℕ → ℕ → ℕ → List ℕ
row_part table n s = take (2 + n + n * s - (2 + n)) (drop (2 + n) table)

module _ (table : List ℕ) (n s : ℕ) where
  match_part_at : (i : ℕ) → i < n → get_or (match_part table n) i 0 ≡ get_or table (2 + i) 0
  match_part_at i h = get_or-take (2 + n - 2) (drop 2 table) i 0 (omega arith) ∙ get_or-drop 2 table i 0

  row_part_at : (j : ℕ) → j < n * s → get_or (row_part table n s) j 0 ≡ get_or table (2 + n + j) 0
  row_part_at j h = get_or-take (2 + n + n * s - (2 + n)) (drop (2 + n) table) j 0 (omega arith) ∙ get_or-drop (2 + n) table j 0

-- a table that is long enough consists of them
table_parts : (table : List ℕ) (n s : ℕ) → 2 + n + n * s ≤ length table
    → table ≡ get_or table 0 0 ∷ get_or table 1 0 ∷ (match_part table n ++ row_part table n s) ++ drop (2 + n + n * s) table
table_parts [] n s long = absurd (omega arith)
table_parts (x ∷ []) n s long = absurd (omega arith)
table_parts (x ∷ y ∷ l) n s long =
    let words : 2 + n - 2 ≡ n = omega arith in
    let lines : 2 + n + n * s - (2 + n) ≡ n * s = omega arith in
    let end : 2 + n + n * s ≡ suc (suc (n + n * s)) = omega arith in
    let first : 2 + n ≡ suc (suc n) = omega arith in
    let whole : take n l ++ take (n * s) (drop n l) ++ drop (n + n * s) l ≡ l =
    rw (append_assoc, ← drop-drop (n * s) n l, take-append-drop (n * s) (drop n l)) (take-append-drop n l)
    in
    rw (words, lines, end, first) (ap (λ (z : List ℕ). x ∷ y ∷ z) (sym whole))

prefix-length : (s t : List ℕ) → prefix s t ≡ true → length s ≤ length t
prefix-length s t e = omega (arith, simp length-append at (ap length (prefix_rest s t e)))

never_true : (b : Bool) → (b ≡ true → ⊥) → false ≡ b
never_true true h = absurd (h refl)
never_true false h = refl

module _ (rules : RuleSet) (table : List ℕ) {n s : ℕ} (all : n ≡ length (states rules.rules)) (width : s ≡ rules.symbols) where
  size : length (table_of rules) ≡ 2 + n + n * s
  size = rw (all, width) (length_table rules)

  pub table_small : in_range rules ≡ true → 2 + n + n * s ≤ 16964
  table_small range = omega (arith, size, table_length rules range)

  pub part_lengths : 2 + n + n * s ≤ length table
      → (n ≡ length (match_part table n)) × (n * rules.symbols ≡ length (row_part table n s))
  part_lengths long =
      let words = length-drop 2 table in
      let lines = length-drop (2 + n) table in
      let here : n * rules.symbols ≡ n * s = rw width in (
        sym (length-take-le (2 + n - 2) (drop 2 table) (omega arith) ∙ omega arith),
        here ∙ sym (length-take-le (2 + n + n * s - (2 + n)) (drop (2 + n) table) (omega arith) ∙ omega arith),
      )

  pub short_table : length table < 2 + n + n * s → false ≡ prefix (table_of rules) table
  short_table short =
      never_true (prefix (table_of rules) table) (λ e. omega (arith, prefix-length (table_of rules) table e, size))

  pub other_states : (get_or table 0 0 ≡ n → ⊥) → false ≡ prefix (table_of rules) table
  other_states other =
      never_true (prefix (table_of rules) table)
      (λ e. other (begins_at (table_of rules) table e 0 0 (omega (arith, size)) ∙ table_states rules ∙ sym all))

  pub other_symbols : (get_or table 1 0 ≡ s → ⊥) → false ≡ prefix (table_of rules) table
  other_symbols other =
      never_true (prefix (table_of rules) table)
      (λ e. other (begins_at (table_of rules) table e 1 0 (omega (arith, size)) ∙ table_symbols rules ∙ sym width))

  begins_right : prefix (table_of rules) table ≡ true
      → RightTable rules.rules rules.symbols (match_part table n) (row_part table n s)
  begins_right e =
      record {
        right_next = λ c a lt small.
            let inside : c * rules.symbols + a < n * rules.symbols = word_within rules.symbols c n a (omega arith) small in
            let at : 2 + n + (c * rules.symbols + a) ≡ 2 + length (states rules.rules) + c * rules.symbols + a = omega arith in
            row_part_at table n s (c * rules.symbols + a) (rw width inside)
            ∙ ap (λ (i : ℕ). get_or table i 0) at
            ∙ begins-next rules table e c a lt small;
        right_match = λ c lt. match_part_at table n s c (omega arith) ∙ begins_match rules table e c lt;
      }

  right_begins : in_range rules ≡ true → 2 + n + n * s ≤ length table → get_or table 0 0 ≡ n → get_or table 1 0 ≡ s
      → RightTable rules.rules rules.symbols (match_part table n) (row_part table n s) → prefix (table_of rules) table ≡ true
  unfolding table_of
  right_begins range long first second right =
      let sizes = part_lengths long in
      let words = matches_whole rules (match_part table n) (sym sizes.0 ∙ all) right.right_match in
      let lines =
      rows_whole rules (row_part table n s) (ranges rules range).some-symbol (sym sizes.1 ∙ ap (λ (k : ℕ). k * rules.symbols) all)
      right.right_next
      in
      let whole : table_of rules ≡ get_or table 0 0 ∷ get_or table 1 0 ∷ (match_part table n ++ row_part table n s) = cc in
      ap (prefix (table_of rules))
      (table_parts table n s long ∙ ap (λ (t : List ℕ). t ++ drop (2 + n + n * s) table) (sym whole))
      ∙ prefix_append (table_of rules) (drop (2 + n + n * s) table)

  -- the answer of the states' tests is that the table begins with the right words
  pub compared : in_range rules ≡ true → 2 + n + n * s ≤ length table → get_or table 0 0 ≡ n → get_or table 1 0 ≡ s
      → (b : Bool) → Decides b (RightTable rules.rules rules.symbols (match_part table n) (row_part table n s))
      → b ≡ prefix (table_of rules) table
  compared range long first second true right = sym (right_begins range long first second right)
  compared range long first second false wrong = never_true (prefix (table_of rules) table) (λ e. wrong (begins_right e))
