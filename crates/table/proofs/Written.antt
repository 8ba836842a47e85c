-- The table written in parts: its first two words, then the rows, then the match words between them.
-- Assumes nothing.
use Prim.Native.Nat.{ℕ, suc, ◌+◌, ◌-◌, ◌*◌, ◌≤◌}
use mathlib.Core.Path.{◌≡◌, sym, ap, ◌∙◌}
use mathlib.Core.Bool.{true}
use mathlib.Core.List.{List, [], ◌∷◌, ◌++◌, map, flat_map, append-nil}
use native.Mathlib.Omega.{arith}
use lib.ListN.{length, take, drop, set, length-append, length-map, length-set, length-drop}
use lib.Seq.{length-take-le, drop-drop, drop-length, drop_at}
use borrow.Rule.Slice.PartMut.{put_mid}
use Rattle.rewriting.specs.Rules.{RuleSet}
use Rattle.rewriting.proofs.Lists.{length-flat_map}
use Rattle.layout.specs.Image.{read, valid}
use Rattle.layout.specs.States.{states, matching}
use Rattle.layout.specs.Table.{match_word, row, table_of}
use Rattle.layout.proofs.Image.{valid-in_range}
use Rattle.layout.proofs.Table.{length-row, length_table, table_length, matches_whole}
use Rattle.trie.specs.declared.Node.{Node}
use Rattle.trie.specs.Nodes.{unused, Built}
use Rattle.trie.specs.Rows.{Matched}
use Rattle.std.proofs.lemmas.List.{get_or-map, get_or-take}

-- an area whose first two words are n and s
abbrev pub headed : List ℕ → ℕ → ℕ → List ℕ
headed table n s = set (set table 0 n) 1 s

-- .. with rows behind the place of n match words
abbrev pub rowed : List ℕ → ℕ → ℕ → List ℕ → List ℕ
rowed table n s rows = put_mid (2 + n) (length (headed table n s) - (2 + n)) (headed table n s) rows

-- .. and with the match words
abbrev pub words_of : List ℕ → ℕ → ℕ → List ℕ → List ℕ → List ℕ
words_of table n s rows matches = put_mid 2 (2 + n - 2) (rowed table n s rows) matches

module _ (table : List ℕ) (n s r : ℕ) (size : length table ≡ 2 + n + r) where
  headed_length : length (headed table n s) ≡ 2 + n + r
  headed_length = simp length-set size

  rows_part : length (take (length (headed table n s) - (2 + n)) (drop (2 + n) (headed table n s))) ≡ r
  rows_part =
      let e = headed_length in
      let d = length-drop (2 + n) (headed table n s) in
      length-take-le (length (headed table n s) - (2 + n)) (drop (2 + n) (headed table n s)) (omega arith) ∙ omega arith

  module _ (rows : List ℕ) (long : length rows ≡ r) where
    rowed_is : rowed table n s rows ≡ n ∷ s ∷ (take n (drop 2 table) ++ rows)
    rowed_is = go table size
      where
        go : (table : List ℕ) → length table ≡ 2 + n + r → rowed table n s rows ≡ n ∷ s ∷ (take n (drop 2 table) ++ rows)
        go [] e = absurd (omega arith)
        go (x ∷ []) e = absurd (omega arith)
        go (x ∷ y ∷ l) e =
            let two : 2 + n ≡ suc (suc n) = omega arith in
            let rest : drop (length (n ∷ s ∷ l) - (2 + n)) (drop n l) ≡ [] =
            drop-drop (length (n ∷ s ∷ l) - (2 + n)) n l
            ∙ (let all : n + (length (n ∷ s ∷ l) - (2 + n)) ≡ length l = omega arith in rw all (drop-length l))
            in
            rw two (rw (← two) (ap (λ (z : List ℕ). n ∷ s ∷ (take n l ++ (rows ++ z))) rest ∙ rw append-nil))

    within : length (take n (drop 2 table)) ≡ n
    within = length-take-le n (drop 2 table) (rw length-drop (omega arith))

    rowed_length : length (rowed table n s rows) ≡ 2 + n + r
    rowed_length = rw rowed_is (let e = within in simp length-append (omega arith))

    matches_part : length (take (2 + n - 2) (drop 2 (rowed table n s rows))) ≡ n
    matches_part =
        let e = rowed_length in
        let d = length-drop 2 (rowed table n s rows) in
        length-take-le (2 + n - 2) (drop 2 (rowed table n s rows)) (omega arith) ∙ omega arith

    words_are : (matches : List ℕ) → words_of table n s rows matches ≡ n ∷ s ∷ (matches ++ rows)
    words_are matches =
        let back : 2 + n - 2 ≡ n = omega arith in
        rw (rowed_is, back, drop_at (take n (drop 2 table)) rows n within)

-- The table of a rule set of n states and s symbols, written into an area of its length.
module _ (set : RuleSet) (table : List ℕ) {n s : ℕ} (all : n ≡ length (states set.rules)) (width : s ≡ set.symbols)
    (long : length table ≡ length (table_of set)) where
  sized : length table ≡ 2 + n + length (states set.rules) * set.symbols
  sized = long ∙ length_table set ∙ rw all

  pub area_some : 2 + n ≤ length table
  area_some = omega (arith, sized)

  -- room for the rows
  pub rows_room : length (take (length (headed table n s) - (2 + n)) (drop (2 + n) (headed table n s)))
      ≡ length (states set.rules) * set.symbols
  rows_room = rows_part table n s (length (states set.rules) * set.symbols) sized

  module _ (rows : List ℕ) (filled : rows ≡ flat_map (row set) (states set.rules)) where
    rows_long : length rows ≡ length (states set.rules) * set.symbols
    rows_long = ap length filled ∙ length-flat_map (row set) set.symbols (length-row set) (states set.rules)

    -- room for the match words
    pub matches_end : 2 + n ≤ length (rowed table n s rows)
    matches_end = omega (arith, rowed_length table n s (length (states set.rules) * set.symbols) sized rows rows_long)

    pub matches_room : length (take (2 + n - 2) (drop 2 (rowed table n s rows))) ≡ n
    matches_room = matches_part table n s (length (states set.rules) * set.symbols) sized rows rows_long

    module _ (matches : List ℕ) (written : matches ≡ map (λ q. match_word (matching set.rules q)) (states set.rules)) where
      pub table_written : words_of table n s rows matches ≡ table_of set
      unfolding table_of
      table_written =
          words_are table n s (length (states set.rules) * set.symbols) sized rows rows_long matches
          ∙ rw (all, width, filled, written)

-- the match words in the nodes of the states are the table's
pub matches_written : (set : RuleSet) (t : List Node) (n : ℕ) → n ≡ length (states set.rules) → n ≤ length t → Matched set t
    → map (λ (x : Node). x.matched) (take n t) ≡ map (λ q. match_word (matching set.rules q)) (states set.rules)
matches_written set t n all room right =
    let size : length (take n t) ≡ n = length-take-le n t room in
    matches_whole set (map (λ (x : Node). x.matched) (take n t)) (simp length-map (size ∙ all))
    (λ c h.
    get_or-map (λ (x : Node). x.matched) (take n t) c unused 0 (omega (arith, size, all))
    ∙ ap (λ (x : Node). x.matched) (get_or-take n t c unused (omega (arith, all)))
    ∙ right c h)

-- the number of words by the number of states that were built, within its bound
pub words_built : (image : List ℕ) → valid image ≡ true → (n : ℕ) (t : List Node) → Built (read image) n t → (s : ℕ)
    → s ≡ (read image).symbols
    → (2 + n + n * s ≡ length (table_of (read image))) × (2 + n + n * s ≤ 16964)
words_built image e n t b s is =
    let w : 2 + n + n * s ≡ length (table_of (read image)) = rw (b.nodes, is) (sym (length_table (read image))) in
    (w, rw w (table_length (read image) (valid-in_range image e)))
