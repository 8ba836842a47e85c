-- The table: a run of 16-bit words.
--
--     word 0                          N, the number of states
--     word 1                          S
--     word 2 + q                      the match word of state q
--     word 2 + N + q × S + a          the next state of q on symbol a
use Rattle.std.specs.Prelude.{ℕ, suc, length, Option, None, Some}
use mathlib.Core.List.{List, ◌∷◌, ◌++◌, map, flat_map}
use Rattle.rewriting.specs.Lists.{up_to}
use Rattle.rewriting.specs.Rules.{RuleSet}
use Rattle.layout.specs.States.{states, number, next, matching}

-- "The match word is 1 + the rule ..; 0 if none."
unfoldable pub match_word : Option ℕ → ℕ
match_word None = 0
match_word (Some i) = suc i

-- the next states of q, one for each symbol, as numbers
unfoldable pub row : RuleSet → List ℕ → List ℕ
row set q = map (λ a. number (states set.rules) (next set.rules q a)) (up_to set.symbols)

-- "the words 16,964"
abbrev pub table_most : ℕ
table_most = 16964

-- "Word 0 is the number of states N, word 1 is S, then N match words, then N rows of S next states." That each word has
-- 16 bits is `words_fit`; "2 + N + N × S", at most 16,964, are `length_table` and `table_length` (proofs/Table.antt). Without a
-- marked rule it is document 01's table, word for word (`unmarked_table`, proofs/Unmarked.antt).
unfoldable pub table_of : RuleSet → List ℕ
table_of set =
    length (states set.rules) ∷ set.symbols
    ∷ (map (λ q. match_word (matching set.rules q)) (states set.rules) ++ flat_map (row set) (states set.rules))
