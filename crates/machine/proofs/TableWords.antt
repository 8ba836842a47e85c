-- What a table that begins with the rules' table holds, as the code reads it: N and S, each state's match word and its next
-- states, and where these stand.
-- Assumes nothing.
use Prim.Native.Nat.{ℕ, ◌+◌, ◌*◌, ◌≤◌, ◌<◌}
use mathlib.Core.Path.{◌≡◌, ap, ◌∙◌}
use mathlib.Core.Bool.{true}
use mathlib.Core.List.{List}
use native.Mathlib.Omega.{arith}
use lib.ListN.{length, get_or, length-append}
use Rattle.rewriting.specs.Lists.{prefix}
use Rattle.rewriting.specs.Rules.{RuleSet}
use Rattle.rewriting.proofs.Lists.{prefix_rest, begins_at}
use Rattle.layout.specs.States.{states, number, known, next, matching}
use Rattle.layout.specs.Table.{match_word, table_of}
use Rattle.layout.proofs.States.{number_at}
use Rattle.layout.proofs.RowPlaces.{word_within}
use Rattle.layout.proofs.Table.{length_table, table_states, table_symbols, begins_match, begins-next}
use Rattle.machine.specs.Lent.{next_in, match_in}

module _ (set : RuleSet) (t : List ℕ) (e : prefix (table_of set) t ≡ true) where
  -- the table's words are there
  pub table_long : 2 + length (states set.rules) + length (states set.rules) * set.symbols ≤ length t
  table_long = omega (arith, length_table set, simp length-append at (ap length (prefix_rest (table_of set) t e)))

  pub table_header : 2 ≤ length t
  table_header = omega (arith, table_long)

  -- word 0 is N, word 1 is S
  pub states_in : get_or t 0 0 ≡ length (states set.rules)
  states_in = begins_at (table_of set) t e 0 0 (omega (arith, length_table set)) ∙ table_states set

  pub symbols_in_lem : get_or t 1 0 ≡ set.symbols
  symbols_in_lem = begins_at (table_of set) t e 1 0 (omega (arith, length_table set)) ∙ table_symbols set

  -- a state's words, by its number
  module _ (q : List ℕ) (k : known (states set.rules) q ≡ true) where
    pub match_inside : 2 + number (states set.rules) q < length t
    match_inside = omega (arith, table_long, (number_at (states set.rules) q k).0)

    pub table_match_in : match_in t (number (states set.rules) q) ≡ match_word (matching set.rules q)
    table_match_in =
        let at = number_at (states set.rules) q k in
        begins_match set t e (number (states set.rules) q) at.0 ∙ rw at.1

    pub next_inside : (a : ℕ) → a < set.symbols
        → 2 + get_or t 0 0 + number (states set.rules) q * get_or t 1 0 + a < length t
    next_inside a below =
        let within =
        word_within set.symbols (number (states set.rules) q) (length (states set.rules)) a
        (number_at (states set.rules) q k).0 below
        in
        rw (states_in, symbols_in_lem) (omega (arith, table_long))

    pub table_next_in : (a : ℕ) → a < set.symbols
        → next_in t (number (states set.rules) q) a ≡ number (states set.rules) (next set.rules q a)
    table_next_in a below =
        let at = number_at (states set.rules) q k in
        rw (states_in, symbols_in_lem)
        (begins-next set t e (number (states set.rules) q) a at.0 below ∙ rw at.1)
