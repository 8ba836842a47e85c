-- `table::compare::holds` meets its contract: where the length, N and S are right, what the states' tests decide.
use Prim.Native.Nat.{◌+◌, ◌*◌, ◌≤◌}
use mathlib.Core.Path.{sym, ◌∙◌}
use native.Mathlib.Omega.{arith}
use lib.ListN.{length}
use Rattle.image.specs.Sets.{set_of}
use Rattle.layout.proofs.Image.{valid-in_range}
use Rattle.table.proofs.Compared.{table_small, short_table, other_states, other_symbols, compared}
use Rattle.table.proofs.compare.holds.Goals.{After-symbols-s}
use Rattle.table.proofs.compare.holds.Goals as goal

-- the table's words are few
small : (c : After-symbols-s)
    → 2 + length c.args.trie.now + length c.args.trie.now * c.symbols-s.result ≤ 16964
small c =
    table_small (set_of c.args.rooted.image) c.args.table.now c.requires.nodes c.symbols-s.ensures
    (valid-in_range c.args.rooted.image.bytes.now c.args.rooted.image.valid)

pub overflow_mul-end : goal.overflow_mul-end
overflow_mul-end c = omega (arith, small c)

pub overflow_add-end : goal.overflow_add-end
overflow_add-end c = omega (arith, small c)

pub returns-then-table-end : goal.returns-then-table-end
returns-then-table-end c =
    short_table (set_of c.args.rooted.image) c.args.table.now c.requires.nodes c.symbols-s.ensures c.if-table-end.true

pub returns-then-from-n : goal.returns-then-from-n
returns-then-from-n c =
    other_states (set_of c.args.rooted.image) c.args.table.now c.requires.nodes c.symbols-s.ensures
    (λ e. c.if-from-n.true (c.from.ensures ∙ e))

pub returns-then-from-s : goal.returns-then-from-s
returns-then-from-s c =
    other_symbols (set_of c.args.rooted.image) c.args.table.now c.requires.nodes c.symbols-s.ensures
    (λ e. c.if-from-s.true (c.from-2.ensures ∙ e))

pub returns : goal.returns
returns c =
    compared (set_of c.args.rooted.image) c.args.table.now c.requires.nodes c.symbols-s.ensures
    (valid-in_range c.args.rooted.image.bytes.now c.args.rooted.image.valid) c.if-table-end.false
    (sym c.from.ensures ∙ c.if-from-n.false) (sym c.from-2.ensures ∙ c.if-from-s.false)
    c.states_hold.result c.states_hold.ensures
