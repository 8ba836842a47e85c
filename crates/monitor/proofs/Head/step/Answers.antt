-- `monitor::Head::step` meets its contract: the symbol is settled, or its rule rewrites.
use Prim.Native.Nat.{ℕ, ◌-◌}
use mathlib.Core.Path.{◌≡◌, refl, ◌∙◌}
use mathlib.Core.List.{List, ◌∷◌}
use native.Mathlib.Omega.{arith}
use lib.ListN.{length, get_or, length-set}
use Rattle.layout.specs.Image.{read}
use Rattle.machine.specs.Areas.{Monitor, state_of}
use Rattle.monitor.specs.Lent.{active}
use Rattle.machine.proofs.Stepping.{Held, held, waits, settled_step}
use Rattle.machine.proofs.Looking.{no_match_lem, some_match, symbol-is, next_asks, next-is, next_small, match_asks, match_is}
use Rattle.monitor.proofs.Head.step.Goals.{Start}
use Rattle.monitor.proofs.Head.step.Goals as goal

-- what is lent

abbrev given : Start → Monitor
given s = active s.args.self s.args.bytes.now s.args.words.now

facts : (s : Start) → Held (read s.args.rules.table.image.bytes.now) (length s.args.bytes.now) (given s)
facts s = held (length s.args.bytes.now) s.args.rules.table.image.bytes.now s.args.rules.table.words.now (given s) s.requires.lent

-- a symbol waits

one : (s : Start) → (a : ℕ) × (q : List ℕ) × ((state_of (given s)).waiting ≡ a ∷ q)
one s = waits (read s.args.rules.table.image.bytes.now) (length s.args.bytes.now) (given s) (facts s) s.requires.waiting

symbol : (s : Start) → get_or s.args.bytes.now (length s.args.bytes.now - s.args.self.waiting) 0 ≡ (one s).0
symbol s =
    symbol-is (length s.args.bytes.now) s.args.rules.table.image.bytes.now s.args.rules.table.words.now (given s) s.requires.lent
    (one s).0 (one s).1 (one s).2 _ refl

pub overflow_sub-first : goal.overflow_sub-first
overflow_sub-first c =
    let s = (goal.at.overflow_sub-first c).Start in
    omega (arith, facts s, c.requires.waiting)

pub bounds-bytes-first : goal.bounds-bytes-first
bounds-bytes-first c =
    let s = (goal.at.bounds-bytes-first c).Start in
    omega (arith, facts s, c.requires.waiting)

pub word_before-q-requires : goal.word_before-q-requires
word_before-q-requires c =
    let s = (goal.at.word_before-q-requires c).Start in
    omega (arith, facts s, c.requires.waiting)

pub next-next-requires : goal.next-next-requires
next-next-requires c =
    let s = (goal.at.next-next-requires c).Start in
    rw (c.args.rules.table.rows_first, c.args.rules.table.row_width)
    (next_asks (length c.args.bytes.now) c.args.rules.table.image.bytes.now c.args.rules.table.words.now (given s) c.requires.lent
    (one s).0
    (one s).1 (one s).2 _ _ c.word_before-q.ensures (c.from.ensures ∙ symbol s)).1

pub match_word-matched-requires : goal.match_word-matched-requires
match_word-matched-requires c =
    let s = (goal.at.match_word-matched-requires c).Start in
    match_asks (length c.args.bytes.now) c.args.rules.table.image.bytes.now c.args.rules.table.words.now (given s) c.requires.lent
    (one s).0
    (one s).1 (one s).2 _
    (next-is (length c.args.bytes.now) c.args.rules.table.image.bytes.now c.args.rules.table.words.now (given s) c.requires.lent
    (one s).0
    (one s).1 (one s).2 _ _ _ c.word_before-q.ensures (c.from.ensures ∙ symbol s)
    (rw (c.args.rules.table.rows_first, c.args.rules.table.row_width) at c.next-next.ensures))

pub rewrite-requires-clause-next : goal.rewrite-requires-clause-next
rewrite-requires-clause-next c =
    let s = (goal.at.rewrite-requires-clause-next c).Start in
    let image = c.args.rules.table.image.bytes.now in
    let table = c.args.rules.table.words.now in
    let capacity = length c.args.bytes.now in (
      (one s).0,
      (one s).1,
      (one s).2,
      some_match _ _
          (match_is capacity image table (given s) c.requires.lent (one s).0 (one s).1 (one s).2 _
          (next-is capacity image table (given s) c.requires.lent (one s).0 (one s).1 (one s).2 _ _ _
          c.word_before-q.ensures (c.from.ensures ∙ symbol s)
          (rw (c.args.rules.table.rows_first, c.args.rules.table.row_width) at c.next-next.ensures)) _
          c.match_word-matched.ensures) c.if-matched-ne0.true,
    )

pub bounds-bytes-first-2 : goal.bounds-bytes-first-2
bounds-bytes-first-2 c =
    let s = (goal.at.bounds-bytes-first-2 c).Start in
    omega (arith, facts s, c.requires.waiting)

pub bounds-bytes-settled : goal.bounds-bytes-settled
bounds-bytes-settled c =
    let s = (goal.at.bounds-bytes-settled c).Start in
    rw length-set (omega (arith, facts s, c.requires.waiting))

pub overflow_cast-words : goal.overflow_cast-words
overflow_cast-words c =
    let s = (goal.at.overflow_cast-words c).Start in
    let image = c.args.rules.table.image.bytes.now in
    let table = c.args.rules.table.words.now in
    let capacity = length c.args.bytes.now in
    omega (
      arith,
      next_small capacity image table (given s) c.requires.lent (one s).0 (one s).1 (one s).2 _
          (next-is capacity image table (given s) c.requires.lent (one s).0 (one s).1 (one s).2 _ _ _
          c.word_before-q.ensures (c.from.ensures ∙ symbol s)
          (rw (c.args.rules.table.rows_first, c.args.rules.table.row_width) at c.next-next.ensures)),
    )

pub offset_bounds-words-settled : goal.offset_bounds-words-settled
offset_bounds-words-settled c =
    let s = (goal.at.offset_bounds-words-settled c).Start in
    omega (arith, facts s, c.requires.waiting)

pub bounds-words-settled : goal.bounds-words-settled
bounds-words-settled c =
    let s = (goal.at.bounds-words-settled c).Start in
    omega (arith, facts s, c.requires.waiting)

pub overflow_add-result : goal.overflow_add-result
overflow_add-result c =
    let s = (goal.at.overflow_add-result c).Start in
    omega (arith, facts s, c.requires.waiting)

pub returns-clause-tried : goal.returns-clause-tried
returns-clause-tried c =
    let s = (goal.at.returns-clause-tried c).Start in
    let bytes = c.args.bytes.now in
    let image = c.args.rules.table.image.bytes.now in
    let table = c.args.rules.table.words.now in
    let next = next-is (length bytes) image table (given s) c.requires.lent (one s).0 (one s).1 (one s).2 _ _ _
    c.word_before-q.ensures (c.from.ensures ∙ symbol s)
    (rw (c.args.rules.table.rows_first, c.args.rules.table.row_width) at c.next-next.ensures) in
    rw (symbol s)
    (settled_step (read image) (length bytes) (given s) (facts s) (one s).0 (one s).1 (one s).2
    (no_match_lem _ _
    (match_is (length bytes) image table (given s) c.requires.lent (one s).0 (one s).1 (one s).2 _ next _
    c.match_word-matched.ensures)
    c.if-matched-ne0.false) _ _ refl next)
