-- `areas::described::settled_right` meets its contract. The loop's invariant: the symbols before `i` and their words have passed.
use mathlib.Core.Path.{sym, ap, ◌∙◌}
use mathlib.Core.Bool.{not}
use native.Mathlib.Omega.{arith}
use Rattle.rewriting.proofs.Ranges.{ranges}
use Rattle.layout.specs.Image.{read}
use Rattle.layout.proofs.Image.{valid-in_range}
use Rattle.layout.proofs.ImageCheck.{valid_header, valid_room}
use Rattle.machine.proofs.AreaTests.{is-not, is_so}
use Rattle.machine.proofs.SettledTurns.{Turn, settled_none, next_asks, match_asks, other_word, some_match, settled_more}
use Rattle.machine.proofs.SettledTurns.{settled_all}
use Rattle.areas.proofs.described.settled_right.Goals.{After-from}
use Rattle.areas.proofs.described.settled_right.Goals as goal

pub bounds-table-0 : goal.bounds-table-0
bounds-table-0 c =
    omega (arith, valid_room c.args.table.image.bytes.now c.args.table.image.valid)

pub all_below-requires : goal.all_below-requires
all_below-requires c =
    (valid_header c.args.table.image.bytes.now c.args.table.image.valid).some-symbol

pub returns-then-not-all_below : goal.returns-then-not-all_below
unfolding read
returns-then-not-all_below c =
    λ settled. is-not c.all_below.result c.all_below.ensures (ap not c.if-not-all_below.true) settled.symbols_below

pub loop-i-init : goal.loop-i-init
loop-i-init c =
    settled_none (read c.args.table.image.bytes.now)

pub word_before-q-requires : goal.word_before-q-requires
word_before-q-requires c =
    omega (arith, c.loop-i-test.true, c.requires)

-- the turn of place i
turn_at : (c : After-from)
    → Turn (read c.args.table.image.bytes.now) c.args.table.words.now c.args.table.rows c.args.table.width
    c.args.symbols.now c.args.words.now c.loop-i.i c.word_before-q.result c.from.result
unfolding read
turn_at c =
    record {
      in_range_lem =
          ranges (read c.args.table.image.bytes.now) (valid-in_range c.args.table.image.bytes.now c.args.table.image.valid);
      table = c.args.table.right;
      row_first = c.args.table.rows_first;
      row_width = c.args.table.row_width;
      symbols_below = is_so c.all_below.result c.all_below.ensures (ap not c.if-not-all_below.false);
      more = c.loop-i-test.true;
      fits = omega (arith, c.loop-i-test.true, c.requires);
      so_far = c.loop-i.invariant;
      word = c.word_before-q.ensures;
      symbol = c.from.ensures;
    }

pub next-next-requires : goal.next-next-requires
next-next-requires c = next_asks (turn_at (goal.at.next-next-requires c).After-from)

pub bounds-words-i : goal.bounds-words-i
bounds-words-i c = (turn_at (goal.at.bounds-words-i c).After-from).fits

pub returns-then-from-next : goal.returns-then-from-next
returns-then-from-next c =
    other_word (turn_at (goal.at.returns-then-from-next c).After-from) c.next-next.ensures
    (λ e. c.if-from-next.true (c.from-in-loop-i.ensures ∙ e))

pub match_word-requires : goal.match_word-requires
match_word-requires c =
    match_asks (turn_at (goal.at.match_word-requires c).After-from) c.next-next.ensures

pub returns-then-match_word-ne0 : goal.returns-then-match_word-ne0
returns-then-match_word-ne0 c =
    some_match (turn_at (goal.at.returns-then-match_word-ne0 c).After-from) c.next-next.ensures c.match_word.ensures
    c.if-match_word-ne0.true

pub loop-i-preserved : goal.loop-i-preserved
loop-i-preserved c =
    settled_more (turn_at (goal.at.loop-i-preserved c).After-from) c.next-next.ensures c.match_word.ensures
    (sym c.from-in-loop-i.ensures ∙ c.if-from-next.false) c.if-match_word-ne0.false

pub returns : goal.returns
returns c =
    settled_all (read c.args.table.image.bytes.now) c.args.symbols.now c.args.words.now c.loop-i.i
    c.loop-i-test.false (omega (arith, c.loop-i-test.false, c.requires)) c.loop-i.invariant
