-- `Walk::next` meets its contract: the name that is offered is the first from its place on.
use mathlib.Core.Path.{sym, ◌∙◌}
use native.Mathlib.Omega.{arith}
use borrow.Author.Rules.{part_to_end}
use Rattle.report.specs.Lent.{watched}
use Rattle.report.proofs.Walking.{
  turn_place_in,
  turn_some_in,
  no_byte,
  some_byte,
  run_inside,
  run-bytes,
  next_long,
  next_end,
  next-none,
  next-some,
  cleared_area,
  turn_nothing_in,
}
use Rattle.report.proofs.Walk.next.Goals as goal

pub returns-then-input-gt-INPUT_BYTES-clause-turn : goal.returns-then-input-gt-INPUT_BYTES-clause-turn
returns-then-input-gt-INPUT_BYTES-clause-turn c =
    turn_nothing_in _ c.args.self c.args.rules c.args.bytes.now c.args.words.now c.args.line.now c.clear.new.self
    (next_long _ _ _ c.if-input-gt-INPUT_BYTES.true) c.clear.ensures.line

pub returns-in_err-rest-clause-turn : goal.returns-in_err-rest-clause-turn
returns-in_err-rest-clause-turn c =
    rw c.from_residual.ensures
    (turn_nothing_in _ c.args.self c.args.rules c.args.bytes.now c.args.words.now c.args.line.now c.clear.new.self
    (next_end _ _ _ (grind (arith, c.in_err-rest.ensures.lookup.0))) c.clear.ensures.line)

pub returns-then-is_empty-clause-turn : goal.returns-then-is_empty-clause-turn
returns-then-is_empty-clause-turn c =
    turn_nothing_in _ c.args.self c.args.rules c.args.bytes.now c.args.words.now c.args.line.now c.clear.new.self
    (next-none c.args.input.now c.args.self.at _ _ c.first_run-run.ensures _
    (c.in_ok-rest.ensures.lookup.0.2 ∙ part_to_end c.args.input.now c.args.self.at) c.if-input-gt-INPUT_BYTES.false
    (no_byte _ _ (sym c.is_empty.ensures ∙ c.if-is_empty.true)))
    c.clear.ensures.line

pub overflow_add-end : goal.overflow_add-end
overflow_add-end c =
    omega (
      arith,
      run_inside c.args.input.now c.args.self.at _ _ c.first_run-run.ensures,
      c.in_ok-rest.ensures.lookup.0.3,
    )

pub slice_bounds-named-end : goal.slice_bounds-named-end
slice_bounds-named-end c = run_inside c.args.input.now c.args.self.at _ _ c.first_run-run.ensures

pub returns-clause-turn : goal.returns-clause-turn
returns-clause-turn c =
    let input = c.args.input.now in
    let self = c.args.self in
    let w = watched self c.args.rules c.args.bytes.now c.args.words.now in
    let next = next-some input self.at _ _ c.first_run-run.ensures w
    (c.in_ok-rest.ensures.lookup.0.2 ∙ part_to_end input self.at) c.if-input-gt-INPUT_BYTES.false
    (some_byte _ _ (sym c.is_empty.ensures ∙ c.if-is_empty.false)) in
    let bytes = run-bytes input self.at _ _ c.first_run-run.ensures in
    let there = cleared_area c.args.line.now c.clear.new.self c.clear.ensures.line in
    rw next (rw (bytes, there) at c.named.ensures.turn)

pub returns-clause-onward : goal.returns-clause-onward
returns-clause-onward c =
    let place = turn_place_in _ _ _ _ _ _ c.named.new.bytes c.named.new.words c.named.new.line c.named.ensures.turn in
    let inside = run_inside c.args.input.now c.args.self.at _ _ c.first_run-run.ensures in
    let run = c.first_run-run.result in
    let some = some_byte run.start run.end (sym c.is_empty.ensures ∙ c.if-is_empty.false) in (
      turn_some_in _ _ _ _ _ _ c.named.new.bytes c.named.new.words c.named.new.line c.named.ensures.turn,
      (omega (arith, place, some), omega (arith, place, inside, c.in_ok-rest.ensures.lookup.0.3)),
    )
