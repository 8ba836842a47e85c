-- `areas::held::index` meets its contract. The loop's invariant: the rules before `i` have their starts.
use mathlib.Core.Path.{◌≡◌, ◌∙◌}
use native.Mathlib.Omega.{arith}
use lib.ListN.{length, take}
use lib.Seq.{length-take-le}
use Rattle.layout.specs.Image.{read}
use Rattle.layout.proofs.Places.{contents_within}
use Rattle.machine.proofs.Indexed.{indexing_first, start_small, left_small, indexing_next, indexing_last}
use Rattle.areas.proofs.held.index.Goals.{Start, After-rules-rules}
use Rattle.areas.proofs.held.index.Goals as goal

-- as many places are written as there are rules
places :
    (c : After-rules-rules) → length (take c.rules-rules.result c.args.starts.now) ≡ length (read c.args.image.bytes.now).rules
places c =
    length-take-le c.rules-rules.result c.args.starts.now (rw c.rules-rules.ensures c.requires) ∙ c.rules-rules.ensures

pub overflow_mul-at : goal.overflow_mul-at
overflow_mul-at c =
    omega (arith, contents_within c.args.image.bytes.now c.args.image.valid)

pub overflow_add-at : goal.overflow_add-at
overflow_add-at c =
    omega (arith, contents_within c.args.image.bytes.now c.args.image.valid)

pub loop-i-init : goal.loop-i-init
loop-i-init c =
    let s = (goal.at.loop-i-init c).After-rules-rules in
    indexing_first c.args.image.bytes.now _ (omega (arith, places s)) c.rules-rules.result c.rules-rules.ensures

pub overflow_add-start : goal.overflow_add-start
overflow_add-start c =
    let s = (goal.at.overflow_add-start c).After-rules-rules in
    let turn = c.loop-i in
    omega (
      arith,
      left_small c.args.image.bytes.now turn.start-items turn.at turn.i c.left_length.result c.args.image.valid turn.invariant
          (rw (places s) at c.loop-i-test.true) c.left_length.ensures,
    )

pub overflow_cast-start : goal.overflow_cast-start
overflow_cast-start c =
    let s = (goal.at.overflow_cast-start c).After-rules-rules in
    let turn = c.loop-i in
    omega (
      arith,
      left_small c.args.image.bytes.now turn.start-items turn.at turn.i c.left_length.result c.args.image.valid turn.invariant
          (rw (places s) at c.loop-i-test.true) c.left_length.ensures,
    )

pub overflow_add-at-in-loop-i : goal.overflow_add-at-in-loop-i
overflow_add-at-in-loop-i c =
    let s = (goal.at.overflow_add-at-in-loop-i c).After-rules-rules in
    let turn = c.loop-i in
    omega (
      arith,
      c.body_length-at.ensures,
      start_small c.args.image.bytes.now turn.start-items turn.at turn.i c.args.image.valid turn.invariant
          (rw (places s) at c.loop-i-test.true),
    )

pub loop-i-preserved : goal.loop-i-preserved
loop-i-preserved c =
    let s = (goal.at.loop-i-preserved c).After-rules-rules in
    let turn = c.loop-i in
    indexing_next c.args.image.bytes.now turn.start-items turn.at turn.i c.left_length.result c.body_length-at.result
    turn.invariant
    (rw (places s) at c.loop-i-test.true) c.left_length.ensures c.body_length-at.ensures

pub returns : goal.returns
returns c =
    let s = (goal.at.returns c).After-rules-rules in
    let turn = c.loop-i in
    indexing_last c.args.image.bytes.now turn.start-items _ turn.at turn.i turn.invariant (rw (places s) at c.loop-i-test.false)
