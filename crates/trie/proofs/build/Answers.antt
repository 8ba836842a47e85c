-- `trie::build` meets its contract. After i rules it has the trie of the first i.
use mathlib.Core.Path.{refl, ◌∙◌}
use native.Mathlib.Omega.{arith}
use native.Mathlib.Numerals.{add-one}
use Rattle.rewriting.proofs.Ranges.{ranges}
use Rattle.layout.proofs.Image.{valid-in_range}
use Rattle.layout.proofs.Places.{left_within}
use Rattle.trie.proofs.Building.{build_first, build_next, build_last, followed_room}
use Rattle.trie.proofs.build.Goals as goal

pub overflow_mul-at : goal.overflow_mul-at
overflow_mul-at c =
    omega (arith, c.rules-rules.ensures, ranges _ (valid-in_range _ c.args.rooted.image.valid))

pub overflow_add-at : goal.overflow_add-at
overflow_add-at c =
    omega (arith, c.rules-rules.ensures, ranges _ (valid-in_range _ c.args.rooted.image.valid))

pub loop-i-init : goal.loop-i-init
loop-i-init c =
    build_first _ _ c.requires.0 _ (rw c.rules-rules.ensures refl) _ (rw c.args.rooted.rooted refl)

pub claim-requires : goal.claim-requires
claim-requires c =
    let turn = c.loop-i.invariant in
    let more = rw c.rules-rules.ensures at c.loop-i-test.true in
    let walked = c.walk-w.ensures in
    let room = followed_room _ (valid-in_range _ c.args.rooted.image.valid) _ c.requires.1 _ more _ _ walked.0 in record {
      node = rw (walked.1 ∙ turn.size) room.2;
      rule = room.1;
    }

pub overflow_add-at-in-loop-i : goal.overflow_add-at-in-loop-i
overflow_add-at-in-loop-i c =
    let more = rw c.rules-rules.ensures at c.loop-i-test.true in
    omega (arith, c.body_length-at.ensures, c.loop-i.invariant.place, left_within _ c.args.rooted.image.valid _ more)

pub loop-i-preserved : goal.loop-i-preserved
loop-i-preserved c =
    let turn = c.loop-i.invariant in
    let more = rw c.rules-rules.ensures at c.loop-i-test.true in
    let walked = c.walk-w.ensures in
    let room = followed_room _ (valid-in_range _ c.args.rooted.image.valid) _ c.requires.1 _ more _ _ walked.0 in
    rw add-one
    (build_next _ (valid-in_range _ c.args.rooted.image.valid) _ _ _ _ _ turn more _ _ walked.0
    (rw (walked.1 ∙ turn.size) room.0) _
    c.claim.ensures (c.claim.auto.trie ∙ walked.1 ∙ turn.size) _ c.body_length-at.ensures)

pub returns : goal.returns
returns c =
    build_last _ _ _ _ _ _ c.loop-i.invariant (rw c.rules-rules.ensures at c.loop-i-test.false)
