-- `trie::walk` meets its contract. After some symbols it stands at the node of these, and their prefixes have nodes.
use Prim.Native.Nat.{◌<◌}
use mathlib.Core.Path.{refl, ◌∙◌}
use native.Mathlib.Omega.{arith}
use native.Mathlib.Numerals.{add-one}
use lib.ListN.{length}
use Rattle.rewriting.specs.Rules.{rule}
use Rattle.image.specs.Sets.{set_of}
use Rattle.layout.proofs.Image.{valid-in_range}
use Rattle.trie.proofs.Walking.{walk_first, walk_room, walk_next, walk_last, left_inside, part_length, within_left, symbol_at}
use Rattle.trie.proofs.walk.Goals.{In-loop-a}
use Rattle.trie.proofs.walk.Goals as goal

pub overflow_add-a-items : goal.overflow_add-a-items
overflow_add-a-items c =
    omega (arith, left_inside _ c.args.rooted.image.valid _ _ _ c.requires.rule.0 c.requires.rule.1 c.left_length-long.ensures)

pub slice_bounds-a-items-end : goal.slice_bounds-a-items-end
slice_bounds-a-items-end c =
    left_inside _ c.args.rooted.image.valid _ _ _ c.requires.rule.0 c.requires.rule.1 c.left_length-long.ensures

pub loop-a-init : goal.loop-a-init
loop-a-init c = walk_first _ _ _ _ c.requires.trie.0 c.requires.rule.0 _ c.requires.nodes refl _ c.first_node-q.ensures

-- there are more symbols
more : (c : In-loop-a) → c.loop-a.a-index < length (rule (set_of c.args.rooted.image).rules c.args.i).left
more c =
    within_left _ c.args.rooted.image.valid _ _ _ c.requires.rule.0 c.requires.rule.1 c.left_length-long.ensures _
    c.loop-a-test.true

pub follow-w-requires : goal.follow-w-requires
follow-w-requires c =
    let room =
    walk_room _ _ _ (valid-in_range _ c.args.rooted.image.valid) c.requires.trie.1 c.requires.rule.0 _ _ _ _ c.loop-a.invariant
    (more (goal.at.follow-w-requires c).In-loop-a)
    in record {
      links = rw c.args.rooted.rooted room.linked;
      node = (room.node, room.few);
      room = room.room;
      counts = (room.shallow, room.narrow);
    }

pub loop-a-preserved : goal.loop-a-preserved
loop-a-preserved c =
    let next = more (goal.at.loop-a-preserved c).In-loop-a in
    let at = symbol_at _ c.args.rooted.image.valid _ _ _ c.requires.rule.0 c.requires.rule.1 c.left_length-long.ensures _ next in
    rw add-one
    (walk_next _ _ _ (valid-in_range _ c.args.rooted.image.valid) c.requires.trie.1 c.requires.rule.0 _ _ _ _ c.loop-a.invariant
    next _
    (c.from.ensures ∙ at) _ _ (rw c.args.rooted.rooted at c.follow-w.ensures))

pub returns : goal.returns
returns c =
    let all = part_length _ c.args.rooted.image.valid _ _ _ c.requires.rule.0 c.requires.rule.1 c.left_length-long.ensures in
    let far = rw (all, c.left_length-long.ensures) at c.loop-a-test.false in
    (walk_last _ _ _ c.requires.rule.0 _ _ _ _ c.loop-a.invariant far, c.loop-a.invariant.size)
