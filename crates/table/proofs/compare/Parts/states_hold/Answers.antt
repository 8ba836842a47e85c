-- `table::compare::Parts::states_hold` meets its contract. The loop's invariant: the root, the mark and every state below q have
-- passed, and the trie is as it was but for their failure states.
use Prim.Native.Nat.{◌<◌}
use mathlib.Core.Path.{◌≡◌, refl, sym, ap, ◌∙◌}
use mathlib.Core.Bool.{not}
use native.Mathlib.Omega.{arith}
use lib.ListN.{length, length-set}
use Rattle.image.specs.Sets.{set_of}
use Rattle.layout.proofs.Image.{valid-in_range}
use Rattle.table.proofs.CheckLoop.{
  Begun,
  root_asks,
  mark_asks,
  wrong_root,
  wrong_mark,
  checking_first,
  checking_end,
  node_room,
  led_asks,
  not_led,
  failure_asks,
  no_failure,
  no_state,
  state_asks,
  checking_more,
}
use Rattle.table.proofs.compare.Parts.states_hold.Goals.{Start, Else-f-n, then-root-gt0+else-not-mark_holds, else-root-gt0}
use Rattle.table.proofs.compare.Parts.states_hold.Goals as goal

-- what is known when the check begins
begun : (c : Start)
    → Begun (set_of c.args.self.rooted.image) c.args.trie.now c.args.self.matches.now c.args.self.rows.now
    (length c.args.trie.now)
    c.args.self.width c.args.self.rooted.root
begun c =
    let self = c.args.self in
    let words : length c.args.trie.now ≡ length self.matches.now = c.requires.nodes ∙ sym self.words in
    record {
      in_range_lem = valid-in_range self.rooted.image.bytes.now self.rooted.image.valid;
      all = c.requires.nodes;
      width = self.wide;
      is-root = self.rooted.rooted;
      trie = c.requires.trie;
      owned = c.requires.owned;
      words = words;
      lines = rw (words, ← self.wide) self.lines;
    }

-- the node's last word stands in the trie
node_of : (c : Else-f-n)
    → c.loop-q.q < length c.loop-q.trie
node_of c =
    node_room c.loop-q.invariant.1 c.loop-q-test.true

pub root_holds-requires : goal.root_holds-requires
root_holds-requires c =
    let s = (goal.at.root_holds-requires c).Start in
    root_asks (begun s)

pub returns-then-not-root_holds : goal.returns-then-not-root_holds
returns-then-not-root_holds c =
    let s = (goal.at.returns-then-not-root_holds c).Start in
    wrong_root (begun s) c.root_holds.result (ap not c.if-not-root_holds.true) c.root_holds.ensures

pub mark_holds-requires : goal.mark_holds-requires
mark_holds-requires c =
    let s = (goal.at.mark_holds-requires c).Start in
    mark_asks (begun s)

pub returns-then-not-mark_holds : goal.returns-then-not-mark_holds
returns-then-not-mark_holds c =
    let s = (goal.at.returns-then-not-mark_holds c).Start in
    wrong_mark (begun s) c.if-root-gt0.true c.mark_holds.result (ap not c.if-not-mark_holds.true)
    c.mark_holds.ensures

pub overflow_step-q : goal.overflow_step-q
overflow_step-q c =
    let s = (goal.at.overflow_step-q c).Start in
    omega arith

pub loop-q-init : goal.loop-q-init
loop-q-init c =
    let s = (goal.at.loop-q-init c).Start in (
      refl,
      checking_first (begun s) c.root_holds.result (ap not c.if-not-root_holds.false) c.root_holds.ensures
          (λ pos. elim c.if-root-gt0.branch [
            | then-root-gt0+else-not-mark_holds w ↦ (w.mark_holds.result, ap not w.if-not-mark_holds.false, w.mark_holds.ensures)
            | else-root-gt0 w ↦ absurd (omega (arith, w.if-root-gt0.false))
          ]) _ refl,
    )

pub led_to-child-requires : goal.led_to-child-requires
led_to-child-requires c =
    let p =
    led_asks c.loop-q.invariant.1 c.loop-q-test.true
    in record { node = p.0; row = p.1 }

pub returns-then-child-q : goal.returns-then-child-q
returns-then-child-q c =
    not_led c.loop-q.invariant.1 c.loop-q-test.true c.led_to-child.ensures c.if-child-q.true

pub failure_of-f-requires : goal.failure_of-f-requires
failure_of-f-requires c =
    let p =
    failure_asks c.loop-q.invariant.1 c.loop-q-test.true
    in record { node = p.0; up = p.1.0; row = p.1.1 }

pub returns-then-f-n : goal.returns-then-f-n
returns-then-f-n c =
    no_failure c.loop-q.invariant.1 c.loop-q-test.true c.failure_of-f.ensures c.if-f-n.true

pub overflow_cast-trie : goal.overflow_cast-trie
overflow_cast-trie c =
    omega (arith, c.if-f-n.false, c.loop-q.invariant.1.few)

pub offset_bounds-trie-q : goal.offset_bounds-trie-q
offset_bounds-trie-q c =
    omega (arith, node_of c)

pub bounds-trie-q : goal.bounds-trie-q
bounds-trie-q c =
    omega (arith, node_of c)

pub state_holds-requires : goal.state_holds-requires
state_holds-requires c =
    let p =
    state_asks c.loop-q.invariant.1 c.loop-q-test.true c.failure_of-f.ensures c.if-f-n.false
    (sym c.led_to-child.ensures ∙ c.if-child-q.false)
    in record { node = p.0; led = p.1; words = (p.2, p.3) }

pub returns-then-not-state_holds : goal.returns-then-not-state_holds
returns-then-not-state_holds c =
    no_state c.loop-q.invariant.1 c.loop-q-test.true c.failure_of-f.ensures
    c.state_holds.result (ap not c.if-not-state_holds.true) c.state_holds.ensures

pub loop-q-preserved : goal.loop-q-preserved
loop-q-preserved c = (
  rw length-set c.loop-q.invariant.0,
  checking_more c.loop-q.invariant.1 c.loop-q-test.true c.failure_of-f.ensures c.if-f-n.false
      c.state_holds.result (ap not c.if-not-state_holds.false) c.state_holds.ensures,
)

pub returns : goal.returns
returns c =
    checking_end c.loop-q.invariant.1 c.loop-q-test.false
