-- `areas::held::take_off` meets its contract. The loop's invariant: of the left side's symbols `k` are taken off, and the settled
-- ones from
-- `at` on are 0 in both areas.
use Prim.Native.Nat.{◌-◌, ◌≤◌, ◌<◌}
use native.Mathlib.Omega.{arith}
use lib.ListN.{length, set, length-set}
use Rattle.machine.proofs.Writes.{popping_first, popping_next, popping_length}
use Rattle.areas.proofs.held.take_off.Goals.{Else-size-k}
use Rattle.areas.proofs.held.take_off.Goals as goal

-- a symbol is left to be taken off, ..
some_left : (c : Else-size-k) → 1 ≤ c.loop-k.at
some_left c =
    omega (arith, c.loop-k.invariant.0, c.requires.order, c.if-size-k.false)

-- .. and its place is inside both areas
inside_bytes : (c : Else-size-k) → c.loop-k.at - 1 < length c.loop-k.bytes
inside_bytes c =
    let k = c.loop-k.invariant.2 in
    omega (arith, some_left c, k.order, k.inside, popping_length k)

inside_words : (c : Else-size-k) → c.loop-k.at - 1 < length c.loop-k.words
inside_words c =
    let k = c.loop-k.invariant.3 in
    omega (arith, some_left c, k.order, k.inside, popping_length k)

pub loop-k-init : goal.loop-k-init
loop-k-init c = (
  omega arith,
  c.requires.some,
  popping_first (set c.args.bytes.now c.args.first 0) c.args.settled (rw length-set c.requires.bytes),
  popping_first c.args.words.now c.args.settled c.requires.words,
)

pub overflow_sub-at : goal.overflow_sub-at
overflow_sub-at c = some_left (goal.at.overflow_sub-at c).Else-size-k

pub bounds-bytes-at : goal.bounds-bytes-at
bounds-bytes-at c = inside_bytes (goal.at.bounds-bytes-at c).Else-size-k

pub offset_bounds-words-at : goal.offset_bounds-words-at
offset_bounds-words-at c = omega (arith, inside_words (goal.at.offset_bounds-words-at c).Else-size-k)

pub bounds-words-at : goal.bounds-words-at
bounds-words-at c = inside_words (goal.at.bounds-words-at c).Else-size-k

pub loop-k-preserved : goal.loop-k-preserved
loop-k-preserved c =
    let k = c.loop-k.invariant in
    let left = some_left (goal.at.loop-k-preserved c).Else-size-k in
    (omega (arith, k.0, left), omega (arith, c.if-size-k.false), popping_next k.2 left, popping_next k.3 left)

pub returns-after-loop-k : goal.returns-after-loop-k
returns-after-loop-k c =
    let k = c.loop-k.invariant in record {
      kept = omega (arith, k.0, k.1, c.requires.few, c.loop-k-test.false);
      bytes = k.2.done;
      words = k.3.done;
    }

pub returns-then-size-k : goal.returns-then-size-k
returns-then-size-k c =
    let k = c.loop-k.invariant in record {
      kept = omega (arith, k.0, k.1, c.if-size-k.true);
      bytes = k.2.done;
      words = k.3.done;
    }
