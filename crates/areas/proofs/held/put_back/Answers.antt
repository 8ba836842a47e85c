-- `areas::held::put_back` meets its contract. The loop's invariant: the last `k` symbols are copied, and so many more wait.
use Prim.Native.Nat.{◌+◌, ◌-◌}
use mathlib.Core.Path.{refl}
use native.Mathlib.Omega.{arith}
use lib.ListN.{length, drop}
use Rattle.machine.proofs.Writes.{backing_first, backing_next, backing_length, backing_last, source_back, source_length}
use Rattle.areas.proofs.held.put_back.Goals as goal

pub loop-k-init : goal.loop-k-init
loop-k-init c = (
  omega arith,
  backing_first c.args.bytes.now (length c.args.bytes.now - c.args.waiting)
      (drop c.args.start c.args.image.bytes.now) c.args.n (omega arith) (omega arith)
      (source_length c.args.image.bytes.now c.args.start c.args.n c.requires.source),
)

pub overflow_add-held : goal.overflow_add-held
overflow_add-held c =
    omega (arith, c.loop-k.invariant.0, c.if-n-k.false, c.requires.target)

pub overflow_sub-bytes : goal.overflow_sub-bytes
overflow_sub-bytes c = omega (arith, c.if-n-k.false)

pub overflow_sub-bytes-in-loop-k : goal.overflow_sub-bytes-in-loop-k
overflow_sub-bytes-in-loop-k c = omega (arith, c.if-n-k.false)

pub bounds-image-end : goal.bounds-image-end
bounds-image-end c =
    omega (arith, c.if-n-k.false, c.requires.source)

pub overflow_sub-bytes-in-loop-k-2 : goal.overflow_sub-bytes-in-loop-k-2
overflow_sub-bytes-in-loop-k-2 c =
    omega (arith, c.loop-k.invariant.0, c.if-n-k.false, c.requires.target)

pub bounds-bytes-capacity : goal.bounds-bytes-capacity
bounds-bytes-capacity c =
    omega (arith, c.loop-k.invariant.0, c.if-n-k.false, c.requires.target, backing_length c.loop-k.invariant.1)

pub loop-k-preserved : goal.loop-k-preserved
loop-k-preserved c = (
  omega (arith, c.loop-k.invariant.0),
  backing_next _ _ c.loop-k.invariant.1 (omega (arith, c.if-n-k.false)) (omega (arith, c.loop-k.invariant.0))
      (source_back c.args.image.bytes.now c.args.start c.args.n c.loop-k.k
      (c.args.start + c.args.n - 1 - c.loop-k.k) refl (omega (arith, c.if-n-k.false))),
)

pub returns-after-loop-k : goal.returns-after-loop-k
returns-after-loop-k c =
    let k = c.loop-k.invariant.1 in record {
      waiting = omega (arith, c.loop-k.invariant.0, k.few, c.requires.few, c.loop-k-test.false);
      bytes = backing_last k (omega (arith, c.requires.few, c.loop-k-test.false))
          (length c.args.bytes.now - (c.args.waiting + c.args.n)) (omega arith);
    }

pub returns-then-n-k : goal.returns-then-n-k
returns-then-n-k c =
    let k = c.loop-k.invariant.1 in record {
      waiting = omega (arith, c.loop-k.invariant.0, k.few, c.if-n-k.true);
      bytes = backing_last k c.if-n-k.true (length c.args.bytes.now - (c.args.waiting + c.args.n)) (omega arith);
    }
