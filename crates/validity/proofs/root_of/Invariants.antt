-- What the contents from here on announce is `unread` exactly when what all of them announce is what follows them, and
-- `root` is 1 where a rule so far has the mark, else 0.
use Rattle.std.proofs.Common.{◌≡◌, ◌-◌, ◌*◌, ◌/◌, length, drop, cond}
use Rattle.layout.specs.ImageCheck.{announces, marks_in}
use Rattle.validity.proofs.root_of.Given as goal

abbrev pub invariant-loop-left : goal.invariant-loop-left
invariant-loop-left l =
    let n = length l.contents / 4 in record {
      announced : announces l.verdicts (n - l.left-index) (drop (4 * l.left-index) l.contents) l.unread
          ≡ announces l.verdicts n l.contents l.symbols;
      marked : l.root ≡ cond (marks_in l.left-index l.contents) 1 0;
    }
