use Rattle.std.proofs.Common.{◌*◌, ◌≡◌, length, Ok}
use Rattle.machine.specs.Areas.{document_capacity}
use Rattle.monitor.specs.Lent.{lent}
use Rattle.calls.proofs.Playing.{Playing}
use Rattle.calls.proofs.made_all.Given as goal

abbrev pub invariant-loop-pair : goal.invariant-loop-pair
invariant-loop-pair l = record {
  playing : Playing document_capacity l.image l.table (lent l.fn.begun l.initial.bytes l.initial.words) l.numbers
      (lent l.played.head l.bytes l.words) l.played.accepted l.played.counts (2 * l.pair-index);
  answer : l.played.answer ≡ Ok tt;
  bytes : length l.bytes ≡ length l.initial.bytes;
  words : length l.words ≡ length l.initial.words;
}
