use lib.ListN.{length}
use Rattle.machine.specs.Play.{offers_of}
use Rattle.monitor.specs.Lent.{lent}
use Rattle.machine.proofs.Offering.{Offering}
use Rattle.monitor.proofs.Head.in_turn.Given as goal

abbrev pub invariant-loop-k : goal.invariant-loop-k
invariant-loop-k l =
    Offering (length l.initial.bytes) l.rules.table.image.bytes.now l.rules.table.words.now
    (lent l.initial.head l.initial.bytes l.initial.words) (offers_of l.events l.fuel) l.initial.answers
    (lent l.head l.bytes l.words)
    l.answers l.counts l.k
