-- `Call::made` meets its contract: offer and go on are the two calls.
use Rattle.machine.specs.Calls.{offer_of, go_on_of}
use Rattle.calls.proofs.Call.made.Goals as goal

pub returns-in-Offer : goal.returns-in-Offer
unfolding offer_of
returns-in-Offer c = rw c.in-Offer.is c.offer.ensures

pub returns-in-GoOn : goal.returns-in-GoOn
unfolding go_on_of
returns-in-GoOn c = rw c.in-GoOn.is c.go_on.ensures
