-- `Call::events` meets its contract: an accepted offer has one event, all else none.
use Rattle.layout.specs.Refusals.{refused_by, numbered}
use Rattle.machine.specs.Play.{events_of}
use Rattle.calls.proofs.Numbers.{no_event}
use Rattle.calls.proofs.Call.events.Goals as goal

pub returns-in-Offer-Ok : goal.returns-in-Offer-Ok
unfolding refused_by events_of
returns-in-Offer-Ok c = rw (c.in-Offer-Ok.is-0, c.in-Offer-Ok.is-1)

pub returns-in-Offer-Err : goal.returns-in-Offer-Err
unfolding refused_by events_of
returns-in-Offer-Err c = rw (c.in-Offer-Err.is-0, c.in-Offer-Err.is-1)

pub returns-in-GoOn-default : goal.returns-in-GoOn-default
unfolding refused_by events_of
returns-in-GoOn-default c = rw c.in-GoOn-default.is-0 (no_event (refused_by (numbered c.args.answer)) _)
