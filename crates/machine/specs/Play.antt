-- Lists of calls: "A list of calls holds offers and goes-on in any order, refused ones among them, and may be empty."
use Rattle.std.specs.Prelude.{ℕ, List, [], ◌∷◌, ◌++◌, map, Option, None, Some, Result}
use Rattle.machine.specs.declared.Answer.{Answer}
use Rattle.machine.specs.declared.Counts.{Counts}
use Rattle.machine.specs.Run.{no_counts, plus}
use Rattle.machine.specs.Areas.{Monitor, state_of}
use Rattle.machine.specs.Calls.{Call, Offer, GoOn, Outcome, call_of}
use Rattle.layout.specs.Refusals.{refused_by}

-- the string that a monitor holds: "settled, then waiting"
unfoldable pub string_of : Monitor → List ℕ
string_of m = (state_of m).settled ++ (state_of m).waiting

-- A list of calls so far: the monitor that it leaves, the accepted events, each call's answer, and the sums of the counts
-- that the calls reported.
pub record Log : Type 0 where
  pub monitor : Monitor
  pub events : List ℕ
  pub answers : List (Result Answer ℕ)
  pub counts : Counts

-- nothing called yet
unfoldable pub no_calls : Monitor → Log
no_calls m = record { monitor = m; events = []; answers = []; counts = no_counts }

-- "A call that returns no refusal is accepted; if it is an offer, so is its event."
unfoldable pub events_of : Option ℕ → Call → List ℕ
events_of (Some n) c = []
events_of None (Offer event fuel) = event ∷ []
events_of None (GoOn fuel) = []

-- the log g with the call c and its outcome o
unfoldable pub logged : Log → Call → Outcome → Log
logged g c o =
    record {
      monitor = o.monitor;
      events = g.events ++ events_of (refused_by o.answer) c;
      answers = g.answers ++ o.answer ∷ [];
      counts = plus g.counts o.counts;
    }

-- "Each call gets the head and areas that the last one left, with one image and table"
unfoldable pub play : ℕ → List ℕ → List ℕ → Log → List Call → Log
play capacity image table g [] = g
play capacity image table g (c ∷ calls) =
    play capacity image table (logged g c (call_of capacity image table g.monitor c)) calls

-- the offers of a batch, as calls
unfoldable pub offers_of : List ℕ → ℕ → List Call
offers_of events fuel = map (λ event. Offer event fuel) events
