-- What play gives back, for everything that may be lent to it, and demand 3 of the code's own values.
use Rattle.std.specs.Prelude.{ℕ, ◌+◌, ◌<◌, ◌≡◌, true, List, [], ◌∷◌, length, Option, None, Some}
use Rattle.rewriting.specs.Lists.{prefix}
use Rattle.layout.specs.Image.{read, valid}
use Rattle.layout.specs.Refusals.{Check, refusal, refused_by, numbered}
use Rattle.layout.specs.Table.{table_of}
use Rattle.machine.specs.declared.Counts.{Counts}
use Rattle.machine.specs.State.{empty}
use Rattle.machine.specs.Run.{no_counts}
use Rattle.machine.specs.Areas.{Monitor, head_of}
use Rattle.machine.specs.Calls.{Call, sized, fresh_of}
use Rattle.machine.specs.Lent.{monitor_in}
use Rattle.monitor.specs.Lent.{lent}
use Rattle.machine.specs.Play.{Log, no_calls, play}
use Rattle.machine.specs.Promise.{Agrees, Promise}
use Rattle.calls.specs.declared.Played.{Played}
use Rattle.calls.specs.Encoding.{encodes, decoded_calls}

-- the refusal of the list, if it is refused; the monitor that the calls leave, the number of accepted events, the sums
pub record PlayEnded : Type 0 where
  pub refused : Option ℕ
  pub monitor : Monitor
  pub accepted : ℕ
  pub counts : Counts

-- what the code gives back, with the areas at its exit
abbrev pub played_from : Played → List ℕ → List ℕ → PlayEnded
played_from r bytes words =
    record {
      refused = refused_by (numbered r.answer);
      monitor = lent r.head bytes words;
      accepted = r.accepted;
      counts = r.counts;
    }

-- a list that was played
unfoldable pub logged : Log → PlayEnded
logged g =
    record { refused = None; monitor = g.monitor; accepted = length g.events; counts = g.counts }

-- in order: 30, the numbers are no list of calls; 10, an area of another length
unfoldable pub play_checks : ℕ → List ℕ → List ℕ → List ℕ → List Check
play_checks capacity bytes words numbers = (encodes numbers, 30) ∷ (sized capacity bytes words, 10) ∷ []

-- a refusal changes nothing lent, and has the empty head beside it
unfoldable pub play_ended : Option ℕ → List ℕ → List ℕ → Log → PlayEnded
play_ended (Some n) bytes words g =
    record { refused = Some n; monitor = monitor_in (head_of empty) bytes words; accepted = 0; counts = no_counts }
play_ended None bytes words g = logged g

-- the calls that the numbers are, from the head and areas that fresh leaves
unfoldable pub play_of : ℕ → List ℕ → List ℕ → List ℕ → List ℕ → List ℕ → PlayEnded
play_of capacity image table bytes words numbers =
    play_ended (refusal (play_checks capacity bytes words numbers)) bytes words
    (play capacity image table (no_calls (fresh_of capacity bytes words).monitor) (decoded_calls numbers))

-- the log g with the monitor and the sums that the code gave back
abbrev pub gave_back : Log → Played → List ℕ → List ℕ → Log
gave_back g r bytes words =
    record { monitor = lent r.head bytes words; events = g.events; answers = g.answers; counts = r.counts }

-- Demand 3 of what the code gave back, r with the areas bytes' and words', for the calls that it made from the head and areas
-- that fresh leaves.
pub record DemandThreeOf (capacity : ℕ) (image table bytes words : List ℕ) (calls : List Call) (r : Played)
    (bytes' words' : List ℕ) : Type 0 where
  -- The list's log: its monitor, its number of accepted events and its sums are the code's.
  pub log : Log
  pub logs : play capacity image table (no_calls (fresh_of capacity bytes words).monitor) calls ≡ log
  pub given_back : log ≡ gave_back log r bytes' words'
  pub accepted : length log.events ≡ r.accepted
  -- For a valid image and its table, the string, the verdict and the sums that the code gave back are the plain rewriter's
  -- on the accepted events.
  pub agrees : valid image ≡ true → prefix (table_of (read image)) table ≡ true
      → Agrees (read image).rules (gave_back log r bytes' words')
  -- And all else that is promised of the list and of each of its calls.
  pub promise : Promise (valid image) (prefix (table_of (read image)) table) capacity image table
      (fresh_of capacity bytes words).monitor calls

-- the accepted events and the sums, with those of one call more, fit 64 bits
pub record Within (a e : ℕ) (c d : Counts) : Type 0 where
  pub accepted : a + e < 18446744073709551616
  pub steps : c.steps + d.steps < 18446744073709551616
  pub rewrites : c.rewrites + d.rewrites < 18446744073709551616
  pub put : c.put + d.put < 18446744073709551616
