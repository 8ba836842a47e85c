-- How the code speaks of the definitions of the crate machine: what it is lent, and what it gives back.
use Rattle.std.specs.Prelude.{ℕ, true, false, List, Option, None, Some, option_map, Result, Ok, Err}
use Rattle.monitor.specs.declared.Head.{Head}
use Rattle.monitor.specs.declared.Begun.{Begun}
use Rattle.monitor.specs.declared.Returned.{Returned}
use Rattle.monitor.specs.declared.BatchReturned.{BatchReturned}
use Rattle.monitor.specs.declared.decide.Series.{Series}
use Rattle.monitor.specs.declared.steps.Stepped.{Stepped}
use Rattle.layout.specs.Refusals.{refusal_number, refused_by, number, numbered}
use Rattle.layout.specs.declared.Refusal.{Refusal}
use Rattle.machine.specs.Areas as Areas
use Rattle.machine.specs.Areas.{Monitor}
use Rattle.machine.specs.Calls.{Fresh, Outcome}
use Rattle.machine.specs.Batch.{Batched}
use Rattle.machine.specs.Run.{no_counts}
use Rattle.machine.specs.Lent.{monitor_with, Tried}

-- the head, as the definitions have it
abbrev pub head_in : Head → Areas.Head
head_in head = record { settled = head.settled; waiting = head.waiting; verdict = head.verdict; rule = head.rule }

-- and the head of the code that one of the definitions is
abbrev pub head_out : Areas.Head → Head
head_out head = record { settled = head.settled; waiting = head.waiting; verdict = head.verdict; rule = head.rule }

-- the monitor that is lent
abbrev pub lent : Head → List ℕ → List ℕ → Monitor
lent head bytes words = record { head = head_in head; bytes = bytes; words = words }

-- What fresh, a call and batch gave back, with the areas at their exit.
abbrev pub fresh_from : Begun → List ℕ → List ℕ → Fresh
fresh_from r bytes words = record { refused = refused_by (numbered r.answer); monitor = lent r.head bytes words }

abbrev pub outcome_from : Returned → List ℕ → List ℕ → Outcome
outcome_from r bytes words = record { answer = numbered r.answer; counts = r.counts; monitor = lent r.head bytes words }

-- what stopped a list of offers, as a number: 0 where nothing did
abbrev pub stop_number : Option Refusal → ℕ
stop_number stop = refusal_number (option_map number stop)

abbrev pub batch_from : BatchReturned → List ℕ → List ℕ → List ℕ → Batched
batch_from r bytes words answers =
    record {
      refused = refused_by (numbered r.answer);
      stop = stop_number r.stop;
      accepted = r.accepted;
      counts = r.counts;
      answers = answers;
      monitor = lent r.head bytes words;
    }

-- the monitor with no verdict, from which a step or a run begins
abbrev pub active : Head → List ℕ → List ℕ → Monitor
active head bytes words = monitor_with head.settled head.waiting None 0 bytes words

-- What a step and a list of offers gave back, with the areas at their exit. A step that is not taken leaves the head as it was.
abbrev pub stepped_from : Head → Option Stepped → List ℕ → List ℕ → Tried
stepped_from head None bytes words = record { taken = false; monitor = active head bytes words; rewrites = 0; put = 0 }
stepped_from head (Some s) bytes words =
    record { taken = true; monitor = lent s.head bytes words; rewrites = s.counts.rewrites; put = s.counts.put }

abbrev pub series_from : Series → List ℕ → List ℕ → List ℕ → Batched
series_from r bytes words answers =
    record {
      refused = None;
      stop = stop_number r.stop;
      accepted = r.accepted;
      counts = r.counts;
      answers = answers;
      monitor = lent r.head bytes words;
    }

-- The same, or the refusal of a batch, which leaves the head as it was.
abbrev pub offers_from : Head → Result Series Refusal → List ℕ → List ℕ → List ℕ → Batched
offers_from head (Ok r) bytes words answers = series_from r bytes words answers
offers_from head (Err refusal) bytes words answers =
    record {
      refused = Some (number refusal);
      stop = 0;
      accepted = 0;
      counts = no_counts;
      answers = answers;
      monitor = lent head bytes words;
    }
