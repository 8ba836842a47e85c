-- Batch, as a function of all that is lent to it.
use Rattle.std.specs.Prelude.{ℕ, ◌&&◌, List, [], ◌∷◌, ◌++◌, leb, length, Option, None, Some}
use Rattle.rewriting.specs.Lists.{over}
use Rattle.layout.specs.Refusals.{Check, refusal, refused_by}
use Rattle.machine.specs.declared.Counts.{Counts}
use Rattle.machine.specs.Run.{no_counts, plus}
use Rattle.machine.specs.Areas.{Monitor}
use Rattle.machine.specs.Calls.{Call, Outcome, lent_checks, fuel_check, call_of, answer_number}
use Rattle.machine.specs.Play.{offers_of}

-- Offers, or other calls, one after another: what stopped them (0: nothing did), an answer byte for each accepted, the summed
-- counts, and the monitor that they leave.
pub record Offers : Type 0 where
  pub stop : ℕ
  pub answers : List ℕ
  pub counts : Counts
  pub monitor : Monitor

-- no call is accepted
unfoldable pub stopped : ℕ → Monitor → Offers
stopped n m = record { stop = n; answers = []; counts = no_counts; monitor = m }

-- the call with outcome o, and then the others, unless o is a refusal
unfoldable pub and_then : Outcome → Option ℕ → (Monitor → Offers) → Offers
and_then o (Some n) others = stopped n o.monitor
and_then o None others =
    let rest : Offers = others o.monitor in
    record {
      stop = rest.stop;
      answers = answer_number o.answer ∷ rest.answers;
      counts = plus o.counts rest.counts;
      monitor = rest.monitor;
    }

-- calls one after another, up to the first that is refused
unfoldable pub in_turn : ℕ → List ℕ → List ℕ → Monitor → List Call → Offers
in_turn capacity image table m [] = stopped 0 m
in_turn capacity image table m (c ∷ calls) =
    let o : Outcome = call_of capacity image table m c in
    and_then o (refused_by o.answer) (λ m'. in_turn capacity image table m' calls)

-- "the offers one after another up to the first refused with 12, 14 or 15" (no other refusal can come:
-- `batch_theorem`, proofs/BatchTheorem.antt)
unfoldable pub offers : ℕ → List ℕ → List ℕ → Monitor → List ℕ → ℕ → Offers
offers capacity image table m events fuel = in_turn capacity image table m (offers_of events fuel)

-- "more than 65,535 events"
abbrev pub events_most : ℕ
events_most = 65535

-- "Batch .. refuses, in order: 7, 9, 10, 11, 13; 16, more than 65,535 events, or fewer answer bytes than events."
unfoldable pub batch_checks : ℕ → List ℕ → List ℕ → Monitor → List ℕ → ℕ → List ℕ → List Check
batch_checks capacity image table m events fuel answers =
    lent_checks capacity image table m
    ++ fuel_check fuel
    ∷ (leb (length events) events_most && leb (length events) (length answers), 16)
    ∷ []

-- The refusal of the batch; or "that number or 0 (a stop by 12, 14 or 15 is a result and no refusal of the batch ..), the
-- count accepted, summed counts in 64 bits, and one byte for each accepted"; and the monitor that it leaves.
pub record Batched : Type 0 where
  pub refused : Option ℕ
  pub stop : ℕ
  pub accepted : ℕ
  pub counts : Counts
  pub answers : List ℕ
  pub monitor : Monitor

-- a refusal, or what the offers b lead to. "Later answer bytes stay."
unfoldable pub batched : Option ℕ → Monitor → List ℕ → Offers → Batched
batched (Some n) m answers b =
    record { refused = Some n; stop = 0; accepted = 0; counts = no_counts; answers = answers; monitor = m }
batched None m answers b =
    record {
      refused = None;
      stop = b.stop;
      accepted = length b.answers;
      counts = b.counts;
      answers = over b.answers answers;
      monitor = b.monitor;
    }

-- "Batch (events, fuel for each, answer bytes)"
unfoldable pub batch_of : ℕ → List ℕ → List ℕ → Monitor → List ℕ → ℕ → List ℕ → Batched
batch_of capacity image table m events fuel answers =
    batched (refusal (batch_checks capacity image table m events fuel answers)) m answers
    (offers capacity image table m events fuel)
