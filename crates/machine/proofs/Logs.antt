-- Logs of lists of calls: a list played behind a log is the list played from nothing, behind that log.
-- Assumes nothing.
use Prim.Native.Nat.{ℕ}
use mathlib.Core.Path.{◌≡◌, sym}
use mathlib.Core.List.{List, [], ◌∷◌, ◌++◌, append-nil, append_assoc}
use Rattle.machine.specs.Run.{plus}
use Rattle.machine.specs.Calls.{Call, Outcome, call_of}
use Rattle.machine.specs.Play.{Log, no_calls, logged, play}
use Rattle.machine.proofs.Sums.{none-plus, plus_none, plus_assoc}

-- the calls of g, and then those of h
unfoldable pub after : Log → Log → Log
after g h =
    record {
      monitor = h.monitor;
      events = g.events ++ h.events;
      answers = g.answers ++ h.answers;
      counts = plus g.counts h.counts;
    }

pub play-after : (capacity : ℕ) (image table : List ℕ) (calls : List Call) (g : Log)
    → play capacity image table g calls ≡ after g (play capacity image table (no_calls g.monitor) calls)
unfolding play after no_calls logged
play-after capacity image table [] g =
    λ i.
    record {
      monitor = g.monitor;
      events = sym (append-nil g.events) i;
      answers = sym (append-nil g.answers) i;
      counts = sym (plus_none g.counts) i;
    }
play-after capacity image table (c ∷ calls) g =
    let o : Outcome = call_of capacity image table g.monitor c in
    rw (
      play-after capacity image table calls (logged g c o),
      play-after capacity image table calls (logged (no_calls g.monitor) c o),
    )
    (simp (append_assoc, plus_assoc, none-plus))
