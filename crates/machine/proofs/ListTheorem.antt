-- Demand 3, of every list of calls.
-- Assumes nothing.
use Prim.Native.Nat.{ℕ}
use mathlib.Core.Path.{◌≡◌, refl, ap}
use mathlib.Core.Bool.{Bool, true, false}
use Rattle.std.specs.Prelude.{Some, Err}
use mathlib.Core.List.{List, [], ◌∷◌, ◌++◌, append-nil}
use native.Mathlib.Omega.{arith}
use lib.Dec.{ltb}
use lib.ListN.{length, replicate}
use borrow.Author.Tests.{le-leb}
use Rattle.rewriting.specs.Lists.{below, prefix}
use Rattle.rewriting.specs.Rules.{RuleSet}
use Rattle.rewriting.specs.Rewriter.{fed}
use Rattle.rewriting.proofs.Lists.{all_append}
use Rattle.rewriting.proofs.Ranges.{ranges}
use Rattle.rewriting.proofs.Redex.{non_empty, redex-none}
use Rattle.rewriting.proofs.Rewrites.{put_bound}
use Rattle.layout.specs.Image.{read, valid}
use Rattle.layout.specs.Refusals.{refusal, refused_by}
use Rattle.layout.proofs.Image.{valid-in_range}
use Rattle.layout.proofs.Refusals.{refusal_append_some}
use Rattle.layout.specs.Table.{table_of}
use Rattle.machine.specs.State.{empty, active}
use Rattle.machine.specs.Run.{no_counts, plus, fits}
use Rattle.machine.specs.Areas.{Monitor, head_of, monitor_of}
use Rattle.machine.specs.Calls.{Call, Outcome, fresh_of, lent_checks, outcome, decided, call_of, refusal_of}
use Rattle.machine.specs.Play.{string_of, Log, no_calls, events_of, logged, play}
use Rattle.machine.specs.Promise.{Agrees, Answered, Kept, AllRefused, Promise, DemandThree}
use Rattle.machine.proofs.Logs.{after, play-after}
use Rattle.machine.proofs.Machine.{Reaches, Stay, more, reaches_more, reaches_then}
use Rattle.machine.proofs.Legal.{legal_waiting}
use Rattle.machine.proofs.Simulation.{Faithful, faithful}
use Rattle.machine.proofs.Areas.{state_back, fresh-written}
use Rattle.machine.proofs.CallTheorem.{call_theorem}
use Rattle.machine.proofs.Calls.{Next, Holding, holding_passes, replies, next}

-- After any list of calls, the machine reaches the state that is lent from all accepted events, waiting, with the counts
-- that the calls reported.
pub record Held (set : RuleSet) (capacity : ℕ) (g : Log) : Type 0 where
  pub holding : Holding set capacity g.monitor
  pub reached : Reaches set.rules (active [] g.events) g.counts holding.state
  pub symbols : below set.symbols g.events ≡ true

-- nothing is called yet
held_fresh :
    (set : RuleSet) (capacity : ℕ) (m : Monitor) → m ≡ monitor_of set.rules capacity empty → Held set capacity (no_calls m)
unfolding no_calls active empty fits
held_fresh set capacity m e =
    record {
      holding =
          record
          { state = empty; written = e; legal = legal_waiting set [] refl; room = le-leb 0 capacity (omega arith) };
      reached = Stay;
      symbols = refl;
    }

length-zero : (l : List ℕ) → length l ≡ 0 → l ≡ []
length-zero [] e = refl
length-zero (x ∷ l) e = absurd (omega arith)

module _ (capacity : ℕ) (image table : List ℕ) (good : valid image ≡ true)
    (right : prefix (table_of (read image)) table ≡ true) where
  -- one call more
  held_logged : (g : Log) → Held (read image) capacity g → (c : Call)
      → Held (read image) capacity (logged g c (call_of capacity image table g.monitor c))
  unfolding logged active more
  held_logged g h c =
      let n : Next (read image) capacity h.holding.state c (call_of capacity image table g.monitor c) =
      next capacity image table good right g.monitor h.holding c
      in
      let events : List ℕ = events_of (refused_by (call_of capacity image table g.monitor c).answer) c in
      record {
        holding = n.after;
        reached = reaches_then (reaches_more events h.reached) n.reached;
        symbols = all_append (λ x. ltb x (read image).symbols) g.events events h.symbols n.symbols;
      }

  held_play :
      (calls : List Call) (g : Log) → Held (read image) capacity g
      → Held (read image) capacity (play capacity image table g calls)
  unfolding play
  held_play [] g h = h
  held_play (c ∷ calls) g h =
      held_play calls (logged g c (call_of capacity image table g.monitor c)) (held_logged g h c)

  -- the string that is lent
  string_held : (m : Monitor) (h : Holding (read image) capacity m) → string_of m ≡ h.state.settled ++ h.state.waiting
  unfolding string_of
  string_held m h = rw (h.written, state_back)

  each_answered :
      (m : Monitor) → Holding (read image) capacity m → (c : Call)
      → Answered (read image) capacity m c (call_of capacity image table m c)
  unfolding monitor_of head_of
  each_answered m h c =
      record {
        reply = replies capacity image table good right m h c;
        ended = call_theorem capacity image table m c;
        quiet = (
          λ p. ((n.quiet.0 p).0, rw after.written (ap length (n.quiet.0 p).1), rw after.written (n.quiet.0 p).2),
          λ p. n.quiet.1 (p.0, length-zero after.state.waiting (rw after.written at p.1), rw after.written at p.2),
        );
        rests =
            λ p. redex-none (read image).rules (non_empty (read image) (valid-in_range image good)) (string_of o.monitor)
            (rw (string_held o.monitor after, (n.quiet.0 p).1, append-nil) after.legal.clean);
      }
    where
      o : Outcome
      o = call_of capacity image table m c

      n : Next (read image) capacity h.state c o
      n = next capacity image table good right m h c

      after : Holding (read image) capacity o.monitor
      after = n.after

  agrees : (g : Log) → Held (read image) capacity g → Agrees (read image).rules g
  unfolding monitor_of head_of fed
  agrees g h =
      let f : Faithful (read image).rules g.events g.counts h.holding.state =
      faithful (read image) (ranges (read image) (valid-in_range image good)) g.events h.symbols h.reached
      in
      record {
        rewriter = rw (string_held g.monitor h.holding, h.holding.written) f.rewriter;
        balance = rw h.holding.written f.balance;
        bound =
            omega
            (arith, f.balance, put_bound (read image) (valid-in_range image good) g.counts.rewrites (fed g.events) _ f.rewriter);
      }

  kept : (m : Monitor) (calls : List Call) → Held (read image) capacity (no_calls m) → Kept capacity image table m calls
  kept m calls h =
      let held : Held (read image) capacity (play capacity image table (no_calls m) calls) = held_play calls (no_calls m) h in
      record {
        agrees = agrees (play capacity image table (no_calls m) calls) held;
        passes =
            holding_passes capacity image table good right (play capacity image table (no_calls m) calls).monitor held.holding;
        each =
            λ earlier c later _.
            each_answered (play capacity image table (no_calls m) earlier).monitor (held_play earlier (no_calls m) h).holding c;
      }

-- what is lent is refused at every call
module _ (n capacity : ℕ) (image table : List ℕ) (m : Monitor)
    (fails : refusal (lent_checks capacity image table m) ≡ Some n) where
  refused_call : (c : Call) → call_of capacity image table m c ≡ refusal_of n m
  unfolding call_of decided outcome
  refused_call c = rw (refusal_append_some _ _ n fails)

  nothing : (calls : List Call) → play capacity image table (no_calls m) calls
      ≡ record { monitor = m; events = []; answers = replicate (length calls) (Err n); counts = no_counts }
  unfolding play no_calls logged refused_by events_of plus no_counts after
  nothing [] = refl
  nothing (c ∷ calls) =
      rw (refused_call c, play-after capacity image table calls (logged (no_calls m) c (refusal_of n m)), nothing calls)

  all_refused : (calls : List Call) → AllRefused n capacity image table m calls
  all_refused calls =
      record {
        nothing = nothing calls;
        each = λ earlier c later _. rw (nothing earlier) (refused_call c);
      }

-- Demand 3.
pub list_theorem : DemandThree
unfolding lent_checks refusal
list_theorem capacity image table bytes words calls h = go (valid image) refl (prefix (table_of (read image)) table) refl
  where
    m : Monitor
    m = (fresh_of capacity bytes words).monitor

    go : (v : Bool) → valid image ≡ v → (t : Bool) → prefix (table_of (read image)) table ≡ t
        → Promise v t capacity image table m calls
    go false p t q = all_refused 7 capacity image table m (rw p) calls
    go true p false q = all_refused 9 capacity image table m (rw (p, q)) calls
    go true p true q =
        kept capacity image table p q m calls
        (held_fresh (read image) capacity m (fresh-written (read image).rules capacity bytes words h))
