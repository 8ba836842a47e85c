-- The calls of a list one by one: what is so where the numbers before place k have been played.
-- Assumes nothing.
use Prim.Native.Nat.{ℕ, ◌+◌, ◌*◌, ◌≤◌, ◌<◌}
use mathlib.Core.Path.{◌≡◌, refl, sym, ap, subst, ◌∙◌}
use mathlib.Core.Bool.{Bool, true, false}
use Rattle.std.specs.Prelude.{Option, None, Some}
use mathlib.Core.List.{List, ◌∷◌, ◌++◌}
use native.Mathlib.Omega.{arith}
use native.Mathlib.Nat.{mul-le-mul, add-mul}
use lib.Dec.{ltb}
use lib.ListN.{length, get_or, drop, length-append}
use borrow.Author.Tests.{leb-true, ltb-true, ltb-false}
use Rattle.rewriting.specs.Rules.{RuleSet}
use Rattle.layout.specs.Image.{read}
use Rattle.layout.specs.Refusals.{Check, refusal, refused_by}
use Rattle.layout.proofs.Refusals.{refusal_passed, refusal_rest, refusal_none_right}
use Rattle.machine.specs.declared.Counts.{Counts}
use Rattle.machine.specs.Run.{Run, no_counts, plus, run}
use Rattle.machine.specs.Areas.{Head, Monitor, state_of}
use Rattle.machine.specs.Calls.{Call, Offer, GoOn, Outcome, fuel_of, lent_checks, fuel_check, call_checks, offered, outcome}
use Rattle.machine.specs.Calls.{decided, call_of}
use Rattle.machine.specs.Play.{Log, no_calls, events_of, logged, play}
use Rattle.machine.specs.Promise.{Ended}
use Rattle.machine.proofs.Runs.{ran}
use Rattle.machine.proofs.CallTheorem.{call_theorem}
use Rattle.calls.specs.Encoding.{decoded_call, decoded_calls, pairs, encodes}
use Rattle.calls.proofs.Numbers.{few, paired, CallAt, call_at, calls_end}
use Rattle.calls.specs.Played as Played
use Rattle.calls.specs.Played.{Within}

-- the fuel of an accepted call
fuel_taken : (set : RuleSet) (capacity : ℕ) (head : Head) (c : Call) → refusal (call_checks set capacity head c) ≡ None
    → fuel_of c ≤ 65535
unfolding call_checks fuel_check fuel_of
fuel_taken set capacity head (Offer event fuel) e = leb-true _ _ (refusal_passed _ _ _ (refusal_rest _ _ _ e))
fuel_taken set capacity head (GoOn fuel) e = leb-true _ _ (refusal_passed _ _ _ e)

-- the steps of any call
call_steps :
    (capacity : ℕ) (image table : List ℕ) (m : Monitor) (c : Call)
    → (call_of capacity image table m c).counts.steps ≤ 65535
unfolding call_of decided outcome no_counts
call_steps capacity image table m c = go (refusal checks) refl
  where
    checks : List Check
    checks = lent_checks capacity image table m ++ call_checks (read image) capacity m.head c

    r : Run
    r = run (read image).rules capacity (fuel_of c) (offered (state_of m) c)

    go : (o : Option ℕ) → refusal checks ≡ o → (outcome (read image) capacity m o r).counts.steps ≤ 65535
    go (Some n) e = omega arith
    go None e =
        let fuel : fuel_of c ≤ 65535 =
        fuel_taken (read image) capacity m.head c (refusal_none_right (lent_checks capacity image table m) _ e)
        in
        let steps : r.counts.steps ≤ fuel_of c =
        (ran (read image).rules capacity (fuel_of c) (offered (state_of m) c)).within
        in
        omega arith

-- the number of events of a call is 0 or 1
events_few : (o : Option ℕ) (c : Call) → length (events_of o c) ≤ 1
unfolding events_of
events_few (Some n) c = omega arith
events_few None (Offer event fuel) = omega arith
events_few None (GoOn fuel) = omega arith

-- one call
play_call : (capacity : ℕ) (image table : List ℕ) (g : Log) (c : Call) (calls : List Call)
    → play capacity image table g (c ∷ calls)
    ≡ play capacity image table (logged g c (call_of capacity image table g.monitor c)) calls
unfolding play
play_call capacity image table g c calls = refl

-- The numbers before place k have been played from the monitor m: it is n now, a events are accepted, the sums are c.
pub record Playing (capacity : ℕ) (image table : List ℕ) (m : Monitor) (numbers : List ℕ) (n : Monitor) (a : ℕ) (c : Counts)
    (k : ℕ) : Type 0 where
  pub short : length numbers ≤ 8589934590
  pub left : pairs (drop k numbers) ≡ true
  pub within : k ≤ length numbers
  pub log : Log
  pub monitor : log.monitor ≡ n
  pub events : length log.events ≡ a
  pub counts : log.counts ≡ c
  pub whole : play capacity image table (no_calls m) (decoded_calls numbers)
      ≡ play capacity image table log (decoded_calls (drop k numbers))
  pub accepted : a ≤ k
  pub steps : c.steps ≤ k * 65535
  pub rewrites : c.rewrites ≤ c.steps
  pub put : c.put ≤ 8 * c.rewrites

pub playing_first : (capacity : ℕ) (image table : List ℕ) (m : Monitor) (numbers : List ℕ) → encodes numbers ≡ true
    → Playing capacity image table m numbers m 0 no_counts 0
unfolding no_calls no_counts
playing_first capacity image table m numbers e =
    record {
      short = few numbers e;
      left = paired numbers e;
      within = omega arith;
      log = no_calls m;
      monitor = refl;
      events = refl;
      counts = refl;
      whole = refl;
      accepted = omega arith;
      steps = omega arith;
      rewrites = omega arith;
      put = omega arith;
    }

module _ {capacity : ℕ} {image table : List ℕ} {m : Monitor} {numbers : List ℕ} {n : Monitor} {a : ℕ} {c : Counts} {k : ℕ}
    (now : Playing capacity image table m numbers n a c k) where
  -- No pair is left: all calls have been made.
  none-left : length numbers ≤ k + 1 → length numbers ≤ k
  none-left h = go (ltb k (length numbers)) refl
    where
      go : (b : Bool) → ltb k (length numbers) ≡ b → length numbers ≤ k
      go true p = absurd (omega (arith, h, (call_at numbers k (ltb-true _ _ p) now.left).inside))
      go false p = ltb-false _ _ p

  pub playing_all : length numbers ≤ k + 1
      → record { refused = None; monitor = n; accepted = a; counts = c }
      ≡ Played.logged (play capacity image table (no_calls m) (decoded_calls numbers))
  unfolding Played.logged play
  playing_all h = rw (now.whole, calls_end numbers k (none-left h), now.monitor, now.events, now.counts)

  -- The next call is made.
  module _ (more : k < length numbers) where
    pub playing_call : CallAt numbers k
    playing_call = call_at numbers k more now.left

    module _ {call : Call} (reads : call ≡ decoded_call (get_or numbers k 0) (get_or numbers (k + 1) 0))
        {o : Outcome} (is : o ≡ call_of capacity image table n call) where
      done : Ended (read image).rules capacity n call o
      done =
          subst (λ (p : Outcome). Ended (read image).rules capacity n call p) (sym is)
          (call_theorem capacity image table n call)

      few_steps : o.counts.steps ≤ 65535
      few_steps = rw is (call_steps capacity image table n call)

      few_added : length (events_of (refused_by o.answer) call) ≤ 1
      few_added = events_few (refused_by o.answer) call

      pub playing_sums : Within a (length (events_of (refused_by o.answer) call)) c o.counts
      playing_sums =
          let product : k * 65535 ≤ 8589934590 * 65535 =
          mul-le-mul {n₂ = 8589934590} {m₂ = 65535} (omega (arith, now.within, now.short)) (omega arith)
          in
          record {
            accepted = omega (arith, now.accepted, now.within, now.short, few_added);
            steps = omega (arith, now.steps, few_steps);
            rewrites = omega (arith, now.steps, now.rewrites, done.rewrites, few_steps);
            put = omega (arith, now.steps, now.rewrites, now.put, done.rewrites, done.put, few_steps);
          }

      pub playing_next : Playing capacity image table m numbers o.monitor
          (a + length (events_of (refused_by o.answer) call)) (plus c o.counts) (k + 2)
      unfolding logged plus
      playing_next =
          record {
            short = now.short;
            left = playing_call.rest;
            within = omega (arith, playing_call.inside);
            log = logged now.log call o;
            monitor = refl;
            events = length-append now.log.events (events_of (refused_by o.answer) call) ∙ rw now.events;
            counts = rw now.counts;
            whole =
                now.whole
                ∙ ap (λ (calls : List Call). play capacity image table now.log calls)
                (playing_call.calls ∙ ap (λ (x : Call). x ∷ decoded_calls (drop (k + 2) numbers)) (sym reads))
                ∙ play_call capacity image table now.log call (decoded_calls (drop (k + 2) numbers))
                ∙ ap (λ (p : Outcome). play capacity image table (logged now.log call p) (decoded_calls (drop (k + 2) numbers)))
                (ap (λ (p : Monitor). call_of capacity image table p call) now.monitor ∙ sym is);
            accepted = omega (arith, now.accepted, few_added);
            steps = rw add-mul (omega (arith, now.steps, few_steps));
            rewrites = omega (arith, now.rewrites, done.rewrites);
            put = omega (arith, now.put, done.put);
          }
