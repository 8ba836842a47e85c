-- A batch is the offers one after another, whatever is lent.
-- Assumes nothing.
use Prim.Native.Nat.{ℕ, suc, ◌+◌, ◌*◌, ◌≤◌, ◌<◌}
use mathlib.Core.Path.{◌≡◌, refl, ap}
use mathlib.Core.Bool.{Bool, true, false, not, cond}
use mathlib.Core.Logic.{◌⊎◌, inl, inr, ⊎_elim}
use Rattle.std.specs.Prelude.{Option, None, Some, is_none}
use mathlib.Core.List.{List, [], ◌∷◌, map, Memᴰ}
use native.Mathlib.Omega.{arith}
use native.Mathlib.Nat.{suc-mul, mul-le-mul}
use lib.Dec.{eqb, leb, ltb}
use lib.ListN.{length, get_or, take}
use borrow.Author.Tests.{leb-true}
use Rattle.rewriting.specs.Lists.{prefix, over}
use Rattle.rewriting.specs.Rules.{RuleSet}
use Rattle.rewriting.proofs.Lists.{and_left}
use Rattle.layout.specs.Image.{read, valid}
use Rattle.layout.specs.Refusals.{Check, refusal, refused_by}
use Rattle.layout.proofs.Refusals.{refusal_passed, refusal_rest, refusal_none_left, refusal_none_right, refusal-number}
use Rattle.layout.specs.Table.{table_of}
use Rattle.machine.specs.Areas.{Head, Monitor, state_of}
use Rattle.machine.specs.declared.Counts.{Counts}
use Rattle.machine.specs.Run.{Run, no_counts, plus, run}
use Rattle.machine.specs.Calls.{Call, Offer, Outcome, lent_checks, fuel_check, verdict_check, call_checks, fuel_of, offered}
use Rattle.machine.specs.Calls.{outcome, decided, refusal_of, call_of, offer_of, answer_number}
use Rattle.machine.specs.Batch.{Offers, stopped, and_then, in_turn, offers, batch_checks, batched, batch_of}
use Rattle.machine.specs.Play.{no_calls, events_of, logged, play, offers_of}
use Rattle.machine.specs.Promise.{Ended, BatchEnded, BatchIsOffers}
use Rattle.machine.proofs.Sums.{none-plus}
use Rattle.machine.proofs.Calls.{Holding, passed_holding, replies, next}
use Rattle.machine.proofs.Logs.{after, play-after}
use Rattle.machine.proofs.CallTheorem.{call_theorem}

-- an offer with fuel that is taken, refused by the checks of its own, is refused with 12, 14 or 15
offer_refusal : (set : RuleSet) (capacity : ℕ) (head : Head) (event fuel n : ℕ) → leb fuel 65535 ≡ true
    → refusal (call_checks set capacity head (Offer event fuel)) ≡ Some n → Memᴰ n (12 ∷ 14 ∷ 15 ∷ [])
unfolding call_checks fuel_check verdict_check refusal
offer_refusal set capacity head event fuel n f e =
    go (ltb event set.events) (is_none head.verdict) (not (eqb (head.settled + head.waiting) capacity)) (rw f at e)
  where
    go : (a b c : Bool) → cond a (cond b (cond c None (Some 15)) (Some 14)) (Some 12) ≡ Some n
        → Memᴰ n (12 ∷ 14 ∷ 15 ∷ [])
    go false b c p = let e : n ≡ 12 = cc in Memᴰ.head e
    go true false c p = let e : n ≡ 14 = cc in Memᴰ.tail (Memᴰ.head e)
    go true true false p = let e : n ≡ 15 = cc in Memᴰ.tail (Memᴰ.tail (Memᴰ.head e))
    go true true true p = let z : ◌≡◌ {A = ℕ} 0 1 = cc in absurd (omega arith)

-- what is so of the offers b of a batch
record Offered (capacity : ℕ) (image table : List ℕ) (m : Monitor) (events : List ℕ) (fuel : ℕ) (b : Offers) : Type 0 where
  few : length b.answers ≤ length events
  monitor : (play capacity image table (no_calls m) (offers_of (take (length b.answers) events) fuel)).monitor ≡ b.monitor
  accepted : (play capacity image table (no_calls m) (offers_of (take (length b.answers) events) fuel)).events
      ≡ take (length b.answers) events
  counts : (play capacity image table (no_calls m) (offers_of (take (length b.answers) events) fuel)).counts ≡ b.counts
  written : map answer_number (play capacity image table (no_calls m) (offers_of (take (length b.answers) events) fuel)).answers
      ≡ b.answers
  stops : ((b.stop ≡ 0) × (length b.answers ≡ length events))
      ⊎ ((length b.answers < length events)
      × Memᴰ b.stop (12 ∷ 14 ∷ 15 ∷ [])
      × (call_of capacity image table b.monitor (Offer (get_or events (length b.answers) 0) fuel)
      ≡ refusal_of b.stop b.monitor))
  steps : b.counts.steps ≤ length b.answers * fuel
  rewrites : b.counts.rewrites ≤ b.counts.steps
  put : b.counts.put ≤ 8 * b.counts.rewrites

module _ (capacity : ℕ) (image table : List ℕ) (good : valid image ≡ true)
    (right : prefix (table_of (read image)) table ≡ true) where
  -- a refused call is refused by the checks of its own
  refused_by_lem : (m : Monitor) → Holding (read image) capacity m → (c : Call) (n : ℕ)
      → call_of capacity image table m c ≡ refusal_of n m → refusal (call_checks (read image) capacity m.head c) ≡ Some n
  unfolding decided outcome refused_by
  refused_by_lem m h c n e =
      go (refusal (call_checks (read image) capacity m.head c))
      (ap (λ (o : Outcome). refused_by o.answer) (rw (replies capacity image table good right m h c) at e))
    where
      r : Run
      r = run (read image).rules capacity (fuel_of c) (offered (state_of m) c)

      go : (o : Option ℕ) → refused_by (outcome (read image) capacity m o r).answer ≡ Some n → o ≡ Some n
      go (Some k) p = p
      go None p = let z : ◌≡◌ {A = ℕ} 0 1 = cc in absurd (omega arith)

  offers-offered : (fuel : ℕ) → leb fuel 65535 ≡ true → (events : List ℕ) (m : Monitor) → Holding (read image) capacity m
      → Offered capacity image table m events fuel (offers capacity image table m events fuel)
  unfolding offers in_turn stopped no_calls play offers_of offer_of and_then logged after events_of no_counts plus fuel_of
  offers-offered fuel f [] m h =
      record {
        few = omega arith;
        monitor = refl;
        accepted = refl;
        counts = refl;
        written = refl;
        stops = inl (refl, refl);
        steps = omega arith;
        rewrites = omega arith;
        put = omega arith;
      }
  offers-offered fuel f (event ∷ events) m h =
      go (refused_by o.answer) refl
      (offers-offered fuel f events o.monitor (next capacity image table good right m h c).after)
    where
      c : Call
      c = Offer event fuel

      o : Outcome
      o = call_of capacity image table m c

      done : Ended (read image).rules capacity m c o
      done = call_theorem capacity image table m c

      go : (x : Option ℕ) → refused_by o.answer ≡ x
          → Offered capacity image table o.monitor events fuel (offers capacity image table o.monitor events fuel)
          → Offered capacity image table m (event ∷ events) fuel
          (and_then o x (λ m'. offers capacity image table m' events fuel))
      go (Some n) e ih =
          let refused : o ≡ refusal_of n m = (done.refused n e).1 in
          let stays : o.monitor ≡ m = ap (λ (p : Outcome). p.monitor) refused in
          record {
            few = omega arith;
            monitor = rw stays;
            accepted = refl;
            counts = refl;
            written = refl;
            stops = inr (
              omega arith,
              offer_refusal (read image) capacity m.head event fuel n f (refused_by_lem m h c n refused),
              rw stays refused,
            );
            steps = omega arith;
            rewrites = omega arith;
            put = omega arith;
          }
      go None e ih =
          let rest : Offers = offers capacity image table o.monitor events fuel in
          let k : ℕ = length rest.answers in
          let behind : _ = play-after capacity image table (offers_of (take k events) fuel) (logged (no_calls m) c o) in
          record {
            few = let p : k ≤ length events = ih.few in omega arith;
            monitor = rw behind ih.monitor;
            accepted = rw (behind, ih.accepted, e);
            counts = rw (behind, ih.counts) (ap (λ (x : Counts). plus x rest.counts) (none-plus o.counts));
            written = rw (behind, ih.written);
            stops =
                ⊎_elim (λ p. inl (p.0, ap suc p.1))
                (λ p. inr (let q : k < length events = p.0 in omega arith, p.1, p.2)) ih.stops;
            steps =
                let p : rest.counts.steps ≤ k * fuel = ih.steps in
                let q : o.counts.steps ≤ fuel = done.steps in
                rw suc-mul (omega arith);
            rewrites =
                let p : rest.counts.rewrites ≤ rest.counts.steps = ih.rewrites in
                let q : o.counts.rewrites ≤ o.counts.steps = done.rewrites in
                omega arith;
            put =
                let p : rest.counts.put ≤ 8 * rest.counts.rewrites = ih.put in
                let q : o.counts.put ≤ 8 * o.counts.rewrites = done.put in
                omega arith;
          }

-- the checks of a batch have the numbers that document 01 gives them
check_numbers : (capacity : ℕ) (image table : List ℕ) (m : Monitor) (events : List ℕ) (fuel : ℕ) (answers : List ℕ)
    → map (λ (x : Check). x.1) (batch_checks capacity image table m events fuel answers) ≡ 7 ∷ 9 ∷ 10 ∷ 11 ∷ 13 ∷ 16 ∷ []
unfolding batch_checks lent_checks fuel_check
check_numbers capacity image table m events fuel answers = refl

pub batch_theorem : BatchIsOffers
unfolding batch_of batched batch_checks lent_checks fuel_check
batch_theorem capacity image table m events fuel answers = go (refusal checks) refl
  where
    checks : List Check
    checks = batch_checks capacity image table m events fuel answers

    b : Offers
    b = offers capacity image table m events fuel

    go : (o : Option ℕ) → refusal checks ≡ o
        → BatchEnded capacity image table m events fuel answers (batched o m answers b)
    go (Some n) p =
        record {
          refused = λ k (q : Some n ≡ Some k).
              let e : n ≡ k = cc in
              rw (← e) (rw (check_numbers capacity image table m events fuel answers) at (refusal-number checks n p), refl);
          taken = λ (q : Some n ≡ None). let z : ◌≡◌ {A = ℕ} 0 1 = cc in absurd (omega arith);
        }
    go None p =
        let lent : refusal (lent_checks capacity image table m) ≡ None =
        refusal_none_left (lent_checks capacity image table m) _ p
        in
        let own : _ = refusal_none_right (lent_checks capacity image table m) _ p in
        let good : valid image ≡ true = refusal_passed _ _ _ lent in
        let right : prefix (table_of (read image)) table ≡ true = refusal_passed _ _ _ (refusal_rest _ _ _ lent) in
        let taken : leb fuel 65535 ≡ true = refusal_passed _ _ _ own in
        let few_events : length events ≤ 65535 =
        leb-true _ _ (and_left (leb (length events) 65535) (leb (length events) (length answers))
        (refusal_passed _ _ _ (refusal_rest _ _ _ own)))
        in
        let d : Offered capacity image table m events fuel b =
        offers-offered capacity image table good right fuel taken events m (passed_holding capacity image table m lent)
        in
        let few : length b.answers ≤ length events = d.few in
        let small : length b.answers ≤ 65535 = omega arith in
        let product : length b.answers * fuel ≤ 65535 * 65535 = mul-le-mul small (leb-true _ _ taken) in
        let steps : b.counts.steps ≤ length b.answers * fuel = d.steps in
        let rewrites : b.counts.rewrites ≤ b.counts.steps = d.rewrites in
        let put : b.counts.put ≤ 8 * b.counts.rewrites = d.put in
        record {
          refused = λ k (q : None ≡ Some k). let z : ◌≡◌ {A = ℕ} 0 1 = cc in absurd (omega arith);
          taken = λ _. record {
            few = d.few;
            played = record {
              monitor = d.monitor;
              accepted = d.accepted;
              counts = d.counts;
              written = ap (λ (v : List ℕ). over v answers) d.written;
            };
            stops = d.stops;
            steps = omega arith;
            rewrites = omega arith;
            put = omega arith;
          };
        }
