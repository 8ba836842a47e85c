-- Calls one by one: what is so after k of them, and what they come to where they end.
-- Assumes nothing.
use Prim.Native.Nat.{ℕ, suc, ◌+◌, ◌*◌, ◌≤◌, ◌<◌}
use mathlib.Core.Path.{◌≡◌, refl, sym, ap, ◌∙◌}
use Rattle.std.specs.Prelude.{Option, None, Some}
use mathlib.Core.List.{List, [], ◌∷◌, ◌++◌, append-nil}
use native.Mathlib.Omega.{arith}
use native.Mathlib.Nat.{suc-mul, mul-le-mul}
use native.Mathlib.Numerals.{add-one}
use lib.Dec.{eqb}
use lib.ListN.{length, get_or, set, take, drop, length-set, take-append-drop, drop_of_length-le, length-map}
use lib.Seq.{length-take-le, append_snoc, drop-cons, drop-drop, drop-set-lt, take-suc-set}
use borrow.Author.Tests.{eqb-true}
use Rattle.rewriting.specs.Lists.{over}
use Rattle.rewriting.proofs.Lists.{and_left, and_right, get_d_map}
use Rattle.layout.specs.Image.{read}
use Rattle.layout.specs.Refusals.{refused_by}
use Rattle.machine.specs.declared.Counts.{Counts}
use Rattle.machine.specs.Run.{no_counts, plus}
use Rattle.machine.specs.Areas.{Monitor}
use Rattle.machine.specs.Calls.{Call, Offer, GoOn, Outcome, sized, call_checks, decided, fuel_of, call_of, answer_number}
use Rattle.machine.specs.Batch.{Offers, stopped, and_then, in_turn, batched}
use Rattle.machine.specs.Play.{offers_of}
use Rattle.machine.specs.Lent.{Passed, offer_or_go_on}
use Rattle.machine.specs.Promise.{Ended}
use Rattle.machine.proofs.Stepping.{passed_sized}
use Rattle.machine.proofs.Sums.{none-plus, plus_none, plus_assoc}
use Rattle.machine.proofs.Calls.{holding_passes, replies, next}
use Rattle.machine.proofs.CallTheorem.{call_theorem}
use Rattle.machine.proofs.AnswerNumbers.{Lent, passed_lent, answer_number-below}

-- the calls b behind accepted ones with these answers and counts
unfoldable pub behind : List ℕ → Counts → Offers → Offers
behind a c b =
    record { stop = b.stop; answers = a ++ b.answers; counts = plus c b.counts; monitor = b.monitor }

-- one of them accepted
behind_more : (a : List ℕ) (c : Counts) (x : ℕ) (d : Counts) (r : Offers)
    → behind a c (record { stop = r.stop; answers = x ∷ r.answers; counts = plus d r.counts; monitor = r.monitor })
    ≡ behind (a ++ x ∷ []) (plus c d) r
unfolding behind
behind_more a c x d r =
    λ i.
    record {
      stop = r.stop;
      answers = sym (append_snoc a x r.answers) i;
      counts = sym (plus_assoc c d r.counts) i;
      monitor = r.monitor;
    }

-- one element more is left out
drop_more : (k : ℕ) (l : List ℕ) → drop (suc k) l ≡ drop 1 (drop k l)
drop_more k l = rw (drop-drop, add-one)

-- Both areas have the capacity's length.
pub passed_sizes : (capacity : ℕ) (image table : List ℕ) (m : Monitor) → Passed capacity image table m
    → (length m.bytes ≡ capacity) × (length m.words ≡ capacity)
unfolding sized
passed_sizes capacity image table m e =
    let both : _ = passed_sized capacity image table m e in
    let b : _ = eqb (length m.bytes) capacity in
    let w : _ = eqb (length m.words) capacity in
    (eqb-true _ _ (and_left b w both), eqb-true _ _ (and_right b w both))

-- A call that is decided by its own checks alone is the call.
pub passed_call : (capacity : ℕ) (image table : List ℕ) (m : Monitor) (c : Call) (o : Outcome) → Passed capacity image table m
    → o ≡ decided (read image) capacity m (call_checks (read image) capacity m.head c) c → o ≡ call_of capacity image table m c
passed_call capacity image table m c o p e =
    let l : Lent capacity image table m = passed_lent capacity image table m p in
    e ∙ sym (replies capacity image table l.good l.right m l.holding c)

-- The checks pass after a call, too.
pub passed_next : (capacity : ℕ) (image table : List ℕ) (m : Monitor) (c : Call) → Passed capacity image table m
    → Passed capacity image table (call_of capacity image table m c).monitor
passed_next capacity image table m c p =
    let l : Lent capacity image table m = passed_lent capacity image table m p in
    holding_passes capacity image table l.good l.right (call_of capacity image table m c).monitor
    (next capacity image table l.good l.right m l.holding c).after

-- k calls on m have been made and accepted: the monitor is n now, the answer bytes are b, the sums c.
pub record Offering (capacity : ℕ) (image table : List ℕ) (m : Monitor) (calls : List Call) (answers : List ℕ) (n : Monitor)
    (b : List ℕ) (c : Counts) (k : ℕ) : Type 0 where
  pub few : k ≤ length calls
  pub passed : Passed capacity image table n
  pub bytes : length n.bytes ≡ capacity
  pub words : length n.words ≡ length m.words
  pub size : length b ≡ length answers
  pub later : drop k b ≡ drop k answers
  pub whole : in_turn capacity image table m calls
      ≡ behind (take k b) c (in_turn capacity image table n (drop k calls))
  pub steps : c.steps ≤ k * 4294967295
  pub rewrites : c.rewrites ≤ c.steps
  pub put : c.put ≤ 8 * c.rewrites

pub offering_first : (capacity : ℕ) (image table : List ℕ) (m : Monitor) (calls : List Call) (answers : List ℕ)
    → Passed capacity image table m → Offering capacity image table m calls answers m answers no_counts 0
unfolding behind no_counts
offering_first capacity image table m calls answers p =
    let b : Offers = in_turn capacity image table m calls in
    record {
      few = omega arith;
      passed = p;
      bytes = (passed_sizes capacity image table m p).0;
      words = refl;
      size = refl;
      later = refl;
      whole =
          λ i. record { stop = b.stop; answers = b.answers; counts = sym (none-plus b.counts) i; monitor = b.monitor };
      steps = omega arith;
      rewrites = omega arith;
      put = omega arith;
    }

module _ {capacity : ℕ} {image table : List ℕ} {m : Monitor} {calls : List Call} {answers : List ℕ} {n : Monitor} {b : List ℕ}
    {c : Counts} {k : ℕ}
    (now : Offering capacity image table m calls answers n b c k) where
  -- The checks have passed, with the capacity read off the bytes.
  pub offering_passed : Passed (length n.bytes) image table n
  offering_passed = rw now.bytes now.passed

  module _ (room : length calls ≤ length answers) where
    -- No further call is accepted.
    offering_end : (x : ℕ) (last : Monitor) → in_turn capacity image table n (drop k calls) ≡ stopped x last
        → record { refused = None; stop = x; accepted = k; counts = c; answers = b; monitor = last }
        ≡ batched None m answers (in_turn capacity image table m calls)
    unfolding batched behind stopped over
    offering_end x last e =
        let short : k ≤ length b = omega (arith, now.few, now.size, room) in
        let count : length (take k b) ≡ k = length-take-le k b short in
        let all : ◌≡◌ {A = List ℕ} (take k b ++ []) (take k b) = append-nil (take k b) in
        rw (now.whole, e, all, plus_none, count, ← now.later, take-append-drop)

    -- All are made.
    pub offering_all : length calls ≤ k
        → record { refused = None; stop = 0; accepted = length calls; counts = c; answers = b; monitor = n }
        ≡ batched None m answers (in_turn capacity image table m calls)
    unfolding in_turn
    offering_all h =
        let same : length calls ≡ k = omega (arith, h, now.few) in
        rw same (offering_end 0 n (rw (drop_of_length-le calls h)))

    -- There is a next call.
    module _ (more : k < length calls) where
      abbrev call : Call
      call = get_or calls k (GoOn 0)

      -- what it comes to
      abbrev one : Outcome
      one = call_of capacity image table n call

      -- It is refused.
      pub offering_refused : (x : ℕ) → refused_by one.answer ≡ Some x
          → record { refused = None; stop = x; accepted = k; counts = c; answers = b; monitor = one.monitor }
          ≡ batched None m answers (in_turn capacity image table m calls)
      unfolding in_turn and_then
      offering_refused x e = offering_end x one.monitor (rw (drop-cons calls k (GoOn 0) more, e))

      done : Ended (read image).rules capacity n call one
      done = call_theorem capacity image table n call

      -- The sums have room for it.
      pub offering_sums : fuel_of call ≤ 4294967295 → length calls ≤ 65535
          → (c.steps + one.counts.steps < 18446744073709551616)
          × (c.rewrites + one.counts.rewrites < 18446744073709551616)
          × (c.put + one.counts.put < 18446744073709551616)
      offering_sums h few =
          let product : k * 4294967295 ≤ 65535 * 4294967295 =
          mul-le-mul {n₂ = 65535} {m₂ = 4294967295} (omega arith) (omega arith) in (
            omega (arith, now.steps, done.steps),
            omega (arith, now.steps, now.rewrites, done.steps, done.rewrites),
            omega (arith, now.steps, now.rewrites, now.put, done.steps, done.rewrites, done.put),
          )

      -- Its answer's number fits a byte.
      pub offering-number : answer_number one.answer < 256
      offering-number = answer_number-below capacity image table n call

      -- It is accepted.
      pub offering-next : fuel_of call ≤ 4294967295 → refused_by one.answer ≡ None
          → Offering capacity image table m calls answers one.monitor (set b k (answer_number one.answer)) (plus c one.counts)
          (suc k)
      unfolding in_turn and_then plus
      offering-next h e =
          let after : Passed capacity image table one.monitor = passed_next capacity image table n call now.passed in
          let long : k < length b = omega (arith, more, now.size, room) in
          let rest : Offers = in_turn capacity image table one.monitor (drop (suc k) calls) in
          record {
            few = omega arith;
            passed = after;
            bytes = (passed_sizes capacity image table one.monitor after).0;
            words =
                (passed_sizes capacity image table one.monitor after).1
                ∙ sym (passed_sizes capacity image table n now.passed).1
                ∙ now.words;
            size = length-set b k _ ∙ now.size;
            later =
                drop-set-lt (suc k) b k (answer_number one.answer) (omega arith)
                ∙ drop_more k b
                ∙ ap (λ (l : List ℕ). drop 1 l) now.later
                ∙ sym (drop_more k answers);
            whole =
                now.whole
                ∙ rw (drop-cons calls k (GoOn 0) more, e, take-suc-set b k (answer_number one.answer) long)
                (behind_more (take k b) c (answer_number one.answer) one.counts rest);
            steps = rw suc-mul (omega (arith, now.steps, done.steps, h));
            rewrites = omega (arith, now.rewrites, done.rewrites);
            put = omega (arith, now.put, done.put);
          }

-- The call of event k, among the offers of all events.
pub call_at : (events : List ℕ) (fuel k : ℕ) → k < length events
    → get_or (offers_of events fuel) k (GoOn 0) ≡ Offer (get_or events k 0) fuel
unfolding offers_of
call_at events fuel k h = get_d_map (λ event. Offer event fuel) events k 0 (GoOn 0) h

pub calls_length : (events : List ℕ) (fuel : ℕ) → length (offers_of events fuel) ≡ length events
unfolding offers_of
calls_length events fuel = length-map events (λ event. Offer event fuel)

pub fuel_with : (offered : Option ℕ) (fuel : ℕ) → fuel_of (offer_or_go_on offered fuel) ≡ fuel
unfolding offer_or_go_on fuel_of
fuel_with (Some event) fuel = refl
fuel_with None fuel = refl
