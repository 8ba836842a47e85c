-- A call where what is lent has passed its checks: the refusals of its own, in their order, and the state that it runs from.
-- Assumes nothing.
use Prim.Native.Nat.{ℕ, ◌+◌, ◌-◌, ◌≤◌, ◌<◌}
use mathlib.Core.Path.{◌≡◌, refl, sym, ap, ◌∙◌, subst}
use mathlib.Core.Bool.{true, false}
use Rattle.std.specs.Prelude.{None, Some, Option, is_none, is_some, IfSome}
use mathlib.Core.List.{List, [], ◌∷◌, ◌++◌, append-nil}
use native.Mathlib.Omega.{arith}
use lib.Dec.{eqb}
use lib.ListN.{length, replicate, length-append, length-replicate}
use lib.Seq.{paste, take_all, drop-length}
use borrow.Author.Tests.{le-leb, lt-leb, eq-eqb, ne_eqb, eqb-false, not-true}
use Rattle.rewriting.specs.Lists.{below}
use Rattle.rewriting.specs.Rules.{RuleSet}
use Rattle.rewriting.proofs.Ranges.{ranges}
use Rattle.layout.specs.Image.{read, valid}
use Rattle.layout.specs.Refusals.{Check, refusal}
use Rattle.layout.proofs.Image.{valid-in_range}
use Rattle.layout.proofs.Refusals.{refusal_passed, refusal_rest, refusal_append_some}
use Rattle.machine.specs.Areas.{Head, Monitor, head_of, monitor_of, state_of}
use Rattle.machine.specs.State.{State, empty}
use Rattle.machine.specs.Run.{fits, run}
use Rattle.machine.specs.Calls.{
  sized,
  fresh_of,
  freshened,
  lent_checks,
  call_of,
  Call,
  Offer,
  Outcome,
  fuel_check,
  verdict_check,
  call_checks,
  fuel_of,
  offered,
  refusal_of,
  outcome,
  decided,
}
use Rattle.machine.specs.Play.{events_of}
use Rattle.machine.specs.Lent.{
  monitor_in,
  Passed,
  appended,
  taken,
  bytes_with,
  offer_or_go_on,
  event_allowed,
  event_fits,
}
use Rattle.machine.proofs.Legal.{legal_more}
use Rattle.machine.proofs.Areas.{state_back}
use Rattle.machine.proofs.AreaWrites.{area_append}
use Rattle.machine.proofs.Calls.{accepted_event, offered_more, holding_passes}
use Rattle.machine.proofs.Stepping.{Held, held, passed_valid, passed_table, passed_written, zero-rule, holds-state}

-- refused by its checks
pub is_refused : (set : RuleSet) (capacity : ℕ) (m : Monitor) (c : Call) (checks : List Check) (n : ℕ) → refusal checks ≡ Some n
    → refusal_of n m ≡ decided set capacity m checks c
unfolding decided outcome
is_refused set capacity m c checks n e = rw e

-- whether a verdict stands
pub is-some : (v : Option ℕ) → is_some v ≡ true → (x : ℕ) × (v ≡ Some x)
is-some (Some x) e = (x, refl)
is-some None e = let z : ◌≡◌ {A = ℕ} 0 1 = cc in absurd (omega arith)

pub is-nothing : (v : Option ℕ) → is_some v ≡ false → v ≡ None
is-nothing None e = refl
is-nothing (Some x) e = let z : ◌≡◌ {A = ℕ} 0 1 = cc in absurd (omega arith)

-- An offer refuses 12, 13, 14 and 15, in this order, and a go-on 13 and 14.
module _ (set : RuleSet) (capacity : ℕ) (head : Head) (fuel : ℕ) where
  pub refuses_event : (offered : Option ℕ) → event_allowed offered set.events ≡ false
      → refusal (call_checks set capacity head (offer_or_go_on offered fuel)) ≡ Some 12
  unfolding call_checks refusal offer_or_go_on
  refuses_event (Some event) h = rw h
  refuses_event None h = let z : ◌≡◌ {A = ℕ} 0 1 = cc in absurd (omega arith)

  pub refuses_fuel : (offered : Option ℕ) → event_allowed offered set.events ≡ true → 65535 < fuel
      → refusal (call_checks set capacity head (offer_or_go_on offered fuel)) ≡ Some 13
  unfolding call_checks refusal fuel_check offer_or_go_on
  refuses_fuel (Some event) h f = rw (h, lt-leb fuel 65535 f)
  refuses_fuel None h f = rw (lt-leb fuel 65535 f)

  module _ (taken : fuel ≤ 65535) where
    pub refuses_verdict : (offered : Option ℕ) → event_allowed offered set.events ≡ true → (v : ℕ) → head.verdict ≡ Some v
        → refusal (call_checks set capacity head (offer_or_go_on offered fuel)) ≡ Some 14
    unfolding call_checks refusal fuel_check verdict_check offer_or_go_on
    refuses_verdict (Some event) h v e = rw (h, le-leb fuel 65535 taken, e)
    refuses_verdict None h v e = rw (le-leb fuel 65535 taken, e)

    pub refuses_room : (offered : Option ℕ) → event_allowed offered set.events ≡ true → head.verdict ≡ None
        → event_fits offered capacity (head.settled + head.waiting) ≡ false
        → refusal (call_checks set capacity head (offer_or_go_on offered fuel)) ≡ Some 15
    unfolding call_checks refusal fuel_check verdict_check offer_or_go_on
    refuses_room (Some event) h v r = rw (h, le-leb fuel 65535 taken, v, r)
    refuses_room None h v r = let z : ◌≡◌ {A = ℕ} 0 1 = cc in absurd (omega arith)

    pub refuses_none : (offered : Option ℕ) → event_allowed offered set.events ≡ true → head.verdict ≡ None
        → event_fits offered capacity (head.settled + head.waiting) ≡ true
        → refusal (call_checks set capacity head (offer_or_go_on offered fuel)) ≡ None
    unfolding call_checks refusal fuel_check verdict_check offer_or_go_on
    refuses_none (Some event) h v r = rw (h, le-leb fuel 65535 taken, v, r)
    refuses_none None h v r = rw (le-leb fuel 65535 taken, v)

-- What a call that its checks do not refuse tells: no verdict stands, and there is room for the event of an offer.
is-none : (v : Option ℕ) → is_none v ≡ true → v ≡ None
is-none None e = refl
is-none (Some v) e = let z : ◌≡◌ {A = ℕ} 0 1 = cc in absurd (omega arith)

module _ (set : RuleSet) (capacity : ℕ) (head : Head) (fuel : ℕ) where
  pub accepted_none :
      (offered : Option ℕ) → refusal (call_checks set capacity head (offer_or_go_on offered fuel)) ≡ None → head.verdict ≡ None
  unfolding call_checks fuel_check verdict_check offer_or_go_on
  accepted_none (Some event) e = is-none head.verdict (refusal_passed _ _ _ (refusal_rest _ _ _ (refusal_rest _ _ _ e)))
  accepted_none None e = is-none head.verdict (refusal_passed _ _ _ (refusal_rest _ _ _ e))

  pub accepted_room : (offered : Option ℕ) → refusal (call_checks set capacity head (offer_or_go_on offered fuel)) ≡ None
      → IfSome offered (λ event. head.settled + head.waiting ≡ capacity → ⊥)
  unfolding call_checks fuel_check verdict_check offer_or_go_on
  accepted_room (Some event) e =
      eqb-false (head.settled + head.waiting) capacity
      (not-true (eqb (head.settled + head.waiting) capacity)
      (refusal_passed _ _ _ (refusal_rest _ _ _ (refusal_rest _ _ _ (refusal_rest _ _ _ e)))))
  accepted_room None e = tt

-- the call runs
pub is-run : (set : RuleSet) (capacity : ℕ) (m m' : Monitor) (c : Call) (checks : List Check) (s : State) (o : Outcome)
    → refusal checks ≡ None → s ≡ offered (state_of m) c → o ≡ outcome set capacity m' None (run set.rules capacity (fuel_of c) s)
    → o ≡ decided set capacity m checks c
unfolding decided outcome
is-run set capacity m m' c checks s o e f g = rw e (g ∙ rw f)

-- "the event becomes the last waiting symbol"
module _ (capacity : ℕ) (image table : List ℕ) (m : Monitor) (ok : Passed capacity image table m) (event fuel from : ℕ)
    (v : m.head.verdict ≡ None) (room : m.head.settled + m.head.waiting ≡ capacity → ⊥)
    (place : from ≡ capacity - m.head.waiting) where
  facts : Held (read image) capacity m
  facts = held capacity image table m ok

  -- the areas then hold the offered state, ..
  is-offered : monitor_in (taken (Some event) m.head) (appended capacity event from m.bytes) m.words
      ≡ monitor_of (read image).rules capacity (offered (state_of m) (Offer event fuel))
  unfolding offered state_of
  is-offered =
      let s : State = state_of m in
      holds-state (read image).rules capacity s.settled (s.waiting ++ event ∷ []) None 0 m.head.settled (m.head.waiting + 1)
      (appended capacity event from m.bytes) m.words facts.settled_count
      (rw (length-append s.waiting (event ∷ [])) (omega (arith, facts.waiting_count)))
      (ap (appended capacity event from) facts.bytes_are
      ∙ area_append capacity s.settled s.waiting event from (capacity - 1) (omega (arith, place, facts.waiting_count)) refl
      (omega (arith, room, facts.room, facts.settled_count, facts.waiting_count)))
      facts.words_are
      ∙ (λ i. monitor_of (read image).rules capacity
      (record {
        settled = s.settled;
        waiting = s.waiting ++ event ∷ [];
        verdict = sym v i;
        rule = sym (zero-rule capacity image table m ok v) i;
      }))

  pub offered-state : state_of (monitor_in (taken (Some event) m.head) (appended capacity event from m.bytes) m.words)
      ≡ offered (state_of m) (Offer event fuel)
  offered-state = rw is-offered (state_back (read image).rules capacity (offered (state_of m) (Offer event fuel)))

  -- .. and pass their checks
  pub offered_passes : refusal (call_checks (read image) capacity m.head (Offer event fuel)) ≡ None
      → Passed capacity image table (monitor_in (taken (Some event) m.head) (appended capacity event from m.bytes) m.words)
  unfolding monitor_of fits
  offered_passes e =
      holding_passes capacity image table good (passed_table capacity image table m ok) _
      (record {
        state = offered (state_of m) (Offer event fuel);
        written = is-offered;
        legal = rw offered_more (legal_more (read image) (state_of m) (events_of None (Offer event fuel)) accepted.1 facts.legal);
        room = accepted.0;
      })
    where
      good : valid image ≡ true
      good = passed_valid capacity image table m ok

      head : head_of (state_of m) ≡ m.head
      head = ap (λ (x : Monitor). x.head) (passed_written capacity image table m ok)

      accepted :
          (fits capacity (offered (state_of m) (Offer event fuel)) ≡ true)
          × (below (read image).symbols (events_of None (Offer event fuel)) ≡ true)
      accepted =
          accepted_event (read image) (ranges (read image) (valid-in_range image good)) capacity (state_of m) (Offer event fuel)
          (rw head e) (le-leb _ _ facts.room)

-- The same of a call that is an offer or a go-on.
module _ (capacity : ℕ) (image table : List ℕ) (head : Head) (bytes words : List ℕ)
    (ok : Passed capacity image table (monitor_in head bytes words))
    (fuel : ℕ) (offered_event : Option ℕ)
    (accepted : refusal (call_checks (read image) capacity head (offer_or_go_on offered_event fuel)) ≡ None) where
  none_stands : head.verdict ≡ None
  none_stands = accepted_none (read image) capacity head fuel offered_event accepted

  -- a go-on takes the head as it is
  as_is : taken None head ≡ head
  as_is =
      λ i.
      record {
        settled = head.settled;
        waiting = head.waiting;
        verdict = sym none_stands i;
        rule = sym (zero-rule capacity image table (monitor_in head bytes words) ok none_stands) i;
      }

  pub call_state : state_of
      (monitor_in (taken offered_event head) (bytes_with offered_event capacity head.waiting bytes) words)
      ≡ offered (state_of (monitor_in head bytes words)) (offer_or_go_on offered_event fuel)
  unfolding offer_or_go_on offered
  call_state = go offered_event (accepted_room (read image) capacity head fuel offered_event accepted)
    where
      go : (o : Option ℕ) → IfSome o (λ event. head.settled + head.waiting ≡ capacity → ⊥)
          → state_of (monitor_in (taken o head) (bytes_with o capacity head.waiting bytes) words)
          ≡ offered (state_of (monitor_in head bytes words)) (offer_or_go_on o fuel)
      go (Some event) room =
          offered-state capacity image table (monitor_in head bytes words) ok event fuel
          (capacity - head.waiting) none_stands room refl
      go None room = ap (λ (h : Head). state_of (monitor_in h bytes words)) as_is

  pub call_passes : Passed capacity image table
      (monitor_in (taken offered_event head) (bytes_with offered_event capacity head.waiting bytes) words)
  unfolding offer_or_go_on
  call_passes = go offered_event (accepted_room (read image) capacity head fuel offered_event accepted) accepted
    where
      go : (o : Option ℕ) → IfSome o (λ event. head.settled + head.waiting ≡ capacity → ⊥)
          → refusal (call_checks (read image) capacity head (offer_or_go_on o fuel)) ≡ None
          → Passed capacity image table (monitor_in (taken o head) (bytes_with o capacity head.waiting bytes) words)
      go (Some event) room e =
          offered_passes capacity image table (monitor_in head bytes words) ok event fuel
          (capacity - head.waiting) none_stands room refl e
      go None room e = subst (λ (h : Head). Passed capacity image table (monitor_in h bytes words)) (sym as_is) ok

-- A call that what is lent refuses.
pub lent_refused :
    (capacity : ℕ) (image table : List ℕ) (m : Monitor) (c : Call) (n : ℕ) → refusal (lent_checks capacity image table m) ≡ Some n
    → refusal_of n m ≡ call_of capacity image table m c
unfolding call_of
lent_refused capacity image table m c n e =
    is_refused (read image) capacity m c _ n (refusal_append_some (lent_checks capacity image table m) _ n e)

-- Fresh refuses areas of another length, ..
pub other_length : (capacity : ℕ) (bytes words : List ℕ) → sized capacity bytes words ≡ false
    → record { refused = Some 10; monitor = monitor_in (head_of empty) bytes words } ≡ fresh_of capacity bytes words
unfolding fresh_of freshened refusal
other_length capacity bytes words e = rw e

pub other_bytes : (capacity : ℕ) (bytes words : List ℕ) → (length bytes ≡ capacity → ⊥) → sized capacity bytes words ≡ false
unfolding sized
other_bytes capacity bytes words h = rw (ne_eqb (length bytes) capacity h)

pub other_words :
    (capacity : ℕ) (bytes words : List ℕ) → length bytes ≡ capacity → (length words ≡ capacity → ⊥)
    → sized capacity bytes words ≡ false
unfolding sized
other_words capacity bytes words e h = rw (eq-eqb (length bytes) capacity e, ne_eqb (length words) capacity h)

-- .. and else sets all to 0.
all_cleared :
    (capacity : ℕ) (l : List ℕ) → length l ≡ capacity
    → paste l 0 (replicate (capacity - 0) 0) (capacity - 0) ≡ replicate capacity 0
all_cleared capacity l e =
    let n : capacity - 0 ≡ capacity = omega arith in
    let z : 0 + capacity ≡ length l = omega arith in
    rw (n, z, drop-length l, append-nil)
    (take_all {A = ℕ} capacity (replicate capacity 0) (rw (length-replicate {A = ℕ}) (omega arith)))

pub cleared : (capacity : ℕ) (bytes words bytes' words' : List ℕ) → length bytes ≡ capacity → length words ≡ capacity
    → bytes' ≡ paste bytes 0 (replicate (capacity - 0) 0) (capacity - 0)
    → words' ≡ paste words 0 (replicate (capacity - 0) 0) (capacity - 0)
    → record { refused = None; monitor = monitor_in (head_of empty) bytes' words' } ≡ fresh_of capacity bytes words
unfolding fresh_of freshened refusal sized
cleared capacity bytes words bytes' words' eb ew cb cw =
    rw (eq-eqb (length bytes) capacity eb, eq-eqb (length words) capacity ew)
    (λ i.
    record {
      refused = None;
      monitor =
          record {
            head = head_of empty;
            bytes = (cb ∙ all_cleared capacity bytes eb) i;
            words = (cw ∙ all_cleared capacity words ew) i;
          };
    })
