-- One call made with the areas of a state: what it leaves is again the areas of a state, one that the machine reaches.
-- Assumes nothing.
use Prim.Native.Nat.{ℕ, ◌+◌, ◌≤◌, ◌<◌}
use mathlib.Core.Path.{◌≡◌, refl, sym, ap}
use mathlib.Core.Bool.{true}
use mathlib.Core.Logic.{◌↔◌}
use Rattle.std.specs.Prelude.{Option, None, Some, Ok, Err}
use mathlib.Core.List.{List, [], ◌∷◌, ◌++◌, append-nil}
use native.Mathlib.Omega.{arith}
use lib.ListN.{length, length-append}
use borrow.Author.Tests.{ltb-true, lt-ltb, leb-true, le-leb, eqb-false, not-true}
use Rattle.rewriting.specs.Lists.{below, prefix}
use Rattle.rewriting.specs.Rules.{RuleSet}
use Rattle.rewriting.proofs.Lists.{and_both}
use Rattle.rewriting.proofs.Ranges.{Ranges, ranges}
use Rattle.layout.specs.Image.{read, valid}
use Rattle.layout.specs.Refusals.{refusal, refused_by}
use Rattle.layout.proofs.Image.{valid-in_range}
use Rattle.layout.proofs.Refusals.{refusal_passed, refusal_rest, refusal_append_none}
use Rattle.layout.specs.Table.{table_of}
use Rattle.machine.specs.declared.Answer.{Answer}
use Rattle.machine.specs.State.{State}
use Rattle.machine.specs.Run.{Run, fits, run}
use Rattle.machine.specs.Areas.{Monitor, head_of, monitor_of, state_of}
use Rattle.machine.specs.Calls.{Call, Offer, GoOn, Outcome, fuel_of, lent_checks, fuel_check, verdict_check, call_checks, offered}
use Rattle.machine.specs.Calls.{outcome, decided, call_of}
use Rattle.machine.specs.Play.{events_of}
use Rattle.machine.proofs.Machine.{Reaches, Stay, more}
use Rattle.machine.proofs.Runs.{Ran, ran, stopped_quiet}
use Rattle.machine.proofs.Legal.{Legal, legal_more, legal_reaches}
use Rattle.machine.proofs.Areas.{state_back, sized-written}
use Rattle.machine.proofs.Described.{Described, described-written, is-described}

-- What is lent holds a state that is legal and within the capacity.
pub record Holding (set : RuleSet) (capacity : ℕ) (m : Monitor) : Type 0 where
  pub state : State
  pub written : m ≡ monitor_of set.rules capacity state
  pub legal : Legal set state
  pub room : fits capacity state ≡ true

-- What a call c on the state s leaves, with the outcome o.
pub record Next (set : RuleSet) (capacity : ℕ) (s : State) (c : Call) (o : Outcome) : Type 0 where
  pub after : Holding set capacity o.monitor
  pub reached : Reaches set.rules (more s (events_of (refused_by o.answer) c)) o.counts after.state
  pub symbols : below set.symbols (events_of (refused_by o.answer) c) ≡ true
  pub quiet : o.answer ≡ Ok Answer.Quiet
      ↔ ((refused_by o.answer ≡ None) × (after.state.waiting ≡ []) × (after.state.verdict ≡ None))

pub more_nil : (s : State) → more s [] ≡ s
unfolding more
more_nil s = λ i. record { settled = s.settled; waiting = append-nil s.waiting i; verdict = s.verdict; rule = s.rule }

pub offered_more : (s : State) (c : Call) → offered s c ≡ more s (events_of None c)
unfolding offered events_of more
offered_more s (Offer event fuel) = refl
offered_more s (GoOn fuel) = sym (more_nil s)

-- an accepted event is a symbol, and there is room for it
pub accepted_event : (set : RuleSet) → Ranges set → (capacity : ℕ) (s : State) (c : Call)
    → refusal (call_checks set capacity (head_of s) c) ≡ None → fits capacity s ≡ true
    → (fits capacity (offered s c) ≡ true) × (below set.symbols (events_of None c) ≡ true)
unfolding call_checks fuel_check verdict_check offered events_of fits head_of
accepted_event set ranges capacity s (GoOn fuel) e h = (h, refl)
accepted_event set ranges capacity s (Offer event fuel) e h =
    let is-event : event < set.events = ltb-true _ _ (refusal_passed _ _ _ e) in
    let room : length s.settled + length s.waiting ≤ capacity = leb-true _ _ h in
    let last : _ = refusal_passed _ _ _ (refusal_rest _ _ _ (refusal_rest _ _ _ (refusal_rest _ _ _ e))) in
    let below_full : length s.settled + length s.waiting ≡ capacity → ⊥ = eqb-false _ _ (not-true _ last) in
    let few : set.events ≤ set.symbols = ranges.few_events in
    let next : length s.settled + length (s.waiting ++ event ∷ []) ≤ capacity = simp length-append (omega arith) in
    let symbol : event < set.symbols = omega arith in
    (le-leb _ _ next, and_both (lt-ltb _ _ symbol) refl)

-- the call runs, or is refused by the checks of its own
next_of : (set : RuleSet) → Ranges set → (capacity : ℕ) (s : State) → Legal set s → fits capacity s ≡ true → (c : Call)
    → Next set capacity s c (decided set capacity (monitor_of set.rules capacity s) (call_checks set capacity (head_of s) c) c)
unfolding decided outcome refused_by events_of
next_of set ranges capacity s f h c =
    rw (state_back set.rules capacity s) (go (refusal (call_checks set capacity (head_of s) c)) refl)
  where
    m : Monitor
    m = monitor_of set.rules capacity s

    r : Run
    r = run set.rules capacity (fuel_of c) (offered s c)

    done : Ran set.rules capacity (fuel_of c) (offered s c) r
    done = ran set.rules capacity (fuel_of c) (offered s c)

    go :
        (o : Option ℕ) → refusal (call_checks set capacity (head_of s) c) ≡ o → Next set capacity s c (outcome set capacity m o r)
    go (Some n) e =
        record {
          after = record { state = s; written = refl; legal = f; room = h };
          reached = rw more_nil Stay;
          symbols = refl;
          quiet = (
            λ (p : Err n ≡ Ok Answer.Quiet). let z : ◌≡◌ {A = ℕ} 0 1 = cc in absurd (omega arith),
            λ (p : (Some n ≡ None) × (s.waiting ≡ []) × (s.verdict ≡ None)).
                let z : ◌≡◌ {A = ℕ} 0 1 = cc in absurd (omega arith),
          );
        }
    go None e =
        let room : fits capacity (offered s c) ≡ true = (accepted_event set ranges capacity s c e h).0 in
        let symbols : below set.symbols (events_of None c) ≡ true = (accepted_event set ranges capacity s c e h).1 in
        let legal : Legal set (offered s c) = rw offered_more (legal_more set s (events_of None c) symbols f) in
        let quiet : _ = stopped_quiet set.rules capacity (fuel_of c) r.counts r.state r.answer done.stops in
        record {
          after =
              record {
                state = r.state;
                written = refl;
                legal = legal_reaches set ranges done.reached legal;
                room = done.room room;
              };
          reached = rw (← offered_more) done.reached;
          symbols = symbols;
          quiet = (
            λ (p : Ok r.answer ≡ Ok Answer.Quiet).
                let e : r.answer ≡ Answer.Quiet = cc in
                (refl, (quiet.0 e).0, (quiet.0 e).1),
            λ p. ap (λ (x : Answer). Ok x) (quiet.1 (p.1, p.2)),
          );
        }

-- The checks behind 10 and 11 take nothing else.
pub passed_holding : (capacity : ℕ) (image table : List ℕ) (m : Monitor) → refusal (lent_checks capacity image table m) ≡ None
    → Holding (read image) capacity m
unfolding lent_checks
passed_holding capacity image table m e =
    let e₁₀ : _ = refusal_rest _ _ _ (refusal_rest _ _ _ e) in
    let valid_ranges : Ranges (read image) = ranges (read image) (valid-in_range image (refusal_passed _ _ _ e)) in
    let d : Described (read image) capacity m =
    is-described (read image) valid_ranges capacity m (refusal_passed _ _ _ e₁₀) (refusal_passed _ _ _ (refusal_rest _ _ _ e₁₀))
    in
    record { state = state_of m; written = sym d.written; legal = d.legal; room = d.room }

module _ (capacity : ℕ) (image table : List ℕ) (good : valid image ≡ true)
    (right : prefix (table_of (read image)) table ≡ true) where
  in_range_lem : Ranges (read image)
  in_range_lem = ranges (read image) (valid-in_range image good)

  -- They pass, and so do those behind 7 and 9.
  pub holding_passes : (m : Monitor) → Holding (read image) capacity m → refusal (lent_checks capacity image table m) ≡ None
  unfolding lent_checks refusal
  holding_passes m h =
      rw h.written
      (rw (
        good,
        right,
        sized-written (read image).rules capacity h.state h.room,
        described-written (read image) in_range_lem capacity h.state h.room h.legal,
      ))

  -- So a call is decided by the checks of its own alone.
  pub replies : (m : Monitor) → Holding (read image) capacity m → (c : Call)
      → call_of capacity image table m c ≡ decided (read image) capacity m (call_checks (read image) capacity m.head c) c
  unfolding call_of decided
  replies m h c = rw (refusal_append_none _ _ (holding_passes m h))

  -- What it leaves holds a state again.
  pub next : (m : Monitor) (h : Holding (read image) capacity m) (c : Call)
      → Next (read image) capacity h.state c (call_of capacity image table m c)
  unfolding monitor_of
  next m h c = rw (replies m h c, h.written) (next_of (read image) in_range_lem capacity h.state h.legal h.room c)
