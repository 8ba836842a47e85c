-- The check behind refusal 11: it takes exactly the areas that are written from a legal state within the capacity.
-- Assumes nothing.
use Prim.Native.Nat.{ℕ, ◌+◌, ◌-◌, ◌≤◌}
use mathlib.Core.Path.{◌≡◌, refl, sym, ◌∙◌}
use mathlib.Core.Bool.{Bool, true, ◌&&◌}
use Rattle.std.specs.Prelude.{Option, None, Some}
use mathlib.Core.List.{List, [], ◌∷◌, ◌++◌, append-nil}
use native.Mathlib.Omega.{arith}
use lib.Dec.{eqb, leb, ltb}
use lib.ListN.{length, take, drop, length-take, length-drop}
use lib.Seq.{append_snoc}
use borrow.Author.Tests.{eqb-true, leb-true, le-leb}
use Rattle.rewriting.specs.Lists.{all, same, below}
use Rattle.rewriting.specs.Rules.{Rule, RuleSet}
use Rattle.rewriting.specs.Occurrences.{scan, redex, ending}
use Rattle.rewriting.proofs.Lists.{and_both, and_left, and_right, all_left, same_eq, same_refl}
use Rattle.rewriting.proofs.Ranges.{Ranges}
use Rattle.rewriting.proofs.Scan.{scan_snoc, redex_left, ending-none}
use Rattle.layout.specs.States.{mark, after, next, matching}
use Rattle.layout.proofs.Matching.{Plain, state_snoc, matching-next}
use Rattle.machine.specs.State.{State}
use Rattle.machine.specs.Run.{fits}
use Rattle.machine.specs.Areas.{Monitor, head_of, bytes_of, states_after, words_of, monitor_of, state_of, no_match, unmatched}
use Rattle.machine.specs.Areas.{stands_by, holds, described}
use Rattle.machine.specs.Calls.{sized}
use Rattle.machine.proofs.Legal.{Legal, plain_below}
use Rattle.machine.proofs.Areas.{state_back}

-- the symbols up to a
plain_up_to : (p : List ℕ) (a : ℕ) (s : List ℕ) → Plain (p ++ a ∷ [] ++ s) → Plain (p ++ a ∷ [])
plain_up_to p a s h = all_left (λ x. ltb x mark) (p ++ a ∷ []) s h

-- no state after a symbol of s has a match, where p ++ s has no occurrence
unmatched-after : (rules : List Rule) (p s : List ℕ) → Plain (p ++ s) → redex rules (p ++ s) ≡ None
    → all (λ q. no_match (matching rules q)) (states_after rules (after rules p) s) ≡ true
unfolding states_after no_match
unmatched-after rules p [] plain h = refl
unmatched-after rules p (a ∷ s) plain h =
    let on : redex rules (p ++ a ∷ [] ++ s) ≡ None = rw append_snoc h in
    let rest : Plain (p ++ a ∷ [] ++ s) = rw append_snoc plain in
    let here : ending rules true (p ++ a ∷ []) ≡ None = ending-none rules p a (redex_left rules (p ++ a ∷ []) s on) in
    let q : List ℕ = next rules (after rules p) a in
    let first : no_match (matching rules q) ≡ true = rw (matching-next rules p a (plain_up_to p a s rest), here) in
    let others : all (λ q. no_match (matching rules q)) (states_after rules q s) ≡ true =
    rw (state_snoc rules (mark ∷ p) a) (unmatched-after rules (p ++ a ∷ []) s rest on)
    in
    and_both first others

unmatched_clean : (rules : List Rule) (s : List ℕ) → Plain s → redex rules s ≡ None → unmatched rules s ≡ true
unfolding unmatched
unmatched_clean rules s plain h = unmatched-after rules [] s plain h

-- and the other way round
no_match_lem : (m : Option ℕ) → no_match m ≡ true → m ≡ None
unfolding no_match
no_match_lem None e = refl
no_match_lem (Some i) e = let z : ◌≡◌ {A = ℕ} 0 1 = cc in absurd (omega arith)

clean_after : (rules : List Rule) (p s : List ℕ) → Plain (p ++ s) → redex rules p ≡ None
    → all (λ q. no_match (matching rules q)) (states_after rules (after rules p) s) ≡ true → redex rules (p ++ s) ≡ None
unfolding states_after
clean_after rules p [] plain h e = rw append-nil h
clean_after rules p (a ∷ s) plain h e =
    let behind : Plain (p ++ a ∷ [] ++ s) = rw append_snoc plain in
    let q : List ℕ = next rules (after rules p) a in
    let rest : Bool = all (λ q. no_match (matching rules q)) (states_after rules q s) in
    let here : matching rules q ≡ None = no_match_lem _ (and_left (no_match (matching rules q)) rest e) in
    let on : redex rules (p ++ a ∷ []) ≡ None =
    scan_snoc rules p a h (sym (matching-next rules p a (plain_up_to p a s behind)) ∙ here) in
    rw append_snoc at
    (clean_after rules (p ++ a ∷ []) s behind on
    (rw (state_snoc rules (mark ∷ p) a) at (and_right (no_match (matching rules q)) rest e)))

clean_unmatched : (rules : List Rule) (s : List ℕ) → Plain s → unmatched rules s ≡ true → redex rules s ≡ None
unfolding unmatched redex scan
clean_unmatched rules s plain h = clean_after rules [] s plain refl h

-- written from a legal state
pub described-written : (set : RuleSet) → Ranges set → (capacity : ℕ) (s : State) → fits capacity s ≡ true → Legal set s
    → described set capacity (monitor_of set.rules capacity s) ≡ true
unfolding described holds monitor_of head_of fits
described-written set ranges capacity s h f =
    rw (state_back set.rules capacity s)
    (and_both
    (and_both
    (and_both (and_both (and_both h f.symbols) (same_refl (bytes_of capacity s)))
    (same_refl (words_of set.rules capacity s)))
    (unmatched_clean set.rules s.settled
    (plain_below set ranges s.settled (all_left (λ x. ltb x set.symbols) s.settled s.waiting f.symbols)) f.clean))
    f.stands)

-- what the checks behind 10 and 11 say of the state that is read: it is legal and fits, and these areas are its areas
pub record Described (set : RuleSet) (capacity : ℕ) (m : Monitor) : Type 0 where
  pub legal : Legal set (state_of m)
  pub room : fits capacity (state_of m) ≡ true
  pub written : monitor_of set.rules capacity (state_of m) ≡ m

pub is-described : (set : RuleSet) → Ranges set → (capacity : ℕ) (m : Monitor) → sized capacity m.bytes m.words ≡ true
    → described set capacity m ≡ true → Described set capacity m
unfolding described holds monitor_of head_of state_of sized fits
is-described set ranges capacity m s d =
    record {
      legal =
          record {
            clean = clean_unmatched set.rules (state_of m).settled plain (and_right (a && b && c && w) u d₁);
            symbols = symbols;
            stands = and_right (a && b && c && w && u) v d;
          };
      room = rw (settled, waiting) (le-leb _ _ room);
      written =
          λ i.
          record {
            head = record { settled = settled i; waiting = waiting i; verdict = m.head.verdict; rule = m.head.rule };
            bytes = same_eq (bytes_of capacity (state_of m)) m.bytes (and_right (a && b) c d₃) i;
            words = same_eq (words_of set.rules capacity (state_of m)) m.words (and_right (a && b && c) w d₂) i;
          };
    }
  where
    a : Bool
    a = leb (m.head.settled + m.head.waiting) capacity

    b : Bool
    b = below set.symbols ((state_of m).settled ++ (state_of m).waiting)

    c : Bool
    c = same (bytes_of capacity (state_of m)) m.bytes

    w : Bool
    w = same (words_of set.rules capacity (state_of m)) m.words

    u : Bool
    u = unmatched set.rules (state_of m).settled

    v : Bool
    v = stands_by set.rules m.head.verdict m.head.rule

    d₁ : (a && b && c && w && u) ≡ true
    d₁ = and_left (a && b && c && w && u) v d

    d₂ : (a && b && c && w) ≡ true
    d₂ = and_left (a && b && c && w) u d₁

    d₃ : (a && b && c) ≡ true
    d₃ = and_left (a && b && c) w d₂

    symbols : below set.symbols ((state_of m).settled ++ (state_of m).waiting) ≡ true
    symbols = and_right a b (and_left (a && b) c d₃)

    plain : Plain (state_of m).settled
    plain =
        plain_below set ranges (state_of m).settled
        (all_left (λ x. ltb x set.symbols) (state_of m).settled (state_of m).waiting symbols)

    room : m.head.settled + m.head.waiting ≤ capacity
    room = leb-true _ _ (and_left a b (and_left (a && b) c d₃))

    long : length m.bytes ≡ capacity
    long = eqb-true _ _ (and_left (eqb (length m.bytes) capacity) (eqb (length m.words) capacity) s)

    settled : length (take m.head.settled m.bytes) ≡ m.head.settled
    settled = simp length-take (omega (arith, room, long))

    waiting : length (drop (length m.bytes - m.head.waiting) m.bytes) ≡ m.head.waiting
    waiting = simp length-drop (omega (arith, room, long))
