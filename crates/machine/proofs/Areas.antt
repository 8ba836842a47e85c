-- Areas: what is written from a state has the capacity's length and is read back as that state, and fresh writes the empty
-- state.
-- Assumes nothing.
use Prim.Native.Nat.{ℕ, zero, suc, ◌+◌, ◌-◌, ◌≤◌, ◌<◌}
use mathlib.Core.Path.{◌≡◌, refl, ap, ◌∙◌}
use mathlib.Core.Bool.{true}
use Rattle.std.specs.Prelude.{Option, None, Some}
use mathlib.Core.List.{List, [], ◌∷◌, ◌++◌, map, append_assoc, append-nil}
use native.Mathlib.Omega.{arith}
use native.Mathlib.Nat.{sub-zero, le_of_suc-le-suc, not-suc-le-zero}
use lib.ListN.{length, get_or, take, drop, replicate, length-append, length-replicate, length-map, get_or-append}
use lib.Seq.{append_snoc, take-append_seam, drop_at}
use borrow.Author.Tests.{eq-eqb, leb-true}
use Rattle.rewriting.specs.Rules.{Rule}
use Rattle.rewriting.proofs.Lists.{and_both, get_d_map}
use Rattle.layout.specs.Refusals.{refusal}
use Rattle.layout.specs.States.{states, number, mark, state, after, next}
use Rattle.layout.proofs.Matching.{state_snoc}
use Rattle.machine.specs.State.{State, active, empty}
use Rattle.machine.specs.Run.{fits}
use Rattle.machine.specs.Areas.{head_of, area_of, bytes_of, states_after, words_of, monitor_of, state_of}
use Rattle.machine.specs.Calls.{sized, fresh_of, freshened}

-- an area has the capacity's length where its two ends have room
pub length_area : (capacity : ℕ) (s q : List ℕ) → length s + length q ≤ capacity → length (area_of capacity s q) ≡ capacity
unfolding area_of
length_area capacity s q h = simp (length-append, length-replicate) (omega arith)

pub area_begin : (capacity : ℕ) (s q : List ℕ) → take (length s) (area_of capacity s q) ≡ s
unfolding area_of
area_begin capacity s q = take-append_seam s (replicate (capacity - (length s + length q)) 0 ++ q)

pub area_end : (capacity : ℕ) (s q : List ℕ) → drop (length (area_of capacity s q) - length q) (area_of capacity s q) ≡ q
unfolding area_of
area_end capacity s q =
    let zeros : List ℕ = replicate (capacity - (length s + length q)) 0 in
    let all_but : length (s ++ zeros) ≡ length (s ++ zeros ++ q) - length q = simp length-append (omega arith) in
    rw (← append_assoc s zeros q) (drop_at (s ++ zeros) q (length (s ++ zeros ++ q) - length q) all_but)

-- written, then read back
pub state_back : (rules : List Rule) (capacity : ℕ) (s : State) → state_of (monitor_of rules capacity s) ≡ s
unfolding state_of monitor_of head_of bytes_of
state_back rules capacity s =
    λ i.
    record {
      settled = area_begin capacity s.settled s.waiting i;
      waiting = area_end capacity s.settled s.waiting i;
      verdict = s.verdict;
      rule = s.rule;
    }

pub length-states_after : (rules : List Rule) (q s : List ℕ) → length (states_after rules q s) ≡ length s
unfolding states_after
length-states_after rules q [] = refl
length-states_after rules q (a ∷ s) = ap suc (length-states_after rules (next rules q a) s)

-- the state after each settled symbol is the state of the string up to it
pub states-after : (rules : List Rule) (p s : List ℕ) (i : ℕ) → i < length s
    → get_or (states_after rules (state rules p) s) i [] ≡ state rules (p ++ take (suc i) s)
unfolding states_after
states-after rules p [] i h = absurd (not-suc-le-zero h)
states-after rules p (a ∷ s) zero h = state_snoc rules p a
states-after rules p (a ∷ s) (suc i) h =
    rw (state_snoc, ← append_snoc p a (take (suc i) s)) (states-after rules (p ++ a ∷ []) s i (le_of_suc-le-suc h))

-- one symbol more
pub states_after_snoc : (rules : List Rule) (p s : List ℕ) (a : ℕ)
    → states_after rules (state rules p) (s ++ a ∷ [])
    ≡ states_after rules (state rules p) s ++ next rules (state rules (p ++ s)) a ∷ []
unfolding states_after
states_after_snoc rules p [] a = rw append-nil
states_after_snoc rules p (x ∷ s) a =
    ap (λ (l : List (List ℕ)). next rules (state rules p) x ∷ l)
    (rw (state_snoc rules p x, ← append_snoc p x s) (states_after_snoc rules (p ++ x ∷ []) s a))

-- "word i below a is the table's state after i + 1 settled symbols"
pub word_at : (rules : List Rule) (capacity : ℕ) (s : State) (i : ℕ) → i < length s.settled
    → get_or (words_of rules capacity s) i 0 ≡ number (states rules) (after rules (take (suc i) s.settled))
unfolding words_of area_of
word_at rules capacity s i h =
    let passed : List (List ℕ) = states_after rules (after rules []) s.settled in
    let n : length passed ≡ length s.settled = length-states_after rules (after rules []) s.settled in
    get_or-append (map (number (states rules)) passed) _ 0 i (simp length-map (omega arith))
    ∙ get_d_map (number (states rules)) passed i [] 0 (omega arith)
    ∙ ap (number (states rules)) (states-after rules (mark ∷ []) s.settled i h)

-- the check behind refusal 10
pub sized-written : (rules : List Rule) (capacity : ℕ) (s : State) → fits capacity s ≡ true
    → sized capacity (monitor_of rules capacity s).bytes (monitor_of rules capacity s).words ≡ true
unfolding sized monitor_of bytes_of words_of fits
sized-written rules capacity s h =
    let room : length s.settled + length s.waiting ≤ capacity = leb-true _ _ h in
    let passed : List (List ℕ) = states_after rules (after rules []) s.settled in
    and_both (eq-eqb _ _ (length_area capacity s.settled s.waiting room))
    (eq-eqb _ _
    (length_area capacity (map (number (states rules)) passed) []
    (simp (length-map, length-states_after) (omega arith))))

area_empty : (capacity : ℕ) → area_of capacity [] [] ≡ replicate capacity 0
unfolding area_of
area_empty capacity = simp (sub-zero, append-nil)

-- what is lent after fresh holds the empty state
pub fresh-written : (rules : List Rule) (capacity : ℕ) (bytes words : List ℕ) → (fresh_of capacity bytes words).refused ≡ None
    → (fresh_of capacity bytes words).monitor ≡ monitor_of rules capacity empty
unfolding fresh_of freshened monitor_of bytes_of words_of states_after empty active
fresh-written rules capacity bytes words h = go (refusal ((sized capacity bytes words, 10) ∷ [])) h
  where
    go : (o : Option ℕ) → (freshened capacity bytes words o).refused ≡ None
        → (freshened capacity bytes words o).monitor ≡ monitor_of rules capacity empty
    go None e = rw area_empty
    go (Some n) e = let z : ◌≡◌ {A = ℕ} 0 1 = cc in absurd (omega arith)
