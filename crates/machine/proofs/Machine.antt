-- The monitor as one machine: which states its steps reach, with which counts, whatever the fuel and the capacity.
-- Symbols that wait behind change no earlier step, so the events of later offers may as well wait from the start.
-- Assumes nothing.
use Prim.Native.Nat.{ℕ, ◌*◌, ◌≤◌, ◌<◌}
use mathlib.Core.Path.{◌≡◌, refl, ap}
use mathlib.Core.Bool.{true}
use Rattle.std.specs.Prelude.{Option, None, Some}
use mathlib.Core.List.{List, [], ◌∷◌, ◌++◌, append_assoc}
use native.Mathlib.Omega.{arith}
use lib.ListN.{length}
use Rattle.rewriting.specs.Rules.{Right, Put, Close, symbols_of, Rule, RuleSet, rule, right_in_range}
use Rattle.rewriting.specs.Occurrences.{cut}
use Rattle.rewriting.proofs.Ranges.{length_right, Ranges, rule_at_lem}
use Rattle.layout.specs.States.{after, next, matching}
use Rattle.layout.specs.Table.{match_word}
use Rattle.layout.proofs.Table.{few_matching}
use Rattle.machine.specs.declared.Counts.{Counts}
use Rattle.machine.specs.State.{State, Step, active, replace, settle, step}
use Rattle.machine.specs.Run.{no_counts, plus, counts_of}
use Rattle.machine.proofs.Sums.{none-plus, plus_none, plus_assoc}

-- from s, steps with the counts c lead to a state: each finds no verdict and a waiting symbol
pub data Reaches (rules : List Rule) (s : State) : Counts → State → Type 0 where
  Stay : Reaches rules s no_counts s
  On : {c : Counts} {t : State} (a : ℕ) (q : List ℕ) → Reaches rules s c t → t.verdict ≡ None → t.waiting ≡ a ∷ q
      → Reaches rules s (plus c (counts_of (step rules t.settled a q))) (step rules t.settled a q).to

-- one step
pub reaches_one : (rules : List Rule) (s : State) (a : ℕ) (q : List ℕ) → s.verdict ≡ None → s.waiting ≡ a ∷ q
    → Reaches rules s (counts_of (step rules s.settled a q)) (step rules s.settled a q).to
reaches_one rules s a q v w =
    let t : Step = step rules s.settled a q in
    let h : Reaches rules s (plus no_counts (counts_of t)) t.to = On {t = s} a q Stay v w in
    rw none-plus at h

-- s with further symbols waiting behind the others
unfoldable pub more : State → List ℕ → State
more s e = record { settled = s.settled; waiting = s.waiting ++ e; verdict = s.verdict; rule = s.rule }

-- the step t with further symbols waiting behind
unfoldable pub step_more : Step → List ℕ → Step
step_more t e = record { to = more t.to e; rewrites = t.rewrites; put = t.put }

replace_more : (s q e : List ℕ) (i : ℕ) (r : Right) → replace s (q ++ e) i r ≡ step_more (replace s q i r) e
unfolding replace step_more more active
replace_more s q e i (Put v) = rw append_assoc
replace_more s q e i (Close v) = refl

settle_more : (rules : List Rule) (p q e : List ℕ) (m : Option ℕ) → settle rules p (q ++ e) m ≡ step_more (settle rules p q m) e
unfolding settle step_more more active
settle_more rules p q e None = refl
settle_more rules p q e (Some i) =
    replace_more (cut rules p i) q e i (rule rules i).right

step_more_lem : (rules : List Rule) (s : List ℕ) (a : ℕ) (q e : List ℕ) → step rules s a (q ++ e) ≡ step_more (step rules s a q) e
unfolding step
step_more_lem rules s a q e = settle_more rules (s ++ a ∷ []) q e (matching rules (next rules (after rules s) a))

pub reaches_more : {rules : List Rule} {s : State} {c : Counts} {t : State} (e : List ℕ) → Reaches rules s c t
    → Reaches rules (more s e) c (more t e)
unfolding more step_more counts_of
reaches_more e Stay = Stay
reaches_more {rules} {s} e (On {c} {t} a q r v w) =
    let next : Step = step rules t.settled a (q ++ e) in
    let h : Reaches rules (more s e) (plus c (counts_of next)) next.to
    = On {t = more t e} a (q ++ e) (reaches_more e r) v (ap (λ (x : List ℕ). x ++ e) w) in
    rw (step_more_lem rules t.settled a q e) at h

pub reaches_then : {rules : List Rule} {s : State} {c : Counts} {t : State} {d : Counts} {u : State} → Reaches rules s c t
    → Reaches rules t d u → Reaches rules s (plus c d) u
reaches_then {c} r Stay = rw plus_none r
reaches_then {c} r (On {c = d} a q r' v w) = rw (← plus_assoc) (On a q (reaches_then r r') v w)

-- rewrites are steps, and each puts back at most 8 symbols
replace_counts : (set : RuleSet) (s q : List ℕ) (i : ℕ) (r : Right) → right_in_range set r ≡ true
    → ((replace s q i r).rewrites ≡ 1) × ((replace s q i r).put ≤ 8)
unfolding replace symbols_of
replace_counts set s q i (Put v) h = (refl, length_right set (Put v) h)
replace_counts set s q i (Close v) h = (refl, omega arith)

pub step_counts : (set : RuleSet) → Ranges set → (s : List ℕ) (a : ℕ) (q : List ℕ)
    → ((step set.rules s a q).rewrites ≤ 1) × ((step set.rules s a q).put ≤ 8 * (step set.rules s a q).rewrites)
unfolding step settle match_word
step_counts set ranges s a q = go (matching set.rules there) refl
  where
    p : List ℕ
    p = s ++ a ∷ []

    there : List ℕ
    there = next set.rules (after set.rules s) a

    go : (m : Option ℕ) → matching set.rules there ≡ m
        → ((settle set.rules p q m).rewrites ≤ 1) × ((settle set.rules p q m).put ≤ 8 * (settle set.rules p q m).rewrites)
    go None e = (omega arith, omega arith)
    go (Some i) e =
        let is-rule : i < length set.rules = rw e at (few_matching set.rules there) in
        let c : _ =
        replace_counts set (cut set.rules p i) q i (rule set.rules i).right
        (rule_at_lem set ranges i is-rule).right_in_range_lem
        in
        (omega (arith, c.0), rw c.0 c.1)

pub reaches_counts : (set : RuleSet) → Ranges set → {s : State} {c : Counts} {t : State} → Reaches set.rules s c t
    → (c.rewrites ≤ c.steps) × (c.put ≤ 8 * c.rewrites)
unfolding no_counts plus counts_of
reaches_counts set ranges Stay = (omega arith, omega arith)
reaches_counts set ranges (On {c = c} {t = t} a q r v w) =
    let k : (c.rewrites ≤ c.steps) × (c.put ≤ 8 * c.rewrites) = reaches_counts set ranges r in
    let j : _ = step_counts set ranges t.settled a q in
    (omega (arith, k.0, j.0), omega (arith, k.1, j.1))
