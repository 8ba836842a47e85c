-- Aho and Corasick's lemmas: the state that a string leads to is all that the next state and the match word depend on.
-- Assumes nothing.
use Prim.Native.Nat.{ℕ, ◌≤◌}
use mathlib.Core.Path.{◌≡◌, refl, sym, ap, ◌∙◌}
use mathlib.Core.Bool.{Bool, true, false, cond, ◌&&◌, ◌||◌}
use mathlib.Core.Logic.{◌⊎◌, inl, inr}
use Rattle.std.specs.Prelude.{None}
use Rattle.std.specs.Option.{option_or}
use mathlib.Core.List.{List, [], ◌∷◌, ◌++◌, append-nil}
use native.Mathlib.Omega.{arith}
use lib.Dec.{eqb, ltb}
use lib.ListN.{length, length-append}
use borrow.Author.Tests.{eqb-true, ne_eqb, ltb-true}
use Rattle.rewriting.specs.Lists.{alike, below, same, prefix}
use Rattle.rewriting.specs.Rules.{Rule}
use Rattle.rewriting.specs.Occurrences.{lowest, spanning, ending}
use Rattle.rewriting.proofs.Lists.{and_left, and_right, or_cases, or_left, or_right, alike_eq, same_eq, prefix_append}
use Rattle.rewriting.proofs.Lists.{prefix_shorter}
use Rattle.rewriting.proofs.Choice.{tie_later}
use Rattle.rewriting.proofs.Redex.{NonEmpty}
use Rattle.rewriting.proofs.Ending.{ending_unmarked, ending_start, ending_longer}
use Rattle.layout.specs.States.{mark, pattern, is_prefix, state, after, starts, symbols_in, next, matching}
use Rattle.layout.specs.Words.{own}

-- a beginning of a prefix of a left side is one too
pub is_prefix_shorter : (rules : List Rule) (u v : List ℕ) → is_prefix rules (u ++ v) ≡ true → is_prefix rules u ≡ true
unfolding is_prefix
is_prefix_shorter [] u v e = e
is_prefix_shorter (r ∷ rules) u v e =
    go (or_cases (prefix (u ++ v) (pattern r)) (is_prefix rules (u ++ v)) e) (is_prefix_shorter rules u v)
  where
    go : (prefix (u ++ v) (pattern r) ≡ true) ⊎ (is_prefix rules (u ++ v) ≡ true)
        → (is_prefix rules (u ++ v) ≡ true → is_prefix rules u ≡ true) → is_prefix (r ∷ rules) u ≡ true
    go (inl h) ih = or_left (prefix u (pattern r)) (is_prefix rules u) (prefix_shorter u v (pattern r) h)
    go (inr h) ih = or_right (prefix u (pattern r)) (is_prefix rules u) (ih h)

-- what is no prefix of a left side is none either when more follows
pub is_prefix_longer : (rules : List Rule) (u v : List ℕ) → is_prefix rules u ≡ false → is_prefix rules (u ++ v) ≡ false
is_prefix_longer rules u v e = go (is_prefix rules (u ++ v)) refl
  where
    go : (b : Bool) → is_prefix rules (u ++ v) ≡ b → b ≡ false
    go true h = cc (is_prefix_shorter rules u v h)
    go false h = refl

-- a string that is a prefix of a left side is its own state
pub state_self : (rules : List Rule) (v : List ℕ) → is_prefix rules v ≡ true → state rules v ≡ v
unfolding state
state_self rules [] e = refl
state_self rules (x ∷ v) e = rw e

-- a first symbol that begins no prefix of a left side is dropped
pub state-drop : (rules : List Rule) (x : ℕ) (p : List ℕ) → is_prefix rules (x ∷ p) ≡ false → state rules (x ∷ p) ≡ state rules p
unfolding state
state-drop rules x p e = rw e

-- the next state found from the state before is that of the whole string
pub state_snoc : (rules : List Rule) (p : List ℕ) (a : ℕ) → next rules (state rules p) a ≡ state rules (p ++ a ∷ [])
unfolding next state
state_snoc rules [] a = refl
state_snoc rules (x ∷ p) a = go (is_prefix rules (x ∷ p)) refl (state_snoc rules p a)
  where
    go : (b : Bool) → is_prefix rules (x ∷ p) ≡ b → next rules (state rules p) a ≡ state rules (p ++ a ∷ [])
        → next rules (state rules (x ∷ p)) a ≡ state rules (x ∷ p ++ a ∷ [])
    go true e ih = rw e
    go false e ih = rw (e, is_prefix_longer rules (x ∷ p) (a ∷ []) e) ih

-- a string of symbols: the mark does not stand in it
abbrev pub Plain : List ℕ → Type 0
Plain p = below mark p ≡ true

-- its first symbol is not the mark, and what follows is plain too
pub plain_first : (x : ℕ) (p : List ℕ) → Plain (x ∷ p) → eqb x mark ≡ false
plain_first x p h = ne_eqb x mark (λ e. omega (arith, ltb-true x mark (and_left (ltb x mark) (below mark p) h)))

pub plain_rest : (x : ℕ) (p : List ℕ) → Plain (x ∷ p) → Plain p
plain_rest x p h = and_right (ltb x mark) (below mark p) h

-- a rule with this mark and these symbols as its left side has this pattern
pub pattern-own : (r : Rule) (v : List ℕ) → starts v ≡ r.marked → r.left ≡ symbols_in v → pattern r ≡ v
unfolding pattern starts symbols_in
pattern-own r [] m l = rw (← m, l)
pattern-own r (x ∷ v) m l = go (eqb x mark) refl
  where
    go : (b : Bool) → eqb x mark ≡ b → cond r.marked (mark ∷ r.left) r.left ≡ x ∷ v
    go true e = rw (← m, e, l, e) (ap (λ (y : ℕ). y ∷ v) (sym (eqb-true x mark e)))
    go false e = rw (← m, e, l, e)

-- and the other way round, where the left side is plain
pub own-pattern : (r : Rule) → Plain r.left → (starts (pattern r) ≡ r.marked) × (symbols_in (pattern r) ≡ r.left)
unfolding pattern starts symbols_in
own-pattern r h = go r.marked refl r.left h
  where
    go : (b : Bool) → r.marked ≡ b → (l : List ℕ) → Plain l
        → (starts (cond b (mark ∷ l) l) ≡ b) × (symbols_in (cond b (mark ∷ l) l) ≡ l)
    go true m l h = (refl, refl)
    go false m [] h = (refl, refl)
    go false m (x ∷ l) h = rw (plain_first x l h) (refl, refl)

-- what is no prefix of a left side is no left side
pub own_no_prefix : (rules : List Rule) (v : List ℕ) → is_prefix rules v ≡ false → own rules v ≡ None
unfolding own is_prefix lowest
own_no_prefix [] v e = refl
own_no_prefix (r ∷ rules) v e =
    go (alike (starts v) r.marked && same r.left (symbols_in v)) refl (prefix v (pattern r)) refl e (own_no_prefix rules v)
  where
    go : (b : Bool) → (alike (starts v) r.marked && same r.left (symbols_in v)) ≡ b
        → (c : Bool) → prefix v (pattern r) ≡ c → (c || is_prefix rules v) ≡ false
        → (is_prefix rules v ≡ false → own rules v ≡ None) → own (r ∷ rules) v ≡ None
    go b p true q h ih = let z : ◌≡◌ {A = ℕ} 0 1 = cc in absurd (omega arith)
    go true p false q h ih =
        let m : starts v ≡ r.marked =
        alike_eq (starts v) r.marked (and_left (alike (starts v) r.marked) (same r.left (symbols_in v)) p) in
        let l : r.left ≡ symbols_in v =
        same_eq r.left (symbols_in v) (and_right (alike (starts v) r.marked) (same r.left (symbols_in v)) p) in
        let s : pattern r ≡ v = pattern-own r v m l in
        let t : prefix v v ≡ true = rw append-nil at (prefix_append v []) in
        let z : ◌≡◌ {A = ℕ} 0 1 = cc in
        absurd (omega arith)
    go false p false q h ih = rw (p, ih h)

-- the match word found at the state of a string that begins behind the start is that of the whole string
pub matching-state : (rules : List Rule) (p : List ℕ) → Plain p → matching rules (state rules p) ≡ ending rules false p
unfolding matching state ending starts symbols_in spanning own
matching-state rules [] h = refl
matching-state rules (x ∷ p) h =
    go (is_prefix rules (x ∷ p)) refl (matching-state rules p (plain_rest x p h))
  where
    go : (b : Bool) → is_prefix rules (x ∷ p) ≡ b → matching rules (state rules p) ≡ ending rules false p
        → matching rules (state rules (x ∷ p)) ≡ ending rules false (x ∷ p)
    go true e ih = rw (e, plain_first x p h)
    go false e ih =
        let no_own : lowest rules false (x ∷ p) ≡ None = rw (plain_first x p h) at (own_no_prefix rules (x ∷ p) e) in
        rw (e, no_own, tie_later) ih

-- and at the state after a string, that of the string at the start
pub matching-after : (rules : List Rule) (s : List ℕ) → Plain s → matching rules (after rules s) ≡ ending rules true s
unfolding matching state starts symbols_in own
matching-after rules s h = go (is_prefix rules (mark ∷ s)) refl
  where
    go : (b : Bool) → is_prefix rules (mark ∷ s) ≡ b → matching rules (after rules s) ≡ ending rules true s
    go true e = rw e
    go false e =
        let no_own : lowest rules true s ≡ None = own_no_prefix rules (mark ∷ s) e in
        rw e (matching-state rules s h ∙ sym (ending_unmarked rules s no_own))

-- and so is the match word of the next state
pub matching-next : (rules : List Rule) (s : List ℕ) (a : ℕ) → Plain (s ++ a ∷ [])
    → matching rules (next rules (after rules s) a) ≡ ending rules true (s ++ a ∷ [])
matching-next rules s a h = rw (state_snoc rules (mark ∷ s) a) (matching-after rules (s ++ a ∷ []) h)

-- a state is a prefix of a left side, or empty
pub state-is_prefix : (rules : List Rule) (p : List ℕ) → (state rules p ≡ []) ⊎ (is_prefix rules (state rules p) ≡ true)
unfolding state
state-is_prefix rules [] = inl refl
state-is_prefix rules (x ∷ p) = go (is_prefix rules (x ∷ p)) refl (state-is_prefix rules p)
  where
    go : (b : Bool) → is_prefix rules (x ∷ p) ≡ b → (state rules p ≡ []) ⊎ (is_prefix rules (state rules p) ≡ true)
        → (state rules (x ∷ p) ≡ []) ⊎ (is_prefix rules (state rules (x ∷ p)) ≡ true)
    go true e ih = rw (e, e) (inr refl)
    go false e ih = rw e ih

pub state_idle : (rules : List Rule) (p : List ℕ) → state rules (state rules p) ≡ state rules p
unfolding state
state_idle rules p = go (state-is_prefix rules p)
  where
    go : (state rules p ≡ []) ⊎ (is_prefix rules (state rules p) ≡ true) → state rules (state rules p) ≡ state rules p
    go (inl e) = rw e
    go (inr e) = state_self rules (state rules p) e

-- the state is a suffix of the string
pub state_suffix : (rules : List Rule) (p : List ℕ) → (u : List ℕ) × (p ≡ u ++ state rules p)
unfolding state
state_suffix rules [] = ([], refl)
state_suffix rules (x ∷ p) = go (is_prefix rules (x ∷ p)) refl (state_suffix rules p)
  where
    go :
        (b : Bool) → is_prefix rules (x ∷ p) ≡ b → (u : List ℕ) × (p ≡ u ++ state rules p)
        → (u : List ℕ) × (x ∷ p ≡ u ++ state rules (x ∷ p))
    go true e ih = ([], rw e)
    go false e ih = (x ∷ ih.0, rw e (cc ih.1))

pub length-state : (rules : List Rule) (p : List ℕ) → length (state rules p) ≤ length p
length-state rules p = let (u, e) = state_suffix rules p in omega (arith, simp length-append at (ap length e))

-- and the longest that is a prefix of a left side
pub state_longest :
    (rules : List Rule) (p u v : List ℕ) → p ≡ u ++ v → is_prefix rules v ≡ true → length v ≤ length (state rules p)
state_longest rules p u v e h = rw e (go u)
  where
    turn : (x : ℕ) (u : List ℕ) (b : Bool) → is_prefix rules (x ∷ u ++ v) ≡ b → length v ≤ length (state rules (u ++ v))
        → length v ≤ length (state rules (x ∷ u ++ v))
    turn x u true e ih = rw (state_self rules (x ∷ u ++ v) e, length-append) (omega arith)
    turn x u false e ih = rw (state-drop rules x (u ++ v) e) ih

    go : (u : List ℕ) → length v ≤ length (state rules (u ++ v))
    go [] = rw (state_self rules v h) (omega arith)
    go (x ∷ u) = turn x u (is_prefix rules (x ∷ u ++ v)) refl (go u)

-- the next state where the state has a child by the symbol
pub next_child : (rules : List Rule) (q : List ℕ) (a : ℕ) → is_prefix rules (q ++ a ∷ []) ≡ true → next rules q a ≡ q ++ a ∷ []
unfolding next
next_child rules q a e = state_self rules (q ++ a ∷ []) e

-- and where it has none: that of its failure state, the state of the string without its first symbol
pub next_fail : (rules : List Rule) (y : ℕ) (p : List ℕ) (a : ℕ) → is_prefix rules (y ∷ p ++ a ∷ []) ≡ false
    → next rules (y ∷ p) a ≡ next rules (state rules p) a
unfolding next
next_fail rules y p a e = state-drop rules y (p ++ a ∷ []) e ∙ sym (state_snoc rules p a)

-- the match word of a state: its own rule, or that of its failure state
pub matching_fail : (rules : List Rule) → NonEmpty rules → (y : ℕ) (p : List ℕ) → Plain p
    → matching rules (y ∷ p) ≡ option_or (own rules (y ∷ p)) (matching rules (state rules p))
unfolding matching own starts symbols_in
matching_fail rules some_left y p h = rw (matching-state rules p h) (go (eqb y mark) refl)
  where
    go : (b : Bool) → eqb y mark ≡ b
        → ending rules b (cond b p (y ∷ p)) ≡ option_or (lowest rules b (cond b p (y ∷ p))) (ending rules false p)
    go true e = ending_start rules some_left p
    go false e = ending_longer rules y p
