-- Laws of the list of states: which strings it holds, that each stands in it once, and how long it is.
-- Assumes nothing.
use Prim.Native.Nat.{ℕ, zero, suc, ◌+◌, ◌*◌, ◌≤◌, ◌<◌}
use mathlib.Core.Path.{◌≡◌, refl, sym, ap, ◌∙◌}
use mathlib.Core.Bool.{Bool, true, false, cond, ◌&&◌, ◌||◌, or-false, or_assoc, and-false, and-or_distrib_left}
use mathlib.Core.Logic.{◌⊎◌, inl, inr}
use mathlib.Core.List.{List, [], ◌∷◌, ◌++◌, map, flat_map}
use native.Mathlib.Omega.{arith}
use native.Mathlib.Nat.{le_of_suc-le-suc, not-suc-le-zero}
use lib.Dec.{eqb, ltb}
use lib.ListN.{length, get_or, drop, length-append, length-map, get_or-append}
use lib.Seq.{get_or_at}
use borrow.Author.Tests.{ltb-true, ltb-false, eqb-true, eqb-false, eq-eqb, ne_eqb}
use Rattle.rewriting.specs.Lists.{all, same, prefix}
use Rattle.rewriting.specs.Rules.{Rule, RuleSet, rule, rule_in_range, in_range}
use Rattle.rewriting.proofs.Lists.{and_left, and_right, or_cases, or_left, or_right, same_eq, same_refl, prefix_rest}
use Rattle.rewriting.proofs.Ranges.{rule_ranges, Ranges, ranges}
use Rattle.layout.specs.States.{
  mark,
  pattern,
  is_prefix,
  state,
  after,
  next,
  prefixes,
  known,
  numbered,
  has_mark,
  first_states,
  states_most,
  states,
  number,
}
use Rattle.layout.specs.Words.{root, text, NoLonger}
use Rattle.layout.proofs.Matching.{Plain, state-is_prefix, next_child}
use Rattle.layout.proofs.Marks.{mark-prefix, prefix_plain, no_mark_prefix}

eqb-sym : (x y : ℕ) → eqb x y ≡ eqb y x
eqb-sym x y = go (eqb x y) refl
  where
    go : (b : Bool) → eqb x y ≡ b → b ≡ eqb y x
    go true e = sym (eq-eqb y x (sym (eqb-true x y e)))
    go false e = sym (ne_eqb y x (λ p. eqb-false x y e (sym p)))

-- a string with a symbol added at its end is known by what it was before, and by that symbol
pub snoc_parts : (u w : List ℕ) (x y : ℕ) → u ++ x ∷ [] ≡ w ++ y ∷ [] → (u ≡ w) × (x ≡ y)
snoc_parts [] [] x y e = (refl, cc)
snoc_parts [] (z ∷ w) x y e = absurd (omega (arith, simp length-append at (ap length e)))
snoc_parts (z ∷ u) [] x y e = absurd (omega (arith, simp length-append at (ap length e)))
snoc_parts (z ∷ u) (z' ∷ w) x y e =
    let rest : u ++ x ∷ [] ≡ w ++ y ∷ [] = cc in
    let ih = snoc_parts u w x y rest in
    ((cc), ih.1)

pub snoc_some : (u : List ℕ) (x : ℕ) → u ++ x ∷ [] ≡ [] → ⊥
snoc_some u x e = omega (arith, simp length-append at (ap length e))

-- a string stands among two lists if it stands in one of them
pub known_append : (s t : List (List ℕ)) (v : List ℕ) → known (s ++ t) v ≡ (known s v || known t v)
unfolding known
known_append [] t v = refl
known_append (u ∷ s) t v =
    ap (λ (b : Bool). same u v || b) (known_append s t v) ∙ sym (or_assoc (same u v) (known s v) (known t v))

-- after the strings of vs have got numbers, those of s and those of vs have one
pub known-numbered : (s vs : List (List ℕ)) (v : List ℕ) → known (numbered s vs) v ≡ (known s v || known vs v)
unfolding numbered known
known-numbered s [] v = sym (or-false (known s v))
known-numbered s (w ∷ vs) v = known-numbered (cond (known s w) s (s ++ w ∷ [])) vs v ∙ go (known s w) refl
  where
    old : (b : Bool) → same w v ≡ b → known s w ≡ true → (known s v || known vs v) ≡ (known s v || (b || known vs v))
    old true e k = let p : w ≡ v = same_eq w v e in let q : known s v ≡ true = rw (← p) k in rw q
    old false e k = refl

    go : (b : Bool) → known s w ≡ b → (known (cond b s (s ++ w ∷ [])) v || known vs v) ≡ (known s v || (same w v || known vs v))
    go true e = old (same w v) refl e
    go false e = rw (known_append s (w ∷ []) v, or-false, or_assoc)

-- a symbol put before each string of a list
known_map : (y x : ℕ) (v : List ℕ) (s : List (List ℕ)) → known (map (λ u. y ∷ u) s) (x ∷ v) ≡ (eqb y x && known s v)
unfolding known
known_map y x v [] = sym (and-false (eqb y x))
known_map y x v (u ∷ s) = rw (known_map y x v s, and-or_distrib_left)

-- the list of a left side's prefixes holds them all, but for the empty one
known-prefixes : (l v : List ℕ) → (same [] v || known (prefixes l) v) ≡ prefix v l
unfolding known prefixes
known-prefixes l [] = refl
known-prefixes [] (x ∷ v) = refl
known-prefixes (y ∷ l) (x ∷ v) = rw (known_map y x v (prefixes l), ← and-or_distrib_left, known-prefixes l v, eqb-sym y x)

-- the prefixes of all left sides, the mark included, but for the empty one
abbrev pub all_prefixes : List Rule → List (List ℕ)
all_prefixes rules = flat_map (λ r. prefixes (pattern r)) rules

pub known_all : (rules : List Rule) (v : List ℕ) → (same [] v || known (all_prefixes rules) v) ≡ (same [] v || is_prefix rules v)
unfolding known flat_map is_prefix
known_all rules [] = refl
known_all [] (x ∷ v) = refl
known_all (r ∷ rules) (x ∷ v) =
    known_append (prefixes (pattern r)) (all_prefixes rules) (x ∷ v)
    ∙ rw (known-prefixes (pattern r) (x ∷ v), known_all rules (x ∷ v))

-- the states are the empty string and the prefixes of left sides
pub known-states : (rules : List Rule) (v : List ℕ) → known (states rules) v ≡ (same [] v || is_prefix rules v)
unfolding states first_states known
known-states rules v = known-numbered (first_states rules) (all_prefixes rules) v ∙ go (has_mark rules) refl
  where
    alone : (b : Bool) → same (mark ∷ []) v ≡ b → has_mark rules ≡ true
        → (b || (same [] v || false) || known (all_prefixes rules) v) ≡ (same [] v || is_prefix rules v)
    alone true e h =
        let here : mark ∷ [] ≡ v = same_eq (mark ∷ []) v e in
        let there : is_prefix rules v ≡ true = rw (← here) (mark-prefix rules h) in
        sym (or_right (same [] v) (is_prefix rules v) there)
    alone false e h = rw or-false (known_all rules v)

    go : (b : Bool) → has_mark rules ≡ b
        → (known (cond b ((mark ∷ []) ∷ [] ∷ []) ([] ∷ [])) v || known (all_prefixes rules) v) ≡ (same [] v || is_prefix rules v)
    go true h = alone (same (mark ∷ []) v) refl h
    go false h = rw or-false (known_all rules v)

pub known_nil : (rules : List Rule) → known (states rules) [] ≡ true
known_nil rules = known-states rules []

-- every prefix of a left side is a state
pub prefix-known : (rules : List Rule) (v : List ℕ) → is_prefix rules v ≡ true → known (states rules) v ≡ true
prefix-known rules v e = known-states rules v ∙ or_right (same [] v) (is_prefix rules v) e

-- and every state is one, or empty
pub known-prefix : (rules : List Rule) (v : List ℕ) → known (states rules) v ≡ true → (v ≡ []) ⊎ (is_prefix rules v ≡ true)
known-prefix rules [] e = inl refl
known-prefix rules (x ∷ v) e = inr (sym (known-states rules (x ∷ v)) ∙ e)

-- a string with a symbol added is a state just where it is a prefix of a left side
pub known_snoc : (rules : List Rule) (v : List ℕ) (a : ℕ) → known (states rules) (v ++ a ∷ []) ≡ is_prefix rules (v ++ a ∷ [])
known_snoc rules [] a = known-states rules (a ∷ [])
known_snoc rules (y ∷ v) a = known-states rules (y ∷ v ++ a ∷ [])

-- and then it is the next state
pub next_listed :
    (rules : List Rule) (v : List ℕ) (a : ℕ) → known (states rules) (v ++ a ∷ []) ≡ true → next rules v a ≡ v ++ a ∷ []
next_listed rules v a k = next_child rules v a (sym (known_snoc rules v a) ∙ k)

-- what a string leads to is a state
pub state-known : (rules : List Rule) (p : List ℕ) → known (states rules) (state rules p) ≡ true
state-known rules p = go (state-is_prefix rules p)
  where
    go : (state rules p ≡ []) ⊎ (is_prefix rules (state rules p) ≡ true) → known (states rules) (state rules p) ≡ true
    go (inl e) = rw e (known_nil rules)
    go (inr e) = prefix-known rules (state rules p) e

pub next_known : (rules : List Rule) (q : List ℕ) (a : ℕ) → known (states rules) (next rules q a) ≡ true
unfolding next
next_known rules q a = state-known rules (q ++ a ∷ [])

-- the number of a string that stands in the list is its place
pub number_at : (s : List (List ℕ)) (v : List ℕ) → known s v ≡ true → (number s v < length s) × (get_or s (number s v) [] ≡ v)
unfolding known number
number_at [] v e = let z : ◌≡◌ {A = ℕ} 0 1 = cc in absurd (omega arith)
number_at (u ∷ s) v e = go (same u v) refl e (number_at s v)
  where
    go : (b : Bool) → same u v ≡ b → (b || known s v) ≡ true
        → (known s v ≡ true → (number s v < length s) × (get_or s (number s v) [] ≡ v))
        → (number (u ∷ s) v < length (u ∷ s)) × (get_or (u ∷ s) (number (u ∷ s) v) [] ≡ v)
    go true p k ih = rw p (omega arith, same_eq u v p)
    go false p k ih = rw p (let h : number s v < length s = (ih k).0 in omega arith, (ih k).1)

-- a next state has a number
pub next-below : (rules : List Rule) (q : List ℕ) (a : ℕ) → number (states rules) (next rules q a) < length (states rules)
next-below rules q a = (number_at (states rules) (next rules q a) (next_known rules q a)).0

-- each string of the list stands in it
pub known_at : (s : List (List ℕ)) (i : ℕ) → i < length s → known s (get_or s i []) ≡ true
unfolding known
known_at [] i h = absurd (not-suc-le-zero h)
known_at (u ∷ s) zero h = or_left (same u u) (known s u) (same_refl u)
known_at (u ∷ s) (suc i) h =
    or_right (same u (get_or s i [])) (known s (get_or s i [])) (known_at s i (le_of_suc-le-suc h))

-- each state listed is empty or a prefix of a left side
pub listed_prefix : (rules : List Rule) (i : ℕ) → i < length (states rules)
    → (text rules i ≡ []) ⊎ (is_prefix rules (text rules i) ≡ true)
listed_prefix rules i h = known-prefix rules (text rules i) (known_at (states rules) i h)

-- a string keeps its number when others follow
pub number_old : (s t : List (List ℕ)) (v : List ℕ) → known s v ≡ true → number (s ++ t) v ≡ number s v
unfolding known number
number_old [] t v e = let z : ◌≡◌ {A = ℕ} 0 1 = cc in absurd (omega arith)
number_old (u ∷ s) t v e = go (same u v) refl e (number_old s t v)
  where
    go : (b : Bool) → same u v ≡ b → (b || known s v) ≡ true → (known s v ≡ true → number (s ++ t) v ≡ number s v)
        → number (u ∷ s ++ t) v ≡ number (u ∷ s) v
    go true p k ih = rw p
    go false p k ih = rw (p, ih k)

-- a new string gets the next number
pub number_new : (s : List (List ℕ)) (v : List ℕ) → known s v ≡ false → number (s ++ v ∷ []) v ≡ length s
unfolding known number
number_new [] v e = rw (same_refl v)
number_new (u ∷ s) v e = go (same u v) refl e (number_new s v)
  where
    go : (b : Bool) → same u v ≡ b → (b || known s v) ≡ false → (known s v ≡ false → number (s ++ v ∷ []) v ≡ length s)
        → number (u ∷ s ++ v ∷ []) v ≡ suc (length s)
    go true p k ih = let z : ◌≡◌ {A = ℕ} 0 1 = cc in absurd (omega arith)
    go false p k ih = rw (p, ih k)

-- what holds of a list and of it with a new string added holds when strings get numbers
numbered_keeps : (P : List (List ℕ) → Type 0) → ((s : List (List ℕ)) (v : List ℕ) → known s v ≡ false → P s → P (s ++ v ∷ []))
    → (s vs : List (List ℕ)) → P s → P (numbered s vs)
unfolding numbered
numbered_keeps P grow s [] h = h
numbered_keeps P grow s (v ∷ vs) h = numbered_keeps P grow (cond (known s v) s (s ++ v ∷ [])) vs (go (known s v) refl)
  where
    go : (b : Bool) → known s v ≡ b → P (cond b s (s ++ v ∷ []))
    go true e = h
    go false e = grow s v e h

-- what holds of the first states, marked or not, and keeps when a new string is added, holds of all states
states_keep : (P : List (List ℕ) → Type 0) → ((s : List (List ℕ)) (v : List ℕ) → known s v ≡ false → P s → P (s ++ v ∷ []))
    → (rules : List Rule) → P (first_states rules) → P (states rules)
unfolding states
states_keep P grow rules h = numbered_keeps P grow (first_states rules) (all_prefixes rules) h

-- how a string is found in a list that grows at its end
kept_at : (i : ℕ) (u : List ℕ) (s : List (List ℕ)) (v : List ℕ) → known s v ≡ false → (i < length s) × (get_or s i [] ≡ u)
    → (i < length (s ++ v ∷ [])) × (get_or (s ++ v ∷ []) i [] ≡ u)
kept_at i u s v new h = (simp length-append (omega arith), get_or-append s (v ∷ []) [] i h.0 ∙ h.1)

pub first_root :
    (rules : List Rule) → (root rules < length (first_states rules)) × (get_or (first_states rules) (root rules) [] ≡ [])
unfolding root first_states
first_root rules = go (has_mark rules)
  where
    go : (b : Bool) → (cond b 1 0 < length (cond b ((mark ∷ []) ∷ [] ∷ []) ([] ∷ [])))
        × (get_or (cond b ((mark ∷ []) ∷ [] ∷ []) ([] ∷ [])) (cond b 1 0) [] ≡ [])
    go true = (omega arith, refl)
    go false = (omega arith, refl)

root_there : (rules : List Rule) → (root rules < length (states rules)) × (text rules (root rules) ≡ [])
root_there rules =
    states_keep (λ s. (root rules < length s) × (get_or s (root rules) [] ≡ [])) (kept_at (root rules) []) rules
    (first_root rules)

-- the empty string is the root
pub root_below : (rules : List Rule) → root rules < length (states rules)
root_below rules = (root_there rules).0

pub some-state : (rules : List Rule) → 0 < length (states rules)
some-state rules = omega (arith, root_below rules)

pub root-text : (rules : List Rule) → text rules (root rules) ≡ []
root-text rules = (root_there rules).1

-- it is state 0 or 1
pub root_small : (rules : List Rule) → root rules ≤ 1
unfolding root
root_small rules = go (has_mark rules)
  where
    go : (b : Bool) → cond b 1 0 ≤ 1
    go true = omega arith
    go false = omega arith

-- where it is 1, state 0 is the mark alone
pub first_mark :
    (rules : List Rule) → 0 < root rules → (0 < length (first_states rules)) × (get_or (first_states rules) 0 [] ≡ mark ∷ [])
unfolding root first_states
first_mark rules = go (has_mark rules)
  where
    go : (b : Bool) → 0 < cond b 1 0
        → (0 < length (cond b ((mark ∷ []) ∷ [] ∷ []) ([] ∷ [])))
        × (get_or (cond b ((mark ∷ []) ∷ [] ∷ []) ([] ∷ [])) 0 [] ≡ mark ∷ [])
    go true h = (omega arith, refl)
    go false h = absurd (omega arith)

pub mark-text : (rules : List Rule) → 0 < root rules → text rules 0 ≡ mark ∷ []
mark-text rules h =
    (states_keep (λ s. (0 < length s) × (get_or s 0 [] ≡ mark ∷ [])) (kept_at 0 (mark ∷ [])) rules (first_mark rules h)).1

-- each string of the list stands in it once
abbrev pub Once : List (List ℕ) → Type 0
Once s = (i : ℕ) → i < length s → number s (get_or s i []) ≡ i

pub once_new : (s : List (List ℕ)) (v : List ℕ) → known s v ≡ false → Once s → Once (s ++ v ∷ [])
once_new s v new once i h = go (ltb i (length s)) refl
  where
    go : (b : Bool) → ltb i (length s) ≡ b → number (s ++ v ∷ []) (get_or (s ++ v ∷ []) i []) ≡ i
    go true e =
        let lt : i < length s = ltb-true i (length s) e in
        rw (get_or-append s (v ∷ []) [] i lt, number_old s (v ∷ []) (get_or s i []) (known_at s i lt)) (once i lt)
    go false e =
        let here : length s ≡ i = omega (arith, ltb-false i (length s) e, simp length-append at h) in
        rw (get_or_at s v [] [] i here, number_new s v new) here

pub first_once : (rules : List Rule) → Once (first_states rules)
unfolding first_states number
first_once rules = go (has_mark rules)
  where
    two : Once ((mark ∷ []) ∷ [] ∷ [])
    two zero h = refl
    two (suc zero) h = refl
    two (suc (suc i)) h = absurd (omega arith)

    one : Once ([] ∷ [])
    one zero h = refl
    one (suc i) h = absurd (omega arith)

    go : (b : Bool) → Once (cond b ((mark ∷ []) ∷ [] ∷ []) ([] ∷ []))
    go true = two
    go false = one

-- no state stands twice: the number of the state at place i is i
pub number_back : (rules : List Rule) (i : ℕ) → i < length (states rules) → number (states rules) (text rules i) ≡ i
number_back rules = states_keep Once once_new rules (first_once rules)

pub number-root : (rules : List Rule) → number (states rules) [] ≡ root rules
number-root rules = rw root-text at (number_back rules (root rules) (root_below rules))

-- the state after nothing is state 0: the mark alone, or the empty string where no rule has a mark
pub number_start : (set : RuleSet) → Ranges set → number (states set.rules) (after set.rules []) ≡ 0
unfolding state root
number_start set h = go (has_mark set.rules) refl
  where
    go : (b : Bool) → has_mark set.rules ≡ b → number (states set.rules) (after set.rules []) ≡ 0
    go true e =
        let pos : 0 < root set.rules = rw e (omega arith) in
        rw (mark-prefix set.rules e, ← mark-text set.rules pos) (number_back set.rules 0 (some-state set.rules))
    go false e = rw (no_mark_prefix set h.few_symbols set.rules h.all_rules e []) (number-root set.rules ∙ rw e)

-- a child's number is behind the root's
pub child_behind : (rules : List Rule) (v : List ℕ) (a : ℕ) → a < mark → known (states rules) (v ++ a ∷ []) ≡ true
    → root rules < number (states rules) (v ++ a ∷ [])
child_behind rules v a small k = go (ltb 0 (root rules)) refl
  where
    there : text rules (number (states rules) (v ++ a ∷ [])) ≡ v ++ a ∷ []
    there = (number_at (states rules) (v ++ a ∷ []) k).1

    not_root : number (states rules) (v ++ a ∷ []) ≡ root rules → ⊥
    not_root e = snoc_some v a (sym there ∙ ap (text rules) e ∙ root-text rules)

    not_first : 0 < root rules → number (states rules) (v ++ a ∷ []) ≡ 0 → ⊥
    not_first pos e =
        omega (arith, (snoc_parts v [] a mark (sym there ∙ ap (text rules) e ∙ mark-text rules pos)).1)

    go : (b : Bool) → ltb 0 (root rules) ≡ b → root rules < number (states rules) (v ++ a ∷ [])
    go true e =
        let other : number (states rules) (v ++ a ∷ []) ≡ 0 → ⊥ = not_first (ltb-true 0 (root rules) e) in
        omega (arith, root_small rules, not_root, other)
    go false e = omega (arith, ltb-false 0 (root rules) e, not_root)

pub child_some : (rules : List Rule) (v : List ℕ) (a : ℕ) → a < mark → known (states rules) (v ++ a ∷ []) ≡ true
    → number (states rules) (v ++ a ∷ []) ≡ 0 → ⊥
child_some rules v a small k e = omega (arith, child_behind rules v a small k)

-- each state but the root has a symbol, or the mark
pub state_long : (rules : List Rule) (c : ℕ) → (c ≡ root rules → ⊥) → c < length (states rules) → 0 < length (text rules c)
state_long rules c other below = go (text rules c) refl
  where
    go : (v : List ℕ) → text rules c ≡ v → 0 < length v
    go [] e = absurd (other (sym (number_back rules c below) ∙ ap (number (states rules)) e ∙ number-root rules))
    go (y ∷ w) e = omega arith

pub length-numbered : (s vs : List (List ℕ)) → length (numbered s vs) ≤ length s + length vs
unfolding numbered
length-numbered s [] = omega arith
length-numbered s (v ∷ vs) = go (known s v) (length-numbered (cond (known s v) s (s ++ v ∷ [])) vs)
  where
    go : (b : Bool) → length (numbered s (v ∷ vs)) ≤ length (cond b s (s ++ v ∷ [])) + length vs
        → length (numbered s (v ∷ vs)) ≤ length s + length (v ∷ vs)
    go true h = omega arith
    go false h = omega (arith, simp length-append at h)

pub length-prefixes : (l : List ℕ) → length (prefixes l) ≡ length l
unfolding prefixes
length-prefixes [] = refl
length-prefixes (x ∷ l) = rw (length-map, length-prefixes l)

pub numbered_append : (s u v : List (List ℕ)) → numbered s (u ++ v) ≡ numbered (numbered s u) v
unfolding numbered
numbered_append s [] v = refl
numbered_append s (x ∷ u) v = numbered_append (cond (known s x) s (s ++ x ∷ [])) u v

pub numbered-known :
    (s : List (List ℕ)) (v : List ℕ) (vs : List (List ℕ)) → known s v ≡ true → numbered s (v ∷ vs) ≡ numbered s vs
unfolding numbered
numbered-known s v vs e = rw e

-- a left side brings at most as many states as it has symbols: the mark alone is there already
pub few_pattern : (s : List (List ℕ)) (r : Rule) → (r.marked ≡ true → known s (mark ∷ []) ≡ true)
    → length (numbered s (prefixes (pattern r))) ≤ length s + length r.left
unfolding pattern prefixes
few_pattern s r there = go r.marked refl
  where
    go : (b : Bool) → r.marked ≡ b → length (numbered s (prefixes (cond b (mark ∷ r.left) r.left))) ≤ length s + length r.left
    go true e =
        rw (numbered-known s (mark ∷ []) (map (λ v. mark ∷ v) (prefixes r.left)) (there e))
        (omega (
          arith,
          length-numbered s (map (λ v. mark ∷ v) (prefixes r.left)),
          length-map (prefixes r.left) (λ (v : List ℕ). mark ∷ v),
          length-prefixes r.left,
        ))
    go false e = omega (arith, length-numbered s (prefixes r.left), length-prefixes r.left)

-- and so do several
pub few_numbered : (rules : List Rule) (s : List (List ℕ)) → (has_mark rules ≡ true → known s (mark ∷ []) ≡ true)
    → length (numbered s (all_prefixes rules)) ≤ length s + length (flat_map (λ r. r.left) rules)
unfolding flat_map numbered has_mark
few_numbered [] s there = omega arith
few_numbered (r ∷ rules) s there =
    let first : length (numbered s (prefixes (pattern r))) ≤ length s + length r.left =
    few_pattern s r (λ m. there (or_left r.marked (has_mark rules) m))
    in
    let rest =
    few_numbered rules (numbered s (prefixes (pattern r)))
    (λ m. known-numbered s (prefixes (pattern r)) (mark ∷ [])
    ∙ or_left (known s (mark ∷ [])) (known (prefixes (pattern r)) (mark ∷ [])) (there (or_right r.marked (has_mark rules) m)))
    in
    rw (numbered_append s (prefixes (pattern r)) (all_prefixes rules), length-append) (omega arith)

-- left sides in range have at most 8 symbols each
pub few_left : (set : RuleSet) (rules : List Rule) → all (rule_in_range set) rules ≡ true
    → length (flat_map (λ r. r.left) rules) ≤ 8 * length rules
unfolding flat_map
few_left set [] e = omega arith
few_left set (r ∷ rules) e =
    let own = rule_ranges set r (and_left (rule_in_range set r) (all (rule_in_range set) rules) e) in
    let rest = few_left set rules (and_right (rule_in_range set r) (all (rule_in_range set) rules) e) in
    rw length-append (omega (arith, own.short_left))

pub first_few : (rules : List Rule) → length (first_states rules) ≤ 2
unfolding first_states
first_few rules = go (has_mark rules)
  where
    go : (b : Bool) → length (cond b ((mark ∷ []) ∷ [] ∷ []) ([] ∷ [])) ≤ 2
    go true = omega arith
    go false = omega arith

-- the empty string is among the first, and the prefixes of left sides come later
pub first_or_later : (rules rs : List Rule) (v : List ℕ) → is_prefix rs v ≡ true
    → (known (first_states rules) v || known (all_prefixes rs) v) ≡ true
unfolding known first_states
first_or_later rules rs [] e = or_left (known (first_states rules) []) (known (all_prefixes rs) []) (go (has_mark rules))
  where
    go : (b : Bool) → known (cond b ((mark ∷ []) ∷ [] ∷ []) ([] ∷ [])) [] ≡ true
    go true = refl
    go false = refl
first_or_later rules rs (x ∷ v) e =
    or_right (known (first_states rules) (x ∷ v)) (known (all_prefixes rs) (x ∷ v)) (known_all rs (x ∷ v) ∙ e)

pub first_known : (rules : List Rule) → has_mark rules ≡ true → known (first_states rules) (mark ∷ []) ≡ true
unfolding first_states known
first_known rules e = rw e

-- "N may be 514": the mark and the empty string, and at most 64 left sides with at most 8 prefixes each
pub few_states : (set : RuleSet) → in_range set ≡ true → length (states set.rules) ≤ states_most
unfolding states
few_states set e =
    let h = ranges set e in
    let few = few_numbered set.rules (first_states set.rules) (first_known set.rules) in
    omega (arith, first_few set.rules, few_left set set.rules h.all_rules, h.few_rules)

-- with the mark where it has one, a left side is one symbol longer
short_pattern : (r : Rule) (k : ℕ) → (r.marked ≡ true → 1 ≤ k) → length (pattern r) ≤ length r.left + k
unfolding pattern
short_pattern r k room = go r.marked refl
  where
    go : (b : Bool) → r.marked ≡ b → length (cond b (mark ∷ r.left) r.left) ≤ length r.left + k
    go true m = omega (arith, room m)
    go false m = omega arith

-- no prefix is longer than the longest left side and its mark, and so no state is
prefix_short : (n k : ℕ) (rules : List Rule) → NoLonger n rules → (has_mark rules ≡ true → 1 ≤ k)
    → (v : List ℕ) → is_prefix rules v ≡ true → length v ≤ n + k
unfolding is_prefix has_mark rule
prefix_short n k [] e room v p = let z : ◌≡◌ {A = ℕ} 0 1 = cc in absurd (omega arith)
prefix_short n k (r ∷ rules) e room v p =
    go (or_cases (prefix v (pattern r)) (is_prefix rules v) p)
    (prefix_short n k rules (λ i h. e (suc i) (omega arith)) (λ m. room (or_right r.marked (has_mark rules) m)) v)
  where
    own : length r.left ≤ n
    own = e 0 (omega arith)

    go :
        (prefix v (pattern r) ≡ true) ⊎ (is_prefix rules v ≡ true) → (is_prefix rules v ≡ true → length v ≤ n + k)
        → length v ≤ n + k
    go (inl h) ih =
        let size : length (pattern r) ≡ length v + length (drop (length v) (pattern r)) =
        ap length (prefix_rest v (pattern r) h) ∙ length-append v (drop (length v) (pattern r))
        in
        omega (arith, own, short_pattern r k (λ m. room (or_left r.marked (has_mark rules) m)))
    go (inr h) ih = ih h

pub root_marked : (rules : List Rule) → has_mark rules ≡ true → 1 ≤ root rules
unfolding root
root_marked rules e = rw e (omega arith)

pub short_state : (n : ℕ) (rules : List Rule) → NoLonger n rules → (c : ℕ) → c < length (states rules)
    → length (text rules c) ≤ n + root rules
short_state n rules e c h = go (listed_prefix rules c h)
  where
    go : (text rules c ≡ []) ⊎ (is_prefix rules (text rules c) ≡ true) → length (text rules c) ≤ n + root rules
    go (inl p) = let size = ap length p in omega arith
    go (inr p) = prefix_short n (root rules) rules e (root_marked rules) (text rules c) p

-- behind its first place a state has symbols alone
pub state_plain : (set : RuleSet) → in_range set ≡ true → (c y : ℕ) (p : List ℕ) → c < length (states set.rules)
    → text set.rules c ≡ y ∷ p → Plain p
state_plain set e c y p h t = go (listed_prefix set.rules c h)
  where
    go : (text set.rules c ≡ []) ⊎ (is_prefix set.rules (text set.rules c) ≡ true) → Plain p
    go (inl k) = absurd (omega (arith, ap length k, ap length t))
    go (inr k) = prefix_plain set (ranges set e).few_symbols set.rules (ranges set e).all_rules y p (rw t at k)
