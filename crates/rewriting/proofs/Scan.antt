-- How the search for a redex goes along a string, and what the searches that it is made of find.
-- Assumes nothing.
use Prim.Native.Nat.{ℕ, zero, suc, ◌+◌, ◌-◌, ◌≤◌, ◌<◌, suc-le-suc}
use mathlib.Core.Path.{◌≡◌, refl, sym, ap, subst, ◌∙◌}
use mathlib.Core.Bool.{Bool, true, false, cond, ◌&&◌}
use mathlib.Core.Logic.{◌⊎◌, inl, inr, ⊎_elim}
use Rattle.std.specs.Prelude.{Option, None, Some, option_map}
use Rattle.std.specs.Option.{option_or}
use mathlib.Core.List.{List, [], ◌∷◌, ◌++◌, append-nil}
use native.Mathlib.Omega.{arith}
use native.Mathlib.Nat.{eq-or-lt_of_le, le_of_suc-le-suc, not-suc-le-zero}
use lib.ListN.{length, take, drop, length-append, take-append-drop}
use lib.Seq.{append_snoc, take_at}
use Rattle.rewriting.specs.Lists.{alike, same}
use Rattle.rewriting.specs.Rules.{Rule, rule}
use Rattle.rewriting.specs.Occurrences.{Occurrence, Stronger, lowest, spanning, ending, cut, ending_at, scan, redex}
use Rattle.rewriting.proofs.Lists.{and_left, and_right, and_both, not-true, alike_eq, eq_alike, same_eq, eq_same}
use Rattle.rewriting.proofs.Choice.{tie-some}

-- what is made of nothing is nothing, and of nothing else
map_none : {A B : Type 0} (f : A → B) (o : Option A) → option_map f o ≡ None → o ≡ None
map_none f None e = refl
map_none f (Some x) e = let z : ◌≡◌ {A = ℕ} 0 1 = cc in absurd (omega arith)

-- neither of two is found where the first that is found is none
or_else_none : {A : Type 0} (x y : Option A) → option_or x y ≡ None → (x ≡ None) × (y ≡ None)
or_else_none None y e = (refl, e)
or_else_none (Some a) y e = let z : ◌≡◌ {A = ℕ} 0 1 = cc in absurd (omega arith)

module _ (rules : List Rule) where
  -- one symbol on, where no left side ends with it
  pub scan-next : (p : List ℕ) (a : ℕ) (q : List ℕ) → ending rules true (p ++ a ∷ []) ≡ None
      → scan rules p (a ∷ q) ≡ scan rules (p ++ a ∷ []) q
  unfolding scan
  scan-next p a q e = rw e

  -- where one ends with it, the search takes it
  pub scan_found : (p : List ℕ) (a : ℕ) (q : List ℕ) (i : ℕ) → ending rules true (p ++ a ∷ []) ≡ Some i
      → scan rules p (a ∷ q) ≡ Some (ending_at rules (p ++ a ∷ []) q i)
  unfolding scan
  scan_found p a q i e = rw e

  -- nothing is found from p on only where no left side ends with the next symbol
  pub scan-ending : (p : List ℕ) (a : ℕ) (q : List ℕ) → scan rules p (a ∷ q) ≡ None → ending rules true (p ++ a ∷ []) ≡ None
  unfolding scan
  scan-ending p a q e =
      map_none (ending_at rules (p ++ a ∷ []) q) (ending rules true (p ++ a ∷ [])) (or_else_none _ _ e).0

  -- what is found from p on ends with the next symbol, or is found behind it
  pub scan-some : (p : List ℕ) (a : ℕ) (q : List ℕ) (o : Occurrence) → scan rules p (a ∷ q) ≡ Some o
      → ((i : ℕ) × (ending rules true (p ++ a ∷ []) ≡ Some i) × (ending_at rules (p ++ a ∷ []) q i ≡ o))
      ⊎ ((ending rules true (p ++ a ∷ []) ≡ None) × (scan rules (p ++ a ∷ []) q ≡ Some o))
  scan-some p a q o e = go (ending rules true (p ++ a ∷ [])) refl
    where
      go : (f : Option ℕ) → ending rules true (p ++ a ∷ []) ≡ f
          → ((i : ℕ) × (ending rules true (p ++ a ∷ []) ≡ Some i) × (ending_at rules (p ++ a ∷ []) q i ≡ o))
          ⊎ ((ending rules true (p ++ a ∷ []) ≡ None) × (scan rules (p ++ a ∷ []) q ≡ Some o))
      go None last = inr (last, sym (scan-next p a q last) ∙ e)
      go (Some i) last = inl (i, last, (cc (scan_found p a q i last)))

  -- where nothing ends in u, the search goes on behind it
  pub scan-none : (p u v : List ℕ) → scan rules p u ≡ None → scan rules p (u ++ v) ≡ scan rules (p ++ u) v
  scan-none p [] v e = rw append-nil
  scan-none p (a ∷ u) v e =
      let last : ending rules true (p ++ a ∷ []) ≡ None = scan-ending p a u e in
      let rest : scan rules (p ++ a ∷ []) u ≡ None = sym (scan-next p a u last) ∙ e in
      scan-next p a (u ++ v) last ∙ rw append_snoc at (scan-none (p ++ a ∷ []) u v rest)

  -- where nothing ends in u ++ v, nothing ends in u
  pub scan_none_left : (p u v : List ℕ) → scan rules p (u ++ v) ≡ None → scan rules p u ≡ None
  unfolding scan
  scan_none_left p [] v e = refl
  scan_none_left p (a ∷ u) v e =
      let last : ending rules true (p ++ a ∷ []) ≡ None = scan-ending p a (u ++ v) e in
      let rest : scan rules (p ++ a ∷ []) (u ++ v) ≡ None = sym (scan-next p a (u ++ v) last) ∙ e in
      scan-next p a u last ∙ scan_none_left (p ++ a ∷ []) u v rest

  -- a string without an occurrence is passed over
  pub redex_behind : (p v : List ℕ) → redex rules p ≡ None → redex rules (p ++ v) ≡ scan rules p v
  unfolding redex
  redex_behind p v e = scan-none [] p v e

  -- it stays without one by a symbol with which no left side ends
  pub scan_snoc : (p : List ℕ) (a : ℕ) → redex rules p ≡ None → ending rules true (p ++ a ∷ []) ≡ None
      → redex rules (p ++ a ∷ []) ≡ None
  unfolding scan
  scan_snoc p a e last = redex_behind p (a ∷ []) e ∙ scan-next p a [] last

  -- and a left side that ends with the next symbol is the redex, whatever follows
  pub redex_found : (p : List ℕ) (a : ℕ) (q : List ℕ) (i : ℕ) → redex rules p ≡ None → ending rules true (p ++ a ∷ []) ≡ Some i
      → redex rules (p ++ a ∷ q) ≡ Some (ending_at rules (p ++ a ∷ []) q i)
  redex_found p a q i e last = redex_behind p (a ∷ q) e ∙ scan_found p a q i last

  -- a beginning of a string without an occurrence has none
  pub redex_left : (p v : List ℕ) → redex rules (p ++ v) ≡ None → redex rules p ≡ None
  unfolding redex
  redex_left p v e = scan_none_left [] p v e

  pub redex-take : (p : List ℕ) (n : ℕ) → redex rules p ≡ None → redex rules (take n p) ≡ None
  redex-take p n e = redex_left (take n p) (drop n p) (rw take-append-drop e)

  -- no left side ends a string without an occurrence
  pub ending-none : (p : List ℕ) (a : ℕ) → redex rules (p ++ a ∷ []) ≡ None → ending rules true (p ++ a ∷ []) ≡ None
  ending-none p a e = scan-ending p a [] (sym (redex_behind p (a ∷ []) (redex_left p (a ∷ []) e)) ∙ e)

-- rule j has the left side v, and a mark or not
abbrev pub HasLeft : List Rule → Bool → List ℕ → ℕ → Type 0
HasLeft rules marked v j = ((rule rules j).marked ≡ marked) × ((rule rules j).left ≡ v)

-- a statement of every such rule: of the first, and of the others
each_with_left : (r : Rule) (rules : List Rule) (marked : Bool) (v : List ℕ) (P : ℕ → Type 0)
    → ((r.marked ≡ marked) × (r.left ≡ v) → P 0)
    → ((j : ℕ) → j < length rules → HasLeft rules marked v j → P (suc j))
    → (j : ℕ) → j < length (r ∷ rules) → HasLeft (r ∷ rules) marked v j → P j
unfolding rule
each_with_left r rules marked v P first others zero h p = first p
each_with_left r rules marked v P first others (suc j) h p = others j (le_of_suc-le-suc h) p

-- what is found is the lowest of these rules, and nothing is found only if there is none
abbrev LowestIs : List Rule → Bool → List ℕ → Option ℕ → Type 0
LowestIs rules marked v None = (j : ℕ) → j < length rules → HasLeft rules marked v j → ⊥
LowestIs rules marked v (Some i) =
    (i < length rules) × HasLeft rules marked v i × ((j : ℕ) → j < length rules → HasLeft rules marked v j → i ≤ j)

lowest-is : (rules : List Rule) (marked : Bool) (v : List ℕ) → LowestIs rules marked v (lowest rules marked v)
unfolding lowest rule
lowest-is [] marked v = λ j h p. not-suc-le-zero h
lowest-is (r ∷ rules) marked v =
    go (alike marked r.marked && same r.left v) refl (lowest rules marked v) (lowest-is rules marked v)
  where
    differs : (alike marked r.marked && same r.left v) ≡ false → (r.marked ≡ marked) × (r.left ≡ v) → ⊥
    differs s p =
        let t : (alike marked r.marked && same r.left v) ≡ true =
        and_both (eq_alike marked r.marked (sym p.0)) (eq_same r.left v p.1)
        in
        let z : ◌≡◌ {A = ℕ} 0 1 = cc in
        omega arith

    go : (b : Bool) → (alike marked r.marked && same r.left v) ≡ b → (o : Option ℕ) → LowestIs rules marked v o
        → LowestIs (r ∷ rules) marked v (cond b (Some 0) (option_map suc o))
    go true s o f = (
      omega arith,
      (
        sym (alike_eq marked r.marked (and_left (alike marked r.marked) (same r.left v) s)),
        same_eq r.left v (and_right (alike marked r.marked) (same r.left v) s),
      ),
      λ j h p. omega arith,
    )
    go false s None f = each_with_left r rules marked v (λ j. ⊥) (differs s) f
    go false s (Some k) f = (
      omega arith,
      f.1,
      each_with_left r rules marked v (λ j. suc k ≤ j) (λ p. absurd (differs s p)) (λ j h p. suc-le-suc (f.2 j h p)),
    )

-- the rule found has the left side v, and none below it has
pub lowest_left_lem : (rules : List Rule) (marked : Bool) (v : List ℕ) (i : ℕ) → lowest rules marked v ≡ Some i
    → (i < length rules) × HasLeft rules marked v i × ((j : ℕ) → j < length rules → HasLeft rules marked v j → i ≤ j)
lowest_left_lem rules marked v i e = subst (λ o. LowestIs rules marked v o) e (lowest-is rules marked v)

-- nothing is found only if no rule has the left side v
pub lowest-none : (rules : List Rule) (marked : Bool) (v : List ℕ) → lowest rules marked v ≡ None
    → (j : ℕ) → j < length rules → HasLeft rules marked v j → ⊥
lowest-none rules marked v e = subst (λ o. LowestIs rules marked v o) e (lowest-is rules marked v)

-- A rule with the left side v that may occur where v stands: with a mark only at the string's start.
pub record MayOccur (rules : List Rule) (start : Bool) (v : List ℕ) (j : ℕ) : Type 0 where
  pub is-rule : j < length rules
  pub is_left : (rule rules j).left ≡ v
  pub in_place : (rule rules j).marked ≡ true → start ≡ true

-- elsewhere it has no mark
no_mark : {rules : List Rule} {v : List ℕ} {j : ℕ} → MayOccur rules false v j → (rule rules j).marked ≡ false
no_mark {rules} {v} {j} m = go (rule rules j).marked refl
  where
    go : (b : Bool) → (rule rules j).marked ≡ b → (rule rules j).marked ≡ false
    go true e = absurd (not-true (m.in_place e))
    go false e = e

-- rule i is rule j, or taken before it on the same span
abbrev pub NotWeaker : List Rule → ℕ → ℕ → Type 0
NotWeaker rules i j = (i ≡ j) ⊎ Stronger rules i j

-- the lower of two rules of which both have a mark or neither has
lower : (rules : List Rule) (i j : ℕ) → (rule rules i).marked ≡ (rule rules j).marked → i ≤ j → NotWeaker rules i j
lower rules i j e h = ⊎_elim (λ (p : i ≡ j). inl p) (λ (l : i < j). inr (inr (e, l))) (eq-or-lt_of_le h)

-- what is found is a rule that may occur, and is taken before all others; nothing is found only if there is none
abbrev SpanningIs : List Rule → Bool → List ℕ → Option ℕ → Type 0
SpanningIs rules start v None = (j : ℕ) → MayOccur rules start v j → ⊥
SpanningIs rules start v (Some i) = MayOccur rules start v i × ((j : ℕ) → MayOccur rules start v j → NotWeaker rules i j)

elsewhere : (rules : List Rule) (v : List ℕ) (o : Option ℕ) → LowestIs rules false v o → SpanningIs rules false v o
elsewhere rules v None f = λ j m. f j m.is-rule (no_mark m, m.is_left)
elsewhere rules v (Some i) f = (
  record { is-rule = f.0; is_left = f.1.1; in_place = λ e. sym f.1.0 ∙ e },
  λ j m. lower rules i j (f.1.0 ∙ sym (no_mark m)) (f.2 j m.is-rule (no_mark m, m.is_left)),
)

at_start_lem :
    (rules : List Rule) (v : List ℕ) (o : Option ℕ) → LowestIs rules true v o → (n : Option ℕ) → LowestIs rules false v n
    → SpanningIs rules true v (option_or o n)
at_start_lem rules v (Some i) f n g = (
  record { is-rule = f.0; is_left = f.1.1; in_place = λ e. refl },
  λ j m. by_mark j m (rule rules j).marked refl,
)
  where
    by_mark : (j : ℕ) → MayOccur rules true v j → (b : Bool) → (rule rules j).marked ≡ b → NotWeaker rules i j
    by_mark j m true e = lower rules i j (f.1.0 ∙ sym e) (f.2 j m.is-rule (e, m.is_left))
    by_mark j m false e = inr (inl (f.1.0, e))
at_start_lem rules v None f (Some i) g = (
  record { is-rule = g.0; is_left = g.1.1; in_place = λ e. refl },
  λ j m. by_mark j m (rule rules j).marked refl,
)
  where
    by_mark : (j : ℕ) → MayOccur rules true v j → (b : Bool) → (rule rules j).marked ≡ b → NotWeaker rules i j
    by_mark j m true e = absurd (f j m.is-rule (e, m.is_left))
    by_mark j m false e = lower rules i j (g.1.0 ∙ sym e) (g.2 j m.is-rule (e, m.is_left))
at_start_lem rules v None f None g = λ j m. by_mark j m (rule rules j).marked refl
  where
    by_mark : (j : ℕ) → MayOccur rules true v j → (b : Bool) → (rule rules j).marked ≡ b → ⊥
    by_mark j m true e = f j m.is-rule (e, m.is_left)
    by_mark j m false e = g j m.is-rule (e, m.is_left)

spanning-is : (rules : List Rule) (start : Bool) (v : List ℕ) → SpanningIs rules start v (spanning rules start v)
unfolding spanning
spanning-is rules true v =
    at_start_lem rules v (lowest rules true v) (lowest-is rules true v) (lowest rules false v) (lowest-is rules false v)
spanning-is rules false v = elsewhere rules v (lowest rules false v) (lowest-is rules false v)

-- the rule found may occur, and is taken before all others that may
pub spanning-some : (rules : List Rule) (start : Bool) (v : List ℕ) (i : ℕ) → spanning rules start v ≡ Some i
    → MayOccur rules start v i × ((j : ℕ) → MayOccur rules start v j → NotWeaker rules i j)
spanning-some rules start v i e = subst (λ o. SpanningIs rules start v o) e (spanning-is rules start v)

-- nothing is found only if none may
pub spanning-none : (rules : List Rule) (start : Bool) (v : List ℕ) → spanning rules start v ≡ None
    → (j : ℕ) → MayOccur rules start v j → ⊥
spanning-none rules start v e = subst (λ o. SpanningIs rules start v o) e (spanning-is rules start v)

-- rule i has a left side that is not empty and that ends p; with a mark it is p, at the string's start
pub record EndsWith (rules : List Rule) (start : Bool) (p : List ℕ) (i : ℕ) : Type 0 where
  pub is-rule : i < length rules
  pub some_left : 1 ≤ length (rule rules i).left
  pub fits : length (rule rules i).left ≤ length p
  pub ends : p ≡ cut rules p i ++ (rule rules i).left
  pub in_place : (rule rules i).marked ≡ true → (start ≡ true) × (cut rules p i ≡ [])

-- any way to split p before the left side will do
pub ends_with : (rules : List Rule) (start : Bool) (p : List ℕ) (i : ℕ) → i < length rules → 1 ≤ length (rule rules i).left
    → (u : List ℕ) → p ≡ u ++ (rule rules i).left → ((rule rules i).marked ≡ true → (start ≡ true) × (u ≡ []))
    → EndsWith rules start p i
ends_with rules start p i h l u e m =
    let n : length p ≡ length u + length (rule rules i).left = simp length-append at (ap length e) in
    let front : take (length p - length (rule rules i).left) (u ++ (rule rules i).left) ≡ u =
    take_at u (rule rules i).left (length p - length (rule rules i).left) (omega arith)
    in
    let before : cut rules p i ≡ u = cc in
    record { is-rule = h; some_left = l; fits = omega arith; ends = cc; in_place = λ k. ((m k).0, before ∙ (m k).1) }

-- the rule that `ending` finds is such a rule
pub ending_left :
    (rules : List Rule) (start : Bool) (p : List ℕ) (i : ℕ) → ending rules start p ≡ Some i → EndsWith rules start p i
unfolding ending
ending_left rules start [] i e = let z : ◌≡◌ {A = ℕ} 0 1 = cc in absurd (omega arith)
ending_left rules start (x ∷ p) i e =
    ⊎_elim whole (λ later. longer (ending_left rules false p i later))
    (tie-some (spanning rules start (x ∷ p)) (ending rules false p) i e)
  where
    whole : spanning rules start (x ∷ p) ≡ Some i → EndsWith rules start (x ∷ p) i
    whole e =
        let found = (spanning-some rules start (x ∷ p) i e).0 in
        ends_with rules start (x ∷ p) i found.is-rule (rw found.is_left (omega arith)) [] (sym found.is_left)
        (λ m. (found.in_place m, refl))

    longer : EndsWith rules false p i → EndsWith rules start (x ∷ p) i
    longer t =
        ends_with rules start (x ∷ p) i t.is-rule t.some_left (x ∷ cut rules p i)
        (ap (λ (l : List ℕ). x ∷ l) t.ends)
        (λ m. absurd (not-true (t.in_place m).0))
