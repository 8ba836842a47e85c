-- Which occurrence a rewrite takes: the one that ends first, of these the one that begins first, of these a marked one before an
-- unmarked one, of these the lowest rule.
-- Assumes nothing.
use Prim.Native.Nat.{ℕ, ◌≤◌, ◌<◌}
use mathlib.Core.Path.{◌≡◌, refl, sym, ap, subst, ◌∙◌}
use mathlib.Core.Bool.{Bool, true, false}
use mathlib.Core.Logic.{◌⊎◌, inl, inr, ⊎_elim}
use Rattle.std.specs.Prelude.{Option, None, Some}
use mathlib.Core.List.{List, [], ◌∷◌, ◌++◌, append_assoc, append_cancel_right, tail-eq_of_cons-eq}
use native.Mathlib.Omega.{arith}
use native.Mathlib.Nat.{eq-or-lt_of_le}
use lib.ListN.{length, length-append, length-take}
use lib.Seq.{append_snoc, take_at, drop_at}
use Rattle.rewriting.specs.Rules.{Rule, RuleSet, rule, in_range}
use Rattle.rewriting.specs.Occurrences.{
  Occurrence,
  Occurs,
  Stronger,
  Sooner,
  ends,
  spanning,
  ending,
  cut,
  ending_at,
  scan,
  redex,
}
use Rattle.rewriting.proofs.Ranges.{ranges, rule_at_lem}
use Rattle.rewriting.proofs.Choice.{tie-some, tie_earlier, tie_none}
use Rattle.rewriting.proofs.Scan.{
  MayOccur,
  NotWeaker,
  spanning-some,
  spanning-none,
  EndsWith,
  ending_left,
  scan-next,
  scan-some,
  scan-ending,
}

-- "A left side has 1..8 symbols.": none is empty
abbrev pub NonEmpty : List Rule → Type 0
NonEmpty rules = (i : ℕ) → i < length rules → 1 ≤ length (rule rules i).left

-- no left side of a rule set in range is
pub non_empty : (set : RuleSet) → in_range set ≡ true → NonEmpty set.rules
non_empty set e i h = (rule_at_lem set (ranges set e) i h).some_left

-- A rule with a left side that is not empty ends q behind u: with a mark only where q stands at the string's start and u is
-- empty.
pub record Ends (rules : List Rule) (start : Bool) (q : List ℕ) (j : ℕ) (u : List ℕ) : Type 0 where
  pub is-rule : j < length rules
  pub some_left : 1 ≤ length (rule rules j).left
  pub split : q ≡ u ++ (rule rules j).left
  pub in_place : (rule rules j).marked ≡ true → (start ≡ true) × (u ≡ [])

-- with nothing before it, it is a rule that may occur with the left side q
ends_whole : {rules : List Rule} {start : Bool} {q : List ℕ} {j : ℕ} → Ends rules start q j [] → MayOccur rules start q j
ends_whole h = record { is-rule = h.is-rule; is_left = sym h.split; in_place = λ m. (h.in_place m).0 }

-- with a symbol before it, it has no mark and ends what follows that symbol
ends_behind_first :
    {rules : List Rule} {start : Bool} {x : ℕ} {q : List ℕ} {j y : ℕ} {u : List ℕ} → Ends rules start (x ∷ q) j (y ∷ u)
    → Ends rules false q j u
ends_behind_first h =
    record {
      is-rule = h.is-rule;
      some_left = h.some_left;
      split = tail-eq_of_cons-eq h.split;
      in_place = λ m. absurd (omega (arith, ap length (h.in_place m).1));
    }

-- no rule ends q where `ending` finds none
pub ending_none_none : (rules : List Rule) (start : Bool) (q : List ℕ) → ending rules start q ≡ None
    → (j : ℕ) (u : List ℕ) → Ends rules start q j u → ⊥
unfolding ending
ending_none_none rules start [] e j u h = omega (arith, h.some_left, simp length-append at (ap length h.split))
ending_none_none rules start (x ∷ q) e j [] h =
    spanning-none rules start (x ∷ q) (tie_none (spanning rules start (x ∷ q)) (ending rules false q) e).0 j (ends_whole h)
ending_none_none rules start (x ∷ q) e j (y ∷ u) h =
    ending_none_none rules false q (tie_none (spanning rules start (x ∷ q)) (ending rules false q) e).1 j u (ends_behind_first h)

-- "the rule with the longest left side that is a suffix of q's string", marked before unmarked, "the lowest rule among equals"
pub ending_longest : (rules : List Rule) (start : Bool) (q : List ℕ) (i : ℕ) → ending rules start q ≡ Some i
    → (j : ℕ) (u : List ℕ) → Ends rules start q j u
    → (length (rule rules j).left < length (rule rules i).left)
    ⊎ (((rule rules j).left ≡ (rule rules i).left) × NotWeaker rules i j)
unfolding ending
ending_longest rules start [] i e j u h = let z : ◌≡◌ {A = ℕ} 0 1 = cc in absurd (omega arith)
ending_longest rules start (x ∷ q) i e j [] h = inr (go (spanning rules start (x ∷ q)) refl)
  where
    go : (o : Option ℕ) → spanning rules start (x ∷ q) ≡ o → ((rule rules j).left ≡ (rule rules i).left) × NotWeaker rules i j
    go None e' = absurd (spanning-none rules start (x ∷ q) e' j (ends_whole h))
    go (Some k) e' =
        let same : i ≡ k = tie_earlier (spanning rules start (x ∷ q)) (ending rules false q) i k e e' in
        let found = spanning-some rules start (x ∷ q) i (rw same e') in
        (sym h.split ∙ sym found.0.is_left, found.1 j (ends_whole h))
ending_longest rules start (x ∷ q) i e j (y ∷ u) h =
    ⊎_elim
    (λ whole. inl
    (omega (arith, simp length-append at (ap length h.split), ap length (spanning-some rules start (x ∷ q) i whole).0.is_left)))
    (λ later. ending_longest rules false q i later j u (ends_behind_first h))
    (tie-some (spanning rules start (x ∷ q)) (ending rules false q) i e)

-- two ways to split a string at the same place are the same
same_split : (s u t v : List ℕ) → s ++ u ≡ t ++ v → length s ≡ length t → (s ≡ t) × (u ≡ v)
same_split s u t v e n = (
  sym (take_at s u (length s) refl) ∙ rw e (take_at t v (length s) (sym n)),
  sym (drop_at s u (length s) refl) ∙ rw e (drop_at t v (length s) (sym n)),
)

module _ (rules : List Rule) where
  -- the occurrence that `ending` finds at p is one, and it ends where p ends
  ending_occurs : (p q : List ℕ) (i : ℕ) → EndsWith rules true p i → Occurs rules (p ++ q) (ending_at rules p q i)
  unfolding ending_at
  ending_occurs p q i t = (t.is-rule, ap (λ (l : List ℕ). l ++ q) t.ends ∙ simp append_assoc, λ m. (t.in_place m).1)

  ending-ends : (p q : List ℕ) (i : ℕ) → EndsWith rules true p i → ends rules (ending_at rules p q i) ≡ length p
  unfolding ending_at
  ending-ends p q i t = simp length-take (omega arith)

  -- what the search finds is an occurrence
  scan_occurs : (p q : List ℕ) (o : Occurrence) → scan rules p q ≡ Some o → Occurs rules (p ++ q) o
  unfolding scan
  scan_occurs p [] o e = let z : ◌≡◌ {A = ℕ} 0 1 = cc in absurd (omega arith)
  scan_occurs p (a ∷ q) o e =
      rw (← append_snoc p a q)
      (⊎_elim
      (λ (i, last, found). subst (λ o. Occurs rules (p ++ a ∷ [] ++ q) o) found
      (ending_occurs (p ++ a ∷ []) q i (ending_left rules true (p ++ a ∷ []) i last)))
      (λ (last, later). scan_occurs (p ++ a ∷ []) q o later)
      (scan-some rules p a q o e))

  -- the redex is an occurrence
  pub redex_occurs : (w : List ℕ) (o : Occurrence) → redex rules w ≡ Some o → Occurs rules w o
  unfolding redex
  redex_occurs w o e = scan_occurs [] w o e

  -- what stands before and after the end of an occurrence that ends where p ends
  ends_here : (p q : List ℕ) (x : Occurrence) → Occurs rules (p ++ q) x → length p ≡ ends rules x
      → (p ≡ x.before ++ (rule rules x.rule).left) × (q ≡ x.after)
  ends_here p q x occ n =
      same_split p q (x.before ++ (rule rules x.rule).left) x.after (occ.1 ∙ simp append_assoc)
      (simp length-append n)

  -- its rule ends p
  occurs_ends : (p q : List ℕ) (x : Occurrence) → Occurs rules (p ++ q) x → length p ≡ ends rules x
      → 1 ≤ length (rule rules x.rule).left → Ends rules true p x.rule x.before
  occurs_ends p q x occ n l =
      record {
        is-rule = occ.0;
        some_left = l;
        split = (ends_here p q x occ n).0;
        in_place = λ m. (refl, occ.2 m);
      }

-- x is o, or o is taken before it
abbrev First : List Rule → Occurrence → Occurrence → Type 0
First rules o x = (x ≡ o) ⊎ Sooner rules o x

module _ (rules : List Rule) (some_left : NonEmpty rules) where
  -- of the occurrences that end where p ends or later, the one that `ending` finds at p is taken first
  ending_first : (p q : List ℕ) (i : ℕ) → ending rules true p ≡ Some i → (x : Occurrence) → Occurs rules (p ++ q) x
      → length p ≤ ends rules x → First rules (ending_at rules p q i) x
  unfolding ending_at
  ending_first p q i last x occ h = ⊎_elim together (λ later. inr (inl (omega (arith, end)))) (eq-or-lt_of_le h)
    where
      t : EndsWith rules true p i
      t = ending_left rules true p i last

      end : ends rules (ending_at rules p q i) ≡ length p
      end = ending-ends rules p q i t

      equal : length p ≡ ends rules x → (rule rules x.rule).left ≡ (rule rules i).left → NotWeaker rules i x.rule
          → First rules (ending_at rules p q i) x
      equal n s h =
          let here = ends_here rules p q x occ n in
          let front = cut rules p i in
          let begin : x.before ≡ front = append_cancel_right x.before front (rule rules i).left (cc (here.0, t.ends)) in
          ⊎_elim (λ (r : i ≡ x.rule). inl (λ k. record { before = begin k; rule = sym r k; after = sym here.1 k }))
          (λ (weaker : Stronger rules i x.rule). inr (inr (omega (arith, end), inr (sym (ap length begin), weaker)))) h

      together : length p ≡ ends rules x → First rules (ending_at rules p q i) x
      together n =
          ⊎_elim (λ longer. inr (inr (omega (arith, end), inl (omega (arith, end))))) (λ (s, h). equal n s h)
          (ending_longest rules true p i last x.rule x.before
          (occurs_ends rules p q x occ n (some_left x.rule occ.0)))

  -- where `ending` finds none at p, they all end later
  ending_later : (p q : List ℕ) → ending rules true p ≡ None → (x : Occurrence) → Occurs rules (p ++ q) x
      → length p ≤ ends rules x → length p < ends rules x
  ending_later p q last x occ h =
      ⊎_elim
      (λ n. absurd
      (ending_none_none rules true p last x.rule x.before (occurs_ends rules p q x occ n (some_left x.rule occ.0))))
      (λ l. l) (eq-or-lt_of_le h)

  -- of the occurrences that end behind p, the one that the search finds is taken first
  scan_first : (p q : List ℕ) (o : Occurrence) → scan rules p q ≡ Some o → (x : Occurrence) → Occurs rules (p ++ q) x
      → length p < ends rules x → First rules o x
  unfolding scan
  scan_first p [] o e x occ h = let z : ◌≡◌ {A = ℕ} 0 1 = cc in absurd (omega arith)
  scan_first p (a ∷ q) o e x occ h =
      let on : Occurs rules (p ++ a ∷ [] ++ q) x = rw append_snoc occ in
      let far : length (p ++ a ∷ []) ≤ ends rules x = simp length-append (omega arith) in
      ⊎_elim
      (λ (i, last, found). subst (λ o. First rules o x) found (ending_first (p ++ a ∷ []) q i last x on far))
      (λ (last, later). scan_first (p ++ a ∷ []) q o later x on (ending_later (p ++ a ∷ []) q last x on far))
      (scan-some rules p a q o e)

  -- where the search finds none, none ends behind p
  scan_none_none : (p q : List ℕ) → scan rules p q ≡ None → (x : Occurrence) → Occurs rules (p ++ q) x
      → length p < ends rules x → ⊥
  scan_none_none p [] e x occ h = omega (arith, simp length-append at (ap length occ.1))
  scan_none_none p (a ∷ q) e x occ h =
      let last : ending rules true (p ++ a ∷ []) ≡ None = scan-ending rules p a q e in
      let on : Occurs rules (p ++ a ∷ [] ++ q) x = rw append_snoc occ in
      scan_none_none (p ++ a ∷ []) q (sym (scan-next rules p a q last) ∙ e) x on
      (ending_later (p ++ a ∷ []) q last x on (simp length-append (omega arith)))

  -- no occurrence ends where the string begins
  ends_behind : (w : List ℕ) (x : Occurrence) → Occurs rules w x → 0 < ends rules x
  ends_behind w x occ = omega (arith, some_left x.rule occ.0)

  -- every other occurrence ends later, or ends with the redex and begins later, or shares its place and has a weaker rule
  pub redex_first : (w : List ℕ) (o : Occurrence) → redex rules w ≡ Some o → (x : Occurrence) → Occurs rules w x
      → (x ≡ o) ⊎ Sooner rules o x
  unfolding redex
  redex_first w o e x occ = scan_first [] w o e x occ (ends_behind w x occ)

  -- no redex is found only where there is no occurrence
  pub redex-none : (w : List ℕ) → redex rules w ≡ None → (x : Occurrence) → Occurs rules w x → ⊥
  unfolding redex
  redex-none w e x occ = scan_none_none [] w e x occ (ends_behind w x occ)

  -- where there is an occurrence, one is found
  pub redex-some : (w : List ℕ) (x : Occurrence) → Occurs rules w x → (o : Occurrence) × (redex rules w ≡ Some o)
  redex-some w x occ = go (redex rules w) refl
    where
      go : (f : Option Occurrence) → redex rules w ≡ f → (o : Occurrence) × (redex rules w ≡ Some o)
      go None e = absurd (redex-none w e x occ)
      go (Some o) e = (o, e)
