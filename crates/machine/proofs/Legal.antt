-- Legal states: those that the check behind refusal 11 takes, but for the capacity. A step leads from one to another.
-- Assumes nothing.
use Prim.Native.Nat.{ℕ, ◌-◌, ◌≤◌}
use mathlib.Core.Path.{◌≡◌, refl}
use mathlib.Core.Bool.{Bool, true}
use Rattle.std.specs.Prelude.{Option, None, Some}
use mathlib.Core.List.{List, [], ◌∷◌, ◌++◌, append_assoc}
use native.Mathlib.Omega.{arith}
use lib.Dec.{ltb}
use lib.ListN.{length, take, drop, length-append, take-append-drop}
use lib.Seq.{append_snoc, take-append-le}
use borrow.Author.Tests.{eq-eqb, lt-ltb}
use Rattle.rewriting.specs.Lists.{below}
use Rattle.rewriting.specs.Rules.{Right, Put, Close, symbols_of, Rule, RuleSet, rule, right_in_range}
use Rattle.rewriting.specs.Occurrences.{scan, redex, ending}
use Rattle.rewriting.proofs.Lists.{and_both, and_right, all_append, all_left, all_right, below_weaken}
use Rattle.rewriting.proofs.Ranges.{right_below, Ranges, rule_at_lem}
use Rattle.rewriting.proofs.Scan.{scan_snoc, redex-take, EndsWith, ending_left}
use Rattle.layout.specs.States.{mark}
use Rattle.layout.proofs.Matching.{Plain, matching-next}
use Rattle.machine.specs.declared.Counts.{Counts}
use Rattle.machine.specs.State.{State, active, replace, settle, step}
use Rattle.machine.specs.Areas.{closes_with, stands_by}
use Rattle.machine.proofs.Machine.{Reaches, Stay, On, more}

-- no left side occurs in the settled string, every symbol is below S, and the verdict is that of its rule
pub record Legal (set : RuleSet) (t : State) : Type 0 where
  pub clean : redex set.rules t.settled ≡ None
  pub symbols : below set.symbols (t.settled ++ t.waiting) ≡ true
  pub stands : stands_by set.rules t.verdict t.rule ≡ true

-- a string that waits whole
pub legal_waiting : (set : RuleSet) (w : List ℕ) → below set.symbols w ≡ true → Legal set (active [] w)
unfolding active redex scan stands_by
legal_waiting set w h = record { clean = refl; symbols = h; stands = refl }

-- further symbols waiting behind
pub legal_more : (set : RuleSet) (t : State) (e : List ℕ) → below set.symbols e ≡ true → Legal set t → Legal set (more t e)
unfolding more
legal_more set t e h f =
    record {
      clean = f.clean;
      symbols =
          rw (← append_assoc t.settled t.waiting e)
          (all_append (λ x. ltb x set.symbols) (t.settled ++ t.waiting) e f.symbols h);
      stands = f.stands;
    }

-- only what is settled, what waits and whether a verdict stands matter of a state with no verdict
pub legal_active : (set : RuleSet) (t : State) (w : List ℕ) → t.waiting ≡ w → Legal set t → Legal set (active t.settled w)
unfolding active stands_by
legal_active set t w e f = record { clean = f.clean; symbols = rw e at f.symbols; stands = refl }

-- the mark is no symbol: it stands nowhere in a string of symbols, ..
pub plain_below : (set : RuleSet) → Ranges set → (p : List ℕ) → below set.symbols p ≡ true → Plain p
plain_below set ranges p h = below_weaken set.symbols mark p ranges.few_symbols h

-- .. so not in the settled string with the first waiting symbol
pub legal_plain : (set : RuleSet) → Ranges set → (t : State) (a : ℕ) (q : List ℕ) → t.waiting ≡ a ∷ q → Legal set t
    → Plain (t.settled ++ a ∷ [])
legal_plain set ranges t a q w f =
    plain_below set ranges (t.settled ++ a ∷ [])
    (all_left (λ x. ltb x set.symbols) (t.settled ++ a ∷ []) q (rw (append_snoc, ← w) f.symbols))

-- a string below S, cut, with others below S behind it
cut_below : (S n : ℕ) (s v q : List ℕ) → below S s ≡ true → below S v ≡ true → below S q ≡ true
    → below S (take n s ++ (v ++ q)) ≡ true
cut_below S n s v q hs hv hq =
    let test : ℕ → Bool = λ x. ltb x S in
    let whole : below S (take n s ++ drop n s) ≡ true = rw take-append-drop hs in
    all_append test (take n s) (v ++ q) (all_left test (take n s) (drop n s) whole) (all_append test v q hv hq)

module _ (set : RuleSet) (ranges : Ranges set) (s : List ℕ) (a : ℕ) (q : List ℕ) (f : Legal set (active s (a ∷ q))) where
  -- no left side ends with a
  legal_none : ending set.rules true (s ++ a ∷ []) ≡ None → Legal set (settle set.rules (s ++ a ∷ []) q None).to
  unfolding settle active stands_by
  legal_none e =
      record { clean = scan_snoc set.rules s a f.clean e; symbols = rw append_snoc f.symbols; stands = refl }

  -- rule i's left side ends with a
  legal_some : (i : ℕ) → ending set.rules true (s ++ a ∷ []) ≡ Some i → Legal set (settle set.rules (s ++ a ∷ []) q (Some i)).to
  unfolding settle active replace symbols_of stands_by closes_with
  legal_some i e = go (rule rules i).right refl
    where
      rules : List Rule
      rules = set.rules

      found : EndsWith rules true (s ++ a ∷ []) i
      found = ending_left rules true (s ++ a ∷ []) i e

      n : ℕ
      n = length (s ++ a ∷ []) - length (rule rules i).left

      short : n ≤ length s
      short = let k : 1 ≤ length (rule rules i).left = found.some_left in simp length-append (omega arith)

      cut : take n (s ++ a ∷ []) ≡ take n s
      cut = take-append-le n s (a ∷ []) short

      clean : redex rules (take n (s ++ a ∷ [])) ≡ None
      clean = rw cut (redex-take rules s n f.clean)

      symbols : (v : List ℕ) → below set.symbols v ≡ true
          → below set.symbols (take n (s ++ a ∷ []) ++ (v ++ q)) ≡ true
      symbols v h =
          let test : ℕ → Bool = λ x. ltb x set.symbols in
          rw cut
          (cut_below set.symbols n s v q (all_left test s (a ∷ q) f.symbols) h
          (and_right (test a) (below set.symbols q) (all_right test s (a ∷ q) f.symbols)))

      in_range_lem : right_in_range set (rule rules i).right ≡ true
      in_range_lem = (rule_at_lem set ranges i found.is-rule).right_in_range_lem

      go : (r : Right) → (rule rules i).right ≡ r → Legal set (replace (take n (s ++ a ∷ [])) q i r).to
      go (Put v) h =
          record {
            clean = clean;
            symbols = symbols v (rw h at (right_below set (rule rules i).right in_range_lem));
            stands = refl;
          }
      go (Close v) h =
          record {
            clean = clean;
            symbols = symbols [] refl;
            stands = and_both (lt-ltb i (length rules) found.is-rule) (rw h (eq-eqb v v refl));
          }

-- a step
pub legal_step : (set : RuleSet) → Ranges set → (s : List ℕ) (a : ℕ) (q : List ℕ) → Legal set (active s (a ∷ q))
    → Legal set (step set.rules s a q).to
unfolding step active
legal_step set ranges s a q f =
    rw (matching-next set.rules s a (legal_plain set ranges (active s (a ∷ q)) a q refl f))
    (go (ending set.rules true (s ++ a ∷ [])) refl)
  where
    go : (m : Option ℕ) → ending set.rules true (s ++ a ∷ []) ≡ m → Legal set (settle set.rules (s ++ a ∷ []) q m).to
    go None e = legal_none set ranges s a q f e
    go (Some i) e = legal_some set ranges s a q f i e

-- any steps
pub legal_reaches : (set : RuleSet) → Ranges set → {s : State} {c : Counts} {t : State} → Reaches set.rules s c t → Legal set s
    → Legal set t
legal_reaches set ranges Stay f = f
legal_reaches set ranges (On {t = t} a q r v w) f =
    legal_step set ranges t.settled a q (legal_active set t (a ∷ q) w (legal_reaches set ranges r f))
