-- Where the mark stands: first in the left side of a marked rule, and nowhere else in a rule set in range.
-- Assumes nothing.
use Prim.Native.Nat.{ℕ, ◌≤◌}
use mathlib.Core.Path.{◌≡◌, refl}
use mathlib.Core.Bool.{Bool, true, false, ◌||◌}
use mathlib.Core.Logic.{◌⊎◌, inl, inr}
use mathlib.Core.List.{List, [], ◌∷◌}
use native.Mathlib.Omega.{arith}
use lib.Dec.{eqb, ltb}
use lib.ListN.{length, drop}
use Rattle.rewriting.specs.Lists.{all, prefix}
use Rattle.rewriting.specs.Rules.{Rule, RuleSet, rule_in_range}
use Rattle.rewriting.proofs.Lists.{and_left, and_right, or_cases, or_right, all_left, below_weaken, prefix_rest}
use Rattle.rewriting.proofs.Ranges.{rule_ranges}
use Rattle.layout.specs.States.{mark, pattern, is_prefix, has_mark}
use Rattle.layout.proofs.Matching.{Plain, plain_first, plain_rest}

-- a marked rule's left side begins with the mark
pub mark-prefix : (rules : List Rule) → has_mark rules ≡ true → is_prefix rules (mark ∷ []) ≡ true
unfolding has_mark is_prefix pattern
mark-prefix [] e = e
mark-prefix (r ∷ rules) e = go r.marked refl e (mark-prefix rules)
  where
    go : (b : Bool) → r.marked ≡ b → (b || has_mark rules) ≡ true → (has_mark rules ≡ true → is_prefix rules (mark ∷ []) ≡ true)
        → is_prefix (r ∷ rules) (mark ∷ []) ≡ true
    go true m h ih = rw m
    go false m h ih = or_right (prefix (mark ∷ []) (pattern r)) (is_prefix rules (mark ∷ [])) (ih h)

-- the beginning of a plain string is plain
pub plain_beginning : (u v : List ℕ) → prefix u v ≡ true → Plain v → Plain u
plain_beginning u v e h = all_left (λ x. ltb x mark) u (drop (length u) v) (rw (prefix_rest u v e) at h)

module _ (set : RuleSet) (few : set.symbols ≤ 32) where
  -- a left side in range is plain
  pub plain_left : (r : Rule) → rule_in_range set r ≡ true → Plain r.left
  plain_left r e = below_weaken set.symbols 32 r.left few (rule_ranges set r e).left_below

  -- behind the first place of a left side and its mark stand symbols alone
  behind_first : (r : Rule) → rule_in_range set r ≡ true → (y : ℕ) (p : List ℕ) → prefix (y ∷ p) (pattern r) ≡ true → Plain p
  unfolding pattern
  behind_first r e y p k = go r.marked refl
    where
      go : (b : Bool) → r.marked ≡ b → Plain p
      go true m = plain_beginning p r.left (and_right (eqb y mark) (prefix p r.left) (rw m at k)) (plain_left r e)
      go false m = plain_rest y p (plain_beginning (y ∷ p) r.left (rw m at k) (plain_left r e))

  pub prefix_plain : (rules : List Rule) → all (rule_in_range set) rules ≡ true → (y : ℕ) (p : List ℕ)
      → is_prefix rules (y ∷ p) ≡ true → Plain p
  unfolding is_prefix
  prefix_plain [] e y p h = let z : ◌≡◌ {A = ℕ} 0 1 = cc in absurd (omega arith)
  prefix_plain (r ∷ rules) e y p h =
      go (or_cases (prefix (y ∷ p) (pattern r)) (is_prefix rules (y ∷ p)) h)
      (prefix_plain rules (and_right (rule_in_range set r) (all (rule_in_range set) rules) e) y p)
    where
      go :
          (prefix (y ∷ p) (pattern r) ≡ true) ⊎ (is_prefix rules (y ∷ p) ≡ true) → (is_prefix rules (y ∷ p) ≡ true → Plain p)
          → Plain p
      go (inl k) ih = behind_first r (and_left (rule_in_range set r) (all (rule_in_range set) rules) e) y p k
      go (inr k) ih = ih k

  -- without a marked rule the mark begins nothing
  pub no_mark_prefix : (rules : List Rule) → all (rule_in_range set) rules ≡ true → has_mark rules ≡ false → (p : List ℕ)
      → is_prefix rules (mark ∷ p) ≡ false
  unfolding has_mark is_prefix pattern
  no_mark_prefix [] e none p = refl
  no_mark_prefix (r ∷ rules) e none p =
      go r.marked refl none (prefix (mark ∷ p) r.left) refl
      (no_mark_prefix rules (and_right (rule_in_range set r) (all (rule_in_range set) rules) e))
    where
      go : (b : Bool) → r.marked ≡ b → (b || has_mark rules) ≡ false → (c : Bool) → prefix (mark ∷ p) r.left ≡ c
          → (has_mark rules ≡ false → (p : List ℕ) → is_prefix rules (mark ∷ p) ≡ false)
          → is_prefix (r ∷ rules) (mark ∷ p) ≡ false
      go true m h c k ih = let z : ◌≡◌ {A = ℕ} 0 1 = cc in absurd (omega arith)
      go false m h true k ih =
          let first : eqb mark mark ≡ false =
          plain_first mark p
          (plain_beginning (mark ∷ p) r.left k (plain_left r (and_left (rule_in_range set r) (all (rule_in_range set) rules) e)))
          in
          let z : ◌≡◌ {A = ℕ} 0 1 = cc in
          absurd (omega arith)
      go false m h false k ih = rw (m, k) (ih h p)
