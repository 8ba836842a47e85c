-- Laws of the plain rewriter: rewrites in a row, where it rests, and how many symbols it puts in.
-- Assumes nothing.
use Prim.Native.Nat.{ℕ, zero, suc, ◌+◌, ◌*◌, ◌≤◌}
use mathlib.Core.Path.{◌≡◌, refl}
use mathlib.Core.Bool.{true}
use Rattle.std.specs.Prelude.{Option, None, Some, option_map, option_and_then}
use mathlib.Core.List.{List}
use native.Mathlib.Omega.{arith}
use Rattle.std.proofs.lemmas.Option.{same_Some}
use native.Mathlib.Nat.{add-zero, add-suc}
use Rattle.rewriting.specs.Rules.{Right, Put, Close, symbols_of, Rule, RuleSet, rule, right_in_range, in_range}
use Rattle.rewriting.specs.Occurrences.{Occurrence, redex}
use Rattle.rewriting.specs.Rewriter.{Rewriter, replaced, unless_verdict, rewrite, rewrites}
use Rattle.rewriting.proofs.Ranges.{length_right, Ranges, ranges, rule_at_lem}
use Rattle.rewriting.proofs.Redex.{redex_occurs}

-- where a rewrite is taken, no verdict stands in its way
unless-some : (v : Option ℕ) (next : Option Rewriter) (d : Rewriter) → unless_verdict v next ≡ Some d → next ≡ Some d
unfolding unless_verdict
unless-some None next d e = e
unless-some (Some v) next d e = let z : ◌≡◌ {A = ℕ} 0 1 = cc in absurd (omega arith)

-- what is made of a thing that was found, and what a second search finds behind a first
map_some : {A B : Type 0} (f : A → B) (o : Option A) (y : B) → option_map f o ≡ Some y → (x : A) × (o ≡ Some x) × (f x ≡ y)
map_some f None y e = let z : ◌≡◌ {A = ℕ} 0 1 = cc in absurd (omega arith)
map_some f (Some x) y e = (x, refl, same_Some (f x) y e)

and_then_some : {A B : Type 0} (f : A → Option B) (o : Option A) (y : B) → option_and_then f o ≡ Some y
    → (x : A) × (o ≡ Some x) × (f x ≡ Some y)
and_then_some f None y e = let z : ◌≡◌ {A = ℕ} 0 1 = cc in absurd (omega arith)
and_then_some f (Some x) y e = (x, refl, e)

module _ (rules : List Rule) where
  -- m + n rewrites are m and then n
  pub rewrites_add : (m n : ℕ) (c : Rewriter) → rewrites rules (m + n) c ≡ option_and_then (rewrites rules n) (rewrites rules m c)
  unfolding rewrites
  rewrites_add m zero c = rw add-zero (go (rewrites rules m c))
    where
      go : (o : Option Rewriter) → o ≡ option_and_then (rewrites rules 0) o
      go None = refl
      go (Some d) = refl
  rewrites_add m (suc n) c = rw (add-suc, rewrites_add m n c) (go (rewrites rules m c))
    where
      go :
          (o : Option Rewriter) → option_and_then (rewrite rules) (option_and_then (rewrites rules n) o)
          ≡ option_and_then (rewrites rules (suc n)) o
      go None = refl
      go (Some d) = refl

  -- one more rewrite is the last
  pub rewrites_one_more : (n : ℕ) (c d e : Rewriter) → rewrites rules n c ≡ Some d → rewrite rules d ≡ Some e
      → rewrites rules (suc n) c ≡ Some e
  unfolding rewrites
  rewrites_one_more n c d e p q = rw p q

  -- "With a verdict it takes no further rewrite."
  pub rewrite_verdict : (c : Rewriter) (v : ℕ) → c.verdict ≡ Some v → rewrite rules c ≡ None
  unfolding rewrite unless_verdict
  rewrite_verdict c v e = rw e

  -- "Without an occurrence it rests."
  pub rewrite_rests : (c : Rewriter) → redex rules c.string ≡ None → rewrite rules c ≡ None
  unfolding rewrite unless_verdict
  rewrite_rests c e = rw e (go c.verdict)
    where
      go : (v : Option ℕ) → unless_verdict v None ≡ None
      go None = refl
      go (Some v) = refl

  -- a rewrite replaces the redex
  pub rewrite-some : (c d : Rewriter) → rewrite rules c ≡ Some d
      → (o : Occurrence) × (redex rules c.string ≡ Some o) × (replaced c.put o (rule rules o.rule).right ≡ d)
  unfolding rewrite
  rewrite-some c d e =
      map_some (λ o. replaced c.put o (rule rules o.rule).right) (redex rules c.string) d
      (unless-some c.verdict _ d e)

-- a right side in range puts in at most 8 symbols
replaced_put : (set : RuleSet) (put : ℕ) (o : Occurrence) (r : Right) → right_in_range set r ≡ true
    → (replaced put o r).put ≤ put + 8
unfolding replaced symbols_of
replaced_put set put o (Put v) e = omega (arith, length_right set (Put v) e)
replaced_put set put o (Close v) e = omega arith

-- and so does a rewrite
rewrite_put : (set : RuleSet) → Ranges set → (c d : Rewriter) → rewrite set.rules c ≡ Some d → d.put ≤ c.put + 8
rewrite_put set h c d e =
    let (o, found, p) = rewrite-some set.rules c d e in
    let in_range_lem = (rule_at_lem set h o.rule (redex_occurs set.rules c.string o found).0).right_in_range_lem in
    rw p at (replaced_put set c.put o (rule set.rules o.rule).right in_range_lem)

-- n rewrites put in at most 8 symbols each
pub put_bound : (set : RuleSet) → in_range set ≡ true → (n : ℕ) (c d : Rewriter) → rewrites set.rules n c ≡ Some d
    → d.put ≤ c.put + 8 * n
unfolding rewrites
put_bound set h zero c d e = let p : c.put ≡ d.put = cc in omega arith
put_bound set h (suc n) c d e =
    let (b, p, q) = and_then_some (rewrite set.rules) (rewrites set.rules n c) d e in
    omega (arith, put_bound set h n c b p, rewrite_put set (ranges set h) b d q)
