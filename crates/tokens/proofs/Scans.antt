-- What a run is, by its first byte, the one behind it and its length.
-- Assumes nothing.
use Prim.Native.Nat.{ℕ, suc, ◌≤◌, ◌<◌}
use mathlib.Core.Path.{◌≡◌, refl}
use mathlib.Core.Bool.{Bool, true, false, cond, ◌&&◌, and-true, and-false}
use mathlib.Core.List.{List, [], ◌∷◌}
use native.Mathlib.Omega.{arith}
use lib.Dec.{eqb, leb}
use lib.ListN.{length, get_or, drop, get_or-eq_default}
use borrow.Author.Tests.{eqb-true, ne_eqb, le-leb, lt-leb}
use Rattle.std.specs.Prelude.{Some, None}
use Rattle.rewriting.specs.Lists.{same}
use Rattle.tokens.specs.declared.Kind.{Kind}
use Rattle.tokens.specs.declared.Kind.TheVariants as kinds
use Rattle.grammar.specs.Tokens.{letter}
use Rattle.tokens.specs.Scanned.{lead, named_as, kind_of}

-- how many bytes stand before a name
pub lead_is :
    (t : List ℕ)
    → lead t
    ≡ cond (eqb (get_or t 0 0) 35) 1
    (cond (eqb (get_or t 0 0) 46) 1 (cond (eqb (get_or t 0 0) 94) 1 (cond (eqb (get_or t 0 0) 45 && eqb 62 (get_or t 1 0)) 2 0)))
unfolding lead
lead_is [] = refl
lead_is (b ∷ []) = refl
lead_is (b ∷ y ∷ t) = rw (and-true (eqb 62 y))

-- behind the last byte, 0 is read
pub first_past : (t : List ℕ) → length t < 1 → get_or t 0 0 ≡ 0
first_past t h = get_or-eq_default t 0 {n = 0} (omega arith)

pub second_past : (t : List ℕ) → length t < 2 → get_or t 1 0 ≡ 0
second_past t h = get_or-eq_default t 0 {n = 1} (omega arith)

-- The kind of a run with the name x.
module _ (kind : Kind) (x : List ℕ) where
  named_is : named_as kind x ≡ cond (leb (length x) 24 && letter (get_or x 0 0)) (Some kind) None
  unfolding named_as letter
  named_is = go x
    where
      go : (x : List ℕ) → named_as kind x ≡ cond (leb (length x) 24 && letter (get_or x 0 0)) (Some kind) None
      go [] = refl
      go (b ∷ t) = refl

  pub named_letter : length x ≤ 24 → letter (get_or x 0 0) ≡ true → Some kind ≡ named_as kind x
  named_letter few e = rw (named_is, le-leb (length x) 24 few, e)

  pub named_long : 24 < length x → None ≡ named_as kind x
  named_long many = rw (named_is, lt-leb (length x) 24 many)

  pub named_other : letter (get_or x 0 0) ≡ false → None ≡ named_as kind x
  named_other e = rw (named_is, e, and-false (leb (length x) 24))

  pub named-nothing : length x < 1 → None ≡ named_as kind x
  unfolding letter
  named-nothing none = named_other (rw (first_past x none))

-- what stands behind `-` in an arrow
arrow : (t : List ℕ) → same t (62 ∷ []) ≡ (eqb (suc (length t)) 2 && eqb (get_or t 0 0) 62)
arrow [] = refl
arrow (y ∷ []) = and-true (eqb y 62)
arrow (y ∷ z ∷ u) = rw (ne_eqb (suc (suc (suc (length u)))) 2 (λ e. omega arith)) (and-false (eqb y 62))

-- what a run is
pub kind_is :
    (run : List ℕ)
    → kind_of run
    ≡ cond (eqb (length run) 1 && eqb (get_or run 0 0) 46) (Some kinds.Stop)
    (cond (eqb (length run) 2 && (eqb (get_or run 0 0) 45 && eqb (get_or run 1 0) 62)) (Some kinds.Arrow)
    (cond (eqb (length run) 1 && eqb (get_or run 0 0) 94) (Some kinds.Mark)
    (cond (eqb (get_or run 0 0) 35) (named_as kinds.Word (drop 1 run)) (named_as kinds.Name run))))
unfolding kind_of named_as letter
kind_is [] = refl
kind_is (b ∷ t) = stop (eqb b 46) refl
  where
    P : ℕ → Type 0
    P b =
        kind_of (b ∷ t)
        ≡ cond (eqb (length (b ∷ t)) 1 && eqb b 46) (Some kinds.Stop)
        (cond (eqb (length (b ∷ t)) 2 && (eqb b 45 && eqb (get_or t 0 0) 62)) (Some kinds.Arrow)
        (cond (eqb (length (b ∷ t)) 1 && eqb b 94) (Some kinds.Mark)
        (cond (eqb b 35) (named_as kinds.Word t) (named_as kinds.Name (b ∷ t)))))

    mark : (h : Bool) → eqb b 94 ≡ h → eqb b 46 ≡ false → eqb b 45 ≡ false → P b
    mark true e f g = rw (eqb-true b 94 e) (simp (and-false, and-true))
    mark false e f g = rw (e, f, g) (simp (and-false, and-true))

    dash : (h : Bool) → eqb b 45 ≡ h → eqb b 46 ≡ false → P b
    dash true e f = rw (eqb-true b 45 e) (simp (and-false, and-true) (rw (arrow t)))
    dash false e f = mark (eqb b 94) refl f e

    stop : (h : Bool) → eqb b 46 ≡ h → P b
    stop true e = rw (eqb-true b 46 e) (simp (and-false, and-true))
    stop false e = dash (eqb b 45) refl e

pub kind-word : (run : List ℕ) → get_or run 0 0 ≡ 35 → named_as kinds.Word (drop 1 run) ≡ kind_of run
unfolding kind_of
kind-word [] e = absurd (omega (arith, e))
kind-word (b ∷ t) e = rw e
