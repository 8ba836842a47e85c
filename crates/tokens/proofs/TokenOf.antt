-- Which token a run is, by its kind and the bytes of its name.
-- Assumes nothing.
use Prim.Native.Nat.{ℕ}
use mathlib.Core.Path.{◌≡◌, refl, ◌∙◌}
use mathlib.Core.Bool.{Bool, true, false, cond, ◌&&◌, and-true, and-false}
use Rattle.std.specs.Prelude.{Option, None}
use mathlib.Core.List.{List, [], ◌∷◌}
use native.Mathlib.Omega.{arith}
use lib.Dec.{eqb, leb}
use lib.ListN.{length, drop}
use borrow.Author.Tests.{eqb-true, ne_eqb}
use Rattle.rewriting.specs.Lists.{all, same}
use Rattle.rewriting.proofs.Lists.{same_eq}
use Rattle.tokens.specs.declared.Kind.{Kind}
use Rattle.grammar.specs.Tokens.{letter, name_byte, is_name, Token, token_of}
use Rattle.tokens.specs.Scanned.{lead, named_as, kind_of, token_as, Named}

-- the name in a run: what stands behind its `#`, `.`, `^` or `->`
abbrev pub name_of : List ℕ → List ℕ
name_of run = drop (lead run) run

-- a run of the kind k is the token of that kind, if all bytes of its name may be in one, and then its name is a name
abbrev pub Told : Option Kind → List ℕ → Type 0
Told k run =
    (token_of run ≡ cond (all name_byte (name_of run)) (token_as k (name_of run)) None)
    × (all name_byte (name_of run) ≡ true → Named k (name_of run))

letter-named : (b : ℕ) → letter b ≡ true → name_byte b ≡ true
unfolding name_byte
letter-named b e = rw e

-- a name by its length, its first letter and its bytes
name-is : (y : ℕ) (u : List ℕ) → is_name (y ∷ u) ≡ ((leb (length (y ∷ u)) 24 && letter y) && all name_byte (y ∷ u))
unfolding is_name
name-is y u = go (letter y) refl (leb (length (y ∷ u)) 24)
  where
    go :
        (l : Bool) → letter y ≡ l → (s : Bool) → (l && all name_byte u && s) ≡ ((s && l) && (name_byte y && all name_byte u))
    go true e true = rw (letter-named y e) (and-true (all name_byte u))
    go true e false = and-false (all name_byte u)
    go false e true = refl
    go false e false = refl

-- whatever the bytes, no token
neither : (h : Bool) → ◌≡◌ {A = Option Token} None (cond h None None)
neither true = refl
neither false = refl

told-stop : (t : List ℕ) → Told (kind_of (46 ∷ t)) (46 ∷ t)
unfolding token_of is_name letter kind_of token_as lead
told-stop [] = (refl, λ h. tt)
told-stop (y ∷ u) =
    let more : eqb (length (46 ∷ y ∷ u)) 1 ≡ false =
    ne_eqb (length (46 ∷ y ∷ u)) 1 (λ (e : length (46 ∷ y ∷ u) ≡ 1). omega arith)
    in
    rw more (neither (all name_byte (y ∷ u)), λ h. tt)

told-mark : (t : List ℕ) → Told (kind_of (94 ∷ t)) (94 ∷ t)
unfolding token_of is_name letter kind_of token_as lead
told-mark [] = (refl, λ h. tt)
told-mark (y ∷ u) =
    let more : eqb (length (94 ∷ y ∷ u)) 1 ≡ false =
    ne_eqb (length (94 ∷ y ∷ u)) 1 (λ (e : length (94 ∷ y ∷ u) ≡ 1). omega arith)
    in
    rw more (neither (all name_byte (y ∷ u)), λ h. tt)

told-dash : (t : List ℕ) → Told (kind_of (45 ∷ t)) (45 ∷ t)
unfolding token_of is_name letter kind_of token_as lead
told-dash t = go (same t (62 ∷ [])) refl
  where
    go : (h : Bool) → same t (62 ∷ []) ≡ h → Told (kind_of (45 ∷ t)) (45 ∷ t)
    go true e = rw (same_eq t (62 ∷ []) e) (refl, λ h. tt)
    go false e = rw e (neither (all name_byte (name_of (45 ∷ t))), λ h. tt)

no_name_hash : (t : List ℕ) → is_name (35 ∷ t) ≡ false
unfolding is_name letter
no_name_hash t = refl

empty_no_name : is_name [] ≡ false
unfolding is_name
empty_no_name = refl

told-hash : (t : List ℕ) → Told (kind_of (35 ∷ t)) (35 ∷ t)
unfolding token_of kind_of token_as named_as lead
told-hash [] = rw (no_name_hash [], empty_no_name) (refl, λ h. tt)
told-hash (y ∷ u) = go (leb (length (y ∷ u)) 24 && letter y) refl (name-is y u)
  where
    go :
        (h : Bool) → (leb (length (y ∷ u)) 24 && letter y) ≡ h
        → is_name (y ∷ u) ≡ ((leb (length (y ∷ u)) 24 && letter y) && all name_byte (y ∷ u))
        → Told (kind_of (35 ∷ y ∷ u)) (35 ∷ y ∷ u)
    go true e n =
        let is : is_name (y ∷ u) ≡ all name_byte (y ∷ u) = rw e at n in
        rw (no_name_hash (y ∷ u), is, e) (refl, λ h. is ∙ h)
    go false e n =
        let is : is_name (y ∷ u) ≡ false = rw e at n in
        rw (no_name_hash (y ∷ u), is, e) (neither (all name_byte (y ∷ u)), λ h. tt)

told-name :
    (b : ℕ) (t : List ℕ) → eqb b 46 ≡ false → eqb b 45 ≡ false → eqb b 35 ≡ false → eqb b 94 ≡ false
    → Told (kind_of (b ∷ t)) (b ∷ t)
unfolding token_of kind_of token_as named_as lead
told-name b t stop dash hash mark = go (leb (length (b ∷ t)) 24 && letter b) refl (name-is b t)
  where
    go :
        (h : Bool) → (leb (length (b ∷ t)) 24 && letter b) ≡ h
        → is_name (b ∷ t) ≡ ((leb (length (b ∷ t)) 24 && letter b) && all name_byte (b ∷ t))
        → Told (kind_of (b ∷ t)) (b ∷ t)
    go true e n =
        let is : is_name (b ∷ t) ≡ all name_byte (b ∷ t) = rw e at n in
        rw (is, e, stop, dash, hash, mark) (refl, λ h. is ∙ h)
    go false e n =
        let is : is_name (b ∷ t) ≡ false = rw e at n in
        rw (is, e, stop, dash, hash, mark) (neither (all name_byte (b ∷ t)), λ h. tt)

-- Every run is the token of its kind.
pub told : (run : List ℕ) → Told (kind_of run) run
unfolding token_of kind_of token_as lead
told [] = (refl, λ h. tt)
told (b ∷ t) = stop (eqb b 46) refl
  where
    mark :
        (h : Bool) → eqb b 94 ≡ h → eqb b 46 ≡ false → eqb b 45 ≡ false → eqb b 35 ≡ false → Told (kind_of (b ∷ t)) (b ∷ t)
    mark true e f g k = rw (eqb-true b 94 e) (told-mark t)
    mark false e f g k = told-name b t f g k e

    hash : (h : Bool) → eqb b 35 ≡ h → eqb b 46 ≡ false → eqb b 45 ≡ false → Told (kind_of (b ∷ t)) (b ∷ t)
    hash true e f g = rw (eqb-true b 35 e) (told-hash t)
    hash false e f g = mark (eqb b 94) refl f g e

    dash : (h : Bool) → eqb b 45 ≡ h → eqb b 46 ≡ false → Told (kind_of (b ∷ t)) (b ∷ t)
    dash true e f = rw (eqb-true b 45 e) (told-dash t)
    dash false e f = hash (eqb b 35) refl f e

    stop : (h : Bool) → eqb b 46 ≡ h → Told (kind_of (b ∷ t)) (b ∷ t)
    stop true e = rw (eqb-true b 46 e) (told-stop t)
    stop false e = dash (eqb b 45) refl e
