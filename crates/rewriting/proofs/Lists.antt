-- Laws of the tests on lists: what each says when it passes, and that it passes where that holds.
-- Assumes nothing.
use Prim.Native.Nat.{ℕ, zero, suc, ◌+◌, ◌*◌, ◌≤◌, ◌<◌}
use mathlib.Core.Path.{◌≡◌, refl, sym, ap, ◌∙◌}
use mathlib.Core.Bool.{Bool, true, false, ◌&&◌, ◌||◌}
use mathlib.Core.Logic.{◌⊎◌, inl, inr, ◌≢◌}
use mathlib.Core.List.{List, [], ◌∷◌, ◌++◌, append_assoc, append-nil, map, flat_map}
use native.Mathlib.Omega.{arith}
use native.Mathlib.Nat.{le_of_suc-le-suc, not-suc-le-zero, zero-mul, suc-mul}
use lib.Dec.{eqb, leb, ltb}
use lib.ListN.{length, get_or, drop, length-append, length-drop, get_or-append}
use lib.Seq.{get_or_at, get_or-append-add}
use borrow.Author.Tests.{eqb-true, eqb-false, eq-eqb, leb-true, ltb-true, ltb-false, lt-ltb}
use Rattle.rewriting.specs.Lists.{all, alike, same, prefix, between, below, up_to, over}

-- a number below n + 1 is below n, or n; two numbers are equal, or not
pub last_or : (n c : ℕ) → c < suc n → (c < n) ⊎ (c ≡ n)
last_or n c h = go (ltb c n) refl
  where
    go : (b : Bool) → ltb c n ≡ b → (c < n) ⊎ (c ≡ n)
    go true e = inl (ltb-true c n e)
    go false e = inr (omega (arith, ltb-false c n e))

pub same_or : (q c : ℕ) → (c ≡ q) ⊎ (c ≢ q)
same_or q c = go (eqb c q) refl
  where
    go : (b : Bool) → eqb c q ≡ b → (c ≡ q) ⊎ (c ≢ q)
    go true e = inl (eqb-true c q e)
    go false e = inr (eqb-false c q e)

pub and_left : (a b : Bool) → (a && b) ≡ true → a ≡ true
and_left true b e = refl
and_left false b e = e

pub and_right : (a b : Bool) → (a && b) ≡ true → b ≡ true
and_right true b e = e
and_right false b e = let z : ◌≡◌ {A = ℕ} 0 1 = cc in absurd (omega arith)

pub and_both : {a b : Bool} → a ≡ true → b ≡ true → (a && b) ≡ true
and_both {a} {b} p q = rw (p, q)

pub or_cases : (a b : Bool) → (a || b) ≡ true → (a ≡ true) ⊎ (b ≡ true)
or_cases true b e = inl refl
or_cases false b e = inr e

pub or_left : (a b : Bool) → a ≡ true → (a || b) ≡ true
or_left a b p = rw p

pub or_right : (a b : Bool) → b ≡ true → (a || b) ≡ true
or_right true b p = refl
or_right false b p = p

pub not-true : false ≡ true → ⊥
not-true e = let z : ◌≡◌ {A = ℕ} 0 1 = cc in omega arith

pub alike_eq : (a b : Bool) → alike a b ≡ true → a ≡ b
alike_eq true true e = refl
alike_eq true false e = sym e
alike_eq false true e = e
alike_eq false false e = refl

pub eq_alike : (a b : Bool) → a ≡ b → alike a b ≡ true
eq_alike true b e = sym e
eq_alike false b e = rw (← e)

module _ {A : Type 0} (test : A → Bool) where
  pub all_append : (xs ys : List A) → all test xs ≡ true → all test ys ≡ true → all test (xs ++ ys) ≡ true
  all_append [] ys p q = q
  all_append (x ∷ xs) ys p q =
      and_both (and_left (test x) (all test xs) p) (all_append xs ys (and_right (test x) (all test xs) p) q)

  pub all_map : {B : Type 0} (f : B → A) → ((x : B) → test (f x) ≡ true) → (xs : List B) → all test (map f xs) ≡ true
  all_map f h [] = refl
  all_map f h (x ∷ xs) = and_both (h x) (all_map f h xs)

  pub all_left : (xs ys : List A) → all test (xs ++ ys) ≡ true → all test xs ≡ true
  all_left [] ys p = refl
  all_left (x ∷ xs) ys p =
      and_both (and_left (test x) (all test (xs ++ ys)) p) (all_left xs ys (and_right (test x) (all test (xs ++ ys)) p))

  pub all_right : (xs ys : List A) → all test (xs ++ ys) ≡ true → all test ys ≡ true
  all_right [] ys p = p
  all_right (x ∷ xs) ys p = all_right xs ys (and_right (test x) (all test (xs ++ ys)) p)

  pub all_at : (xs : List A) (d : A) → all test xs ≡ true → (i : ℕ) → i < length xs → test (get_or xs i d) ≡ true
  all_at [] d p i h = absurd (not-suc-le-zero h)
  all_at (x ∷ xs) d p zero h = and_left (test x) (all test xs) p
  all_at (x ∷ xs) d p (suc i) h = all_at xs d (and_right (test x) (all test xs) p) i (le_of_suc-le-suc h)

pub all_true : {A : Type 0} (xs : List A) → all (λ x. true) xs ≡ true
all_true [] = refl
all_true (x ∷ xs) = all_true xs

pub same_eq : (s t : List ℕ) → same s t ≡ true → s ≡ t
same_eq [] [] e = refl
same_eq [] (y ∷ t) e = let z : ◌≡◌ {A = ℕ} 0 1 = cc in absurd (omega arith)
same_eq (x ∷ s) [] e = let z : ◌≡◌ {A = ℕ} 0 1 = cc in absurd (omega arith)
same_eq (x ∷ s) (y ∷ t) e =
    let p : x ≡ y = eqb-true x y (and_left (eqb x y) (same s t) e) in
    let q : s ≡ t = same_eq s t (and_right (eqb x y) (same s t) e) in
    cc

pub same_refl : (s : List ℕ) → same s s ≡ true
same_refl [] = refl
same_refl (x ∷ s) = and_both (eq-eqb x x refl) (same_refl s)

pub eq_same : (s t : List ℕ) → s ≡ t → same s t ≡ true
eq_same s t e = rw e (same_refl t)

pub prefix_rest : (s t : List ℕ) → prefix s t ≡ true → t ≡ s ++ drop (length s) t
prefix_rest [] t e = refl
prefix_rest (x ∷ s) [] e = let z : ◌≡◌ {A = ℕ} 0 1 = cc in absurd (omega arith)
prefix_rest (x ∷ s) (y ∷ t) e =
    let p : x ≡ y = eqb-true x y (and_left (eqb x y) (prefix s t) e) in
    let q : t ≡ s ++ drop (length s) t = prefix_rest s t (and_right (eqb x y) (prefix s t) e) in
    cc

pub prefix_append : (s t : List ℕ) → prefix s (s ++ t) ≡ true
prefix_append [] t = refl
prefix_append (x ∷ s) t = and_both (eq-eqb x x refl) (prefix_append s t)

-- a shorter beginning is a beginning too
pub prefix_shorter : (u v t : List ℕ) → prefix (u ++ v) t ≡ true → prefix u t ≡ true
prefix_shorter [] v t e = refl
prefix_shorter (x ∷ u) v [] e = e
prefix_shorter (x ∷ u) v (y ∷ t) e =
    and_both (and_left (eqb x y) (prefix (u ++ v) t) e)
    (prefix_shorter u v t (and_right (eqb x y) (prefix (u ++ v) t) e))

pub between_low : (low n high : ℕ) → between low n high ≡ true → low ≤ n
between_low low n high e = leb-true low n (and_left (leb low n) (leb n high) e)

pub between_high : (low n high : ℕ) → between low n high ≡ true → n ≤ high
between_high low n high e = leb-true n high (and_right (leb low n) (leb n high) e)

pub length-up_to : (n : ℕ) → length (up_to n) ≡ n
length-up_to zero = refl
length-up_to (suc n) = let ih : length (up_to n) ≡ n = length-up_to n in simp length-append (omega arith)

-- numbers below m are below any n that is not smaller
pub below_weaken : (m n : ℕ) (xs : List ℕ) → m ≤ n → below m xs ≡ true → below n xs ≡ true
below_weaken m n [] h e = refl
below_weaken m n (x ∷ xs) h e =
    let lt : x < m = ltb-true x m (and_left (ltb x m) (below m xs) e) in
    and_both (lt-ltb x n (omega arith)) (below_weaken m n xs h (and_right (ltb x m) (below m xs) e))

-- a test that each part passes, all parts together pass
pub all_flat_map :
    {A B : Type 0} (good : A → Bool) (test : B → Bool) (part : A → List B)
    → ((x : A) → good x ≡ true → all test (part x) ≡ true)
    → (xs : List A) → all good xs ≡ true → all test (flat_map part xs) ≡ true
unfolding flat_map
all_flat_map good test part each [] e = refl
all_flat_map good test part each (x ∷ xs) e =
    all_append test (part x) (flat_map part xs) (each x (and_left (good x) (all good xs) e))
    (all_flat_map good test part each xs (and_right (good x) (all good xs) e))

module _ {A B : Type 0} (f : A → B) where
  pub get_d_map : (xs : List A) (i : ℕ) (d : A) (e : B) → i < length xs → get_or (map f xs) i e ≡ f (get_or xs i d)
  get_d_map [] i d e h = absurd (not-suc-le-zero h)
  get_d_map (x ∷ xs) zero d e h = refl
  get_d_map (x ∷ xs) (suc i) d e h = get_d_map xs i d e (le_of_suc-le-suc h)

module _ {A B : Type 0} (f : A → List B) where
  -- rows of n elements each
  pub length-flat_map : (n : ℕ) → ((x : A) → length (f x) ≡ n) → (xs : List A) → length (flat_map f xs) ≡ length xs * n
  unfolding flat_map
  length-flat_map n h [] = sym (zero-mul n)
  length-flat_map n h (x ∷ xs) =
      let ih = length-flat_map n h xs in
      let e = h x in
      rw (length-append, suc-mul) (omega arith)

  pub get_or-flat_map : (n : ℕ) → ((x : A) → length (f x) ≡ n) → (xs : List A) (i a : ℕ) (d : A) (e : B) → i < length xs → a < n
      → get_or (flat_map f xs) (i * n + a) e ≡ get_or (f (get_or xs i d)) a e
  unfolding flat_map
  get_or-flat_map n h [] i a d e lt below = absurd (not-suc-le-zero lt)
  get_or-flat_map n h (x ∷ xs) zero a d e lt below =
      let m = h x in
      let here : 0 * n + a ≡ a = omega arith in
      rw here (get_or-append (f x) (flat_map f xs) e a (omega arith))
  get_or-flat_map n h (x ∷ xs) (suc i) a d e lt below =
      let m = h x in
      let on : suc i * n + a ≡ length (f x) + (i * n + a) = rw suc-mul (omega arith) in
      rw (on, get_or-append-add) (get_or-flat_map n h xs i a d e (le_of_suc-le-suc lt) below)

module _ {A B : Type 0} (f : A → List B) where
  pub flat_map_snoc : (xs : List A) (x : A) → flat_map f (xs ++ x ∷ []) ≡ flat_map f xs ++ f x
  unfolding flat_map
  flat_map_snoc [] x = append-nil (f x)
  flat_map_snoc (y ∷ xs) x = rw (flat_map_snoc xs x) (sym (append_assoc (f y) (flat_map f xs) (f x)))

pub get_or-up_to : (n a d : ℕ) → a < n → get_or (up_to n) a d ≡ a
get_or-up_to zero a d h = absurd (not-suc-le-zero h)
get_or-up_to (suc n) a d h = go (ltb a n) refl (get_or-up_to n a d)
  where
    go : (b : Bool) → ltb a n ≡ b → (a < n → get_or (up_to n) a d ≡ a) → get_or (up_to (suc n)) a d ≡ a
    go true e ih =
        let lt : a < n = ltb-true a n e in
        let m = length-up_to n in
        get_or-append (up_to n) (n ∷ []) d a (omega arith) ∙ ih lt
    go false e ih =
        let here : n ≡ a = omega (arith, ltb-false a n e) in
        get_or_at (up_to n) n [] d a (length-up_to n ∙ here) ∙ here

-- what stands in the beginning of a list
pub begins_at : (s t : List ℕ) → prefix s t ≡ true → (i d : ℕ) → i < length s → get_or t i d ≡ get_or s i d
begins_at s t e i d h = ap (λ (l : List ℕ). get_or l i d) (prefix_rest s t e) ∙ get_or-append s (drop (length s) t) d i h

-- an area keeps its length
pub length_over : (v area : List ℕ) → length v ≤ length area → length (over v area) ≡ length area
unfolding over
length_over v area h = rw (length-append, length-drop) (omega arith)
