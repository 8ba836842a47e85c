-- What the stores to rows and nodes leave there: the root's row filled, rows merged.
-- Assumes nothing.
use Prim.Native.Nat.{ℕ, ◌+◌, ◌*◌, ◌≤◌, ◌<◌}
use mathlib.Core.Path.{◌≡◌, refl, ◌∙◌}
use mathlib.Core.Bool.{Bool, true, false, cond}
use mathlib.Core.Logic.{⊎_elim}
use mathlib.Core.List.{List}
use native.Mathlib.Omega.{arith}
use lib.Dec.{eqb}
use lib.ListN.{length, get_or, set, length-set}
use lib.Seq.{get_or-set_same, get_or-set_other}
use borrow.Author.Tests.{eqb-true, eqb-false}
use Rattle.layout.specs.Words.{transition, own_or}
use Rattle.trie.specs.Rows.{RootFilled, Merged}
use Rattle.layout.proofs.RowPlaces.{row_order}

-- one more word of row q is merged
pub merged_more : (rows rows' : List ℕ) (s q f a : ℕ) → q * s + s ≤ length rows → a < s → Merged rows rows' s q f a → (v : ℕ)
    → v ≡ own_or (transition rows' s q a) (transition rows' s f a)
    → Merged rows (set rows' (q * s + a) v) s q f (a + 1)
merged_more rows rows' s q f a fits h m v e =
    record {
      size = length-set rows' (q * s + a) v ∙ m.size;
      own = λ b k. own b k (eqb b a) refl;
      before = λ k l. get_or-set_other rows' (q * s + a) k v 0 (λ p. omega arith) ∙ m.before k l;
      behind = λ k l. get_or-set_other rows' (q * s + a) k v 0 (λ p. omega arith) ∙ m.behind k (omega arith);
    }
  where
    here : get_or rows' (q * s + a) 0 ≡ get_or rows (q * s + a) 0
    here = m.behind (q * s + a) (omega arith)

    there : get_or rows' (f * s + a) 0 ≡ get_or rows (f * s + a) 0
    there =
        ⊎_elim (λ (l : f * s + s ≤ q * s). m.before (f * s + a) (omega arith))
        (λ (l : q * s ≤ f * s). m.behind (f * s + a) (omega arith)) (row_order s q f)

    own : (b : ℕ) → b < a + 1 → (t : Bool) → eqb b a ≡ t
        → transition (set rows' (q * s + a) v) s q b ≡ own_or (transition rows s q b) (transition rows s f b)
    own b k true p =
        let same : b ≡ a = eqb-true b a p in
        let size = m.size in
        rw (same, get_or-set_same rows' (q * s + a) v 0 (omega arith), ← here, ← there) e
    own b k false p =
        let differs = eqb-false b a p in
        get_or-set_other rows' (q * s + a) (q * s + b) v 0 (λ x. differs (omega arith)) ∙ m.own b (omega arith)

-- where the root is state 0 its row is right as it is
pub rooted_zero : (rows : List ℕ) (s root : ℕ) → root ≡ 0 → RootFilled rows rows s root s
rooted_zero rows s root e =
    record { size = refl; own = λ a h. go (transition rows s root a); before = λ k h. refl; behind = λ k h. refl }
  where
    go : (x : ℕ) → x ≡ own_or x root
    go x = rw e (by_zero (eqb x 0) refl)
      where
        by_zero : (b : Bool) → eqb x 0 ≡ b → x ≡ cond b 0 x
        by_zero true p = eqb-true x 0 p
        by_zero false p = refl
