-- The children of each node in its row: where they stand, and what is there once they are laid one by one.
-- Assumes nothing.
use Prim.Native.Nat.{ℕ, ◌+◌, ◌*◌, ◌≤◌, ◌<◌}
use mathlib.Core.Path.{◌≡◌, refl, sym, ap, ◌∙◌}
use mathlib.Core.Bool.{Bool, true, false, cond, ◌&&◌}
use mathlib.Core.List.{List, [], ◌∷◌, ◌++◌}
use native.Mathlib.Omega.{arith}
use lib.Dec.{eqb, ltb}
use lib.ListN.{length, get_or, replicate, get_or-replicate, set as store}
use lib.Seq.{get_or-set_same, get_or-set_other}
use borrow.Author.Tests.{ltb-true, ltb-false, eqb-true, eqb-false, lt-ltb, le-ltb}
use Rattle.rewriting.specs.Rules.{Rule, RuleSet, in_range}
use Rattle.layout.specs.States.{mark, known, states, number}
use Rattle.layout.specs.Words.{root, text, transition}
use Rattle.trie.specs.declared.Node.{Node}
use Rattle.trie.specs.Nodes.{parent, symbol, TrieOf}
use Rattle.trie.specs.Rows.{child_number, Laid}
use Rattle.layout.proofs.States.{number_at, known_at, number_back, child_behind, few_states}
use Rattle.layout.proofs.RowPlaces.{row_end, place_row}
use Rattle.trie.proofs.Growth.{state_child}

-- the number of the string v where it is a state below n, else 0
unfoldable pub number_below : List (List ℕ) → ℕ → List ℕ → ℕ
number_below s n v = cond (known s v && ltb (number s v) n) (number s v) 0

-- As n grows, the number shows where n passes it.
module _ (s : List (List ℕ)) where
  below-own : (c : ℕ) (v : List ℕ) → known s v ≡ true → number s v ≡ c → number_below s (c + 1) v ≡ c
  unfolding number_below
  below-own c v k e = rw (k, e, lt-ltb c (c + 1) (omega arith))

  below_other : (c : ℕ) (v : List ℕ) → (known s v ≡ true → number s v ≡ c → ⊥) → number_below s (c + 1) v ≡ number_below s c v
  unfolding number_below
  below_other c v differs = go (known s v) refl
    where
      turn : (number s v ≡ c → ⊥) → (b : Bool) → ltb (number s v) c ≡ b → ltb (number s v) (c + 1) ≡ b
      turn d true e = lt-ltb (number s v) (c + 1) (omega (arith, ltb-true (number s v) c e))
      turn d false e =
          le-ltb (number s v) (c + 1)
          (let h : c ≤ number s v = ltb-false (number s v) c e in omega (arith, d))

      go : (b : Bool) → known s v ≡ b
          → cond (b && ltb (number s v) (c + 1)) (number s v) 0 ≡ cond (b && ltb (number s v) c) (number s v) 0
      go true e = rw (turn (differs e) (ltb (number s v) c) refl)
      go false e = refl

  below_all : (v : List ℕ) (a : ℕ) → number_below s (length s) (v ++ a ∷ []) ≡ child_number s v a
  unfolding number_below child_number
  below_all v a = go (known s (v ++ a ∷ [])) refl
    where
      go : (b : Bool) → known s (v ++ a ∷ []) ≡ b
          → cond (b && ltb (number s (v ++ a ∷ [])) (length s)) (number s (v ++ a ∷ [])) 0 ≡ cond b (number s (v ++ a ∷ [])) 0
      go true e = rw (lt-ltb (number s (v ++ a ∷ [])) (length s) (number_at s (v ++ a ∷ []) e).0)
      go false e = refl

-- no child's number is at or before the root's
below_none : (rules : List Rule) (v : List ℕ) (a : ℕ) → a < mark → number_below (states rules) (root rules + 1) (v ++ a ∷ []) ≡ 0
unfolding number_below
below_none rules v a small = go (known (states rules) (v ++ a ∷ [])) refl
  where
    go : (b : Bool) → known (states rules) (v ++ a ∷ []) ≡ b
        → cond (b && ltb (number (states rules) (v ++ a ∷ [])) (root rules + 1)) (number (states rules) (v ++ a ∷ [])) 0 ≡ 0
    go true e =
        rw (le-ltb (number (states rules) (v ++ a ∷ [])) (root rules + 1) (omega (arith, child_behind rules v a small e)))
    go false e = refl

-- the rows have the children below c
abbrev pub LaidBelow : RuleSet → List ℕ → ℕ → Type 0
LaidBelow set rows c = (q a : ℕ) → q < length (states set.rules) → a < set.symbols
    → transition rows set.symbols q a ≡ number_below (states set.rules) c (text set.rules q ++ a ∷ [])

-- one more node's number is laid into the row of its parent
pub laid_more : (set : RuleSet) (t : List Node) (rows : List ℕ) (c : ℕ) → TrieOf set t
    → length rows ≡ length (states set.rules) * set.symbols → root set.rules < c → c < length (states set.rules)
    → LaidBelow set rows c → LaidBelow set (store rows (parent t c * set.symbols + symbol t c) c) (c + 1)
laid_more set t rows c trie size pos below laid q a h k = go (eqb (q * set.symbols + a) place) refl
  where
    s : List (List ℕ)
    s = states set.rules

    place : ℕ
    place = parent t c * set.symbols + symbol t c

    up : parent t c < length s
    up = let l : parent t c < c = trie.linked.up c pos below in omega arith

    go : (b : Bool) → eqb (q * set.symbols + a) place ≡ b
        → get_or (store rows place c) (q * set.symbols + a) 0 ≡ number_below s (c + 1) (text set.rules q ++ a ∷ [])
    go true e =
        let same : q * set.symbols + a ≡ place = eqb-true (q * set.symbols + a) place e in
        let row : q ≡ parent t c = place_row set.symbols q (parent t c) a (symbol t c) k (trie.small c pos below) same in
        let fits = row_end set.symbols (parent t c) (length s) up in
        let low : symbol t c < set.symbols = trie.small c pos below in
        let inside : place < length rows = omega arith in
        let word : a ≡ symbol t c =
        (let again : q * set.symbols ≡ parent t c * set.symbols = ap (λ (i : ℕ). i * set.symbols) row in omega arith)
        in
        let string : text set.rules q ++ a ∷ [] ≡ get_or s c [] = rw (row, word) (sym (trie.made c pos below)) in
        ap (λ (i : ℕ). get_or (store rows place c) i 0) same
        ∙ get_or-set_same rows place c 0 inside
        ∙ sym (below-own s c (text set.rules q ++ a ∷ []) (rw string (known_at s c below))
        (rw string (number_back set.rules c below)))
    go false e =
        let apart = eqb-false (q * set.symbols + a) place e in
        get_or-set_other rows place (q * set.symbols + a) c 0 apart
        ∙ laid q a h k
        ∙ sym (below_other s c (text set.rules q ++ a ∷ []) (λ known_here e₂. apart (meets known_here e₂)))
      where
        meets : known s (text set.rules q ++ a ∷ []) ≡ true → number s (text set.rules q ++ a ∷ []) ≡ c
            → q * set.symbols + a ≡ place
        meets k₂ e₂ =
            let child =
            state_child (root set.rules) s set.symbols t trie q a c k h below
            (ap (λ (i : ℕ). get_or s i []) (sym e₂) ∙ (number_at s (text set.rules q ++ a ∷ []) k₂).1)
            in
            rw (child.of, child.by)

-- all words 0: no child is laid yet
pub laid_none : (set : RuleSet) (rows : List ℕ) → set.symbols ≤ mark
    → rows ≡ replicate (length (states set.rules) * set.symbols) 0
    → LaidBelow set rows (root set.rules + 1)
laid_none set rows few e q a h k =
    let fits = row_end set.symbols q (length (states set.rules)) h in
    ap (λ (l : List ℕ). get_or l (q * set.symbols + a) 0) e
    ∙ get_or-replicate (length (states set.rules) * set.symbols) (q * set.symbols + a) 0 0 (omega arith)
    ∙ sym (below_none set.rules (text set.rules q) a (omega arith))

-- every child is laid
pub laid_all : (set : RuleSet) (rows : List ℕ) → length rows ≡ length (states set.rules) * set.symbols
    → LaidBelow set rows (length (states set.rules)) → Laid set rows
laid_all set rows size laid =
    record { size = size; table = λ c a h k. laid c a h k ∙ below_all (states set.rules) (text set.rules c) a }

-- a node, its parent and its place in the parent's row lie within their areas, and its number fits 16 bits
pub record Within (t : List Node) (rows : List ℕ) (symbols c : ℕ) : Type 0 where
  pub node : c < length t
  pub up : parent t c < length t
  pub place : parent t c * symbols + symbol t c < length rows
  pub few : c < 65536

pub within : (set : RuleSet) (t : List Node) (rows : List ℕ) → in_range set ≡ true → TrieOf set t
    → length rows ≡ length (states set.rules) * set.symbols
    → (c : ℕ) → root set.rules < c → c < length (states set.rules) → Within t rows set.symbols c
within set t rows e trie size c pos below =
    let n : ℕ = length (states set.rules) in
    let room : n ≤ length t = trie.linked.size in
    let up : parent t c < c = trie.linked.up c pos below in
    let low : symbol t c < set.symbols = trie.small c pos below in
    let fits : parent t c * set.symbols + set.symbols ≤ n * set.symbols = row_end set.symbols (parent t c) n (omega arith) in
    record { node = omega arith; up = omega arith; place = omega arith; few = omega (arith, few_states set e) }
