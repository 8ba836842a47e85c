-- The order in which the states are filled, short before long: which are done, and that each turn keeps what is said of them.
-- Assumes nothing.
use Prim.Native.Nat.{ℕ, ◌+◌, ◌*◌, ◌≤◌, ◌<◌}
use mathlib.Core.Path.{◌≡◌, refl, sym, ◌∙◌}
use mathlib.Core.Bool.{Bool, true, false, ◌&&◌, ◌||◌, and-false}
use mathlib.Core.Logic.{◌≢◌}
use mathlib.Core.List.{List, []}
use native.Mathlib.Omega.{arith}
use lib.Dec.{eqb, ltb}
use lib.ListN.{length, get_or}
use borrow.Author.Tests.{ltb-true, ltb-false, eqb-true, eqb-false, lt-ltb, le-ltb, eq-eqb, ne_eqb}
use Rattle.rewriting.specs.Rules.{RuleSet, in_range}
use Rattle.layout.specs.States.{states}
use Rattle.layout.specs.Words.{root, text}
use Rattle.trie.specs.declared.Node.{Node}
use Rattle.trie.specs.Nodes.{parent, symbol, depth, failure, failure_by}
use Rattle.trie.specs.Rows.{Merged, noted, reached, Filling, FillingAt}
use Rattle.layout.proofs.States.{few_states, state_long}
use Rattle.layout.proofs.RowPlaces.{row_end, word_within}
use Rattle.trie.proofs.Growth.{parent_below}
use Rattle.trie.proofs.Failure.{fails_to}
use Rattle.trie.proofs.Filling.{symbol_small, parent_fails, own_failure, state_filled}

-- Which states are done, where state q of the states of length d is next.
module _ (s : List (List ℕ)) (d q : ℕ) where
  pub reached_shorter : (c : ℕ) → length (get_or s c []) < d → reached s d q c ≡ true
  unfolding reached
  reached_shorter c h = rw (lt-ltb (length (get_or s c [])) d h)

  pub reached-own : length (get_or s q []) ≡ d → reached s d (q + 1) q ≡ true
  unfolding reached
  reached-own e =
      rw (le-ltb (length (get_or s q [])) d (omega arith), eq-eqb (length (get_or s q [])) d e, lt-ltb q (q + 1) (omega arith))

  pub reached-next : length (get_or s q []) ≡ d → reached s d q q ≡ false
  unfolding reached
  reached-next e =
      rw (le-ltb (length (get_or s q [])) d (omega arith), eq-eqb (length (get_or s q [])) d e, le-ltb q q (omega arith))

  pub reached_other : (c : ℕ) → (c ≡ q → ⊥) → reached s d (q + 1) c ≡ reached s d q c
  unfolding reached
  reached_other c differs = rw (go (ltb c q) refl)
    where
      go : (b : Bool) → ltb c q ≡ b → ltb c (q + 1) ≡ ltb c q
      go true e = lt-ltb c (q + 1) (omega (arith, ltb-true c q e)) ∙ sym e
      go false e = le-ltb c (q + 1) (omega (arith, ltb-false c q e, differs)) ∙ sym e

  -- a state of another length is passed over
  pub reached_skip : (length (get_or s q []) ≡ d → ⊥) → (c : ℕ) → reached s d (q + 1) c ≡ reached s d q c
  unfolding reached
  reached_skip apart c = go (eqb c q) refl
    where
      go : (b : Bool) → eqb c q ≡ b → reached s d (q + 1) c ≡ reached s d q c
      go true e =
          let same : c ≡ q = eqb-true c q e in
          rw (same, ne_eqb (length (get_or s q [])) d apart)
      go false e = reached_other c (eqb-false c q e)

-- the states of length d are done: those of length d + 1 are next
pub reached_longer : (s : List (List ℕ)) (d c : ℕ) → c < length s → reached s (d + 1) 0 c ≡ reached s d (length s) c
unfolding reached
reached_longer s d c h = go (ltb l (d + 1)) refl
  where
    l : ℕ
    l = length (get_or s c [])

    go : (b : Bool) → ltb l (d + 1) ≡ b → reached s (d + 1) 0 c ≡ reached s d (length s) c
    go true e = rw e (sym (turn (ltb l d) refl))
      where
        turn : (b : Bool) → ltb l d ≡ b → (ltb l d || (eqb l d && ltb c (length s))) ≡ true
        turn true p = rw p
        turn false p =
            let same : l ≡ d = omega (arith, ltb-true l (d + 1) e, ltb-false l d p) in
            rw (p, eq-eqb l d same, lt-ltb c (length s) h)
    go false e =
        let long : d + 1 ≤ l = ltb-false l (d + 1) e in
        rw (e, le-ltb c 0 (omega arith), le-ltb l d (omega arith), ne_eqb l d (λ p. omega arith), and-false)

-- what is done may be said in another way
pub filling_same : (set : RuleSet) (done done' : ℕ → Bool) (t : List Node) (rows : List ℕ)
    → ((c : ℕ) → c < length (states set.rules) → done' c ≡ done c) → Filling set done t rows → Filling set done' t rows
filling_same set done done' t rows same filling =
    record {
      trie = filling.trie;
      size = filling.size;
      matches = λ c h. rw (same c h) (filling.matches c h);
      failures = λ c other h e. filling.failures c other h (sym (same c h) ∙ e);
      table = λ c a h k. rw (same c h) (filling.table c a h k);
    }

-- a state of another depth is passed over
pub filling_skip : (set : RuleSet) (d q : ℕ) (t : List Node) (rows : List ℕ) → (depth t q ≡ d → ⊥) → q < length (states set.rules)
    → FillingAt set d q t rows → FillingAt set d (q + 1) t rows
filling_skip set d q t rows apart h filling =
    filling_same set (reached s d q) (reached s d (q + 1)) t rows
    (λ c _. reached_skip s d q (λ e. apart (filling.trie.deep q h ∙ e)) c) filling
  where
    s : List (List ℕ)
    s = states set.rules

-- after the last state the next length begins
pub filling_longer : (set : RuleSet) (d : ℕ) (t : List Node) (rows : List ℕ) → FillingAt set d (length (states set.rules)) t rows
    → FillingAt set (d + 1) 0 t rows
filling_longer set d t rows filling =
    filling_same set (reached s d (length s)) (reached s (d + 1) 0) t rows (reached_longer s d) filling
  where
    s : List (List ℕ)
    s = states set.rules

-- A state whose turn it is, is filled: where its failure state stands, and what holds when it is done.
module _ (set : RuleSet) (q : ℕ) (t : List Node) (rows : List ℕ) (filling : FillingAt set (depth t q) q t rows)
    (in_range_lem : in_range set ≡ true) (other : q ≡ root set.rules → ⊥) (below : q < length (states set.rules))
  where
    long : length (text set.rules q) ≡ depth t q
    long = sym (filling.trie.deep q below)

    shorter : (c : ℕ) → c < length (states set.rules) → length (text set.rules c) < length (text set.rules q)
        → reached (states set.rules) (depth t q) q c ≡ true
    shorter c h k = reached_shorter (states set.rules) (depth t q) q c (rw long at k)

    -- its node and its parent's lie within the trie
    pub nodes_within : (q < length t) × (parent t q < length t)
    nodes_within =
        let up = parent_below (root set.rules) (states set.rules) set.symbols t filling.trie q other below in
        (omega (arith, filling.trie.linked.size), omega (arith, filling.trie.linked.size))

    -- the word by which the failure state is found stands in the rows
    pub failure_place : parent t q ≢ root set.rules → failure t (parent t q) * set.symbols + symbol t q < length rows
    failure_place high =
        let f = parent_fails set (reached (states set.rules) (depth t q) q)
        t rows filling q in_range_lem other below shorter high in
        rw filling.size
        (word_within set.symbols (failure t (parent t q)) (length (states set.rules)) (symbol t q) f.place
        (symbol_small set (reached (states set.rules) (depth t q) q) t rows filling q in_range_lem other below shorter high))

    -- the failure state's node and both rows lie within their areas, and its number fits 16 bits
    pub failure_within : (f : ℕ) → f ≡ failure_by t rows set.symbols (root set.rules) q
        → (f < length t)
        × (f < 65536)
        × (q * set.symbols + set.symbols ≤ length rows)
        × (f * set.symbols + set.symbols ≤ length rows)
    failure_within f is =
        let n : ℕ = length (states set.rules) in
        let size : length rows ≡ n * set.symbols = filling.size in
        let room : n ≤ length t = filling.trie.linked.size in
        let found = own_failure set (reached (states set.rules) (depth t q) q)
        t rows filling q in_range_lem other below shorter in
        let place : f < n = (fails_to set.rules (text set.rules q) (state_long set.rules q other below) f (is ∙ found)).place in (
          omega arith,
          omega (arith, few_states set in_range_lem),
          omega (arith, row_end set.symbols q n below),
          omega (arith, row_end set.symbols f n place),
        )

    pub filling_more : (t' : List Node) (rows' : List ℕ) (f : ℕ) → f ≡ failure_by t rows set.symbols (root set.rules) q
        → t' ≡ noted t q f
        → Merged rows rows' set.symbols q f set.symbols → FillingAt set (depth t q) (q + 1) t' rows'
    filling_more t' rows' f is note merged =
        state_filled set (reached (states set.rules) (depth t q) q) t rows filling q in_range_lem other below shorter
        (reached (states set.rules) (depth t q) (q + 1)) t' rows' f (reached-next (states set.rules) (depth t q) q long)
        (reached-own (states set.rules) (depth t q) q long) (reached_other (states set.rules) (depth t q) q) is note merged
