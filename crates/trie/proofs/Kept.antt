-- The trie stays the trie where only match words and failure states change: where a rule claims its node, where a filled state's
-- failure state and match word are noted (Filling.antt), and where a check keeps a failure state.
-- Assumes nothing.
use Prim.Native.Nat.{ℕ, ◌+◌, ◌≤◌, ◌<◌}
use mathlib.Core.Path.{◌≡◌, refl, sym, ap, ◌∙◌}
use mathlib.Core.Bool.{Bool, true, false, cond}
use mathlib.Core.Logic.{◌≢◌, ◌⊎◌, inl, inr}
use mathlib.Core.List.{List}
use native.Mathlib.Omega.{arith}
use lib.Dec.{eqb, ltb}
use lib.ListN.{length, take, set, length-set, get_or-eq_default}
use lib.Seq.{get_or-take, length-take-le}
use borrow.Author.Tests.{ltb-true, ltb-false}
use Rattle.rewriting.proofs.Lists.{same_or}
use Rattle.layout.specs.Words.{own_or}
use Rattle.trie.specs.declared.Node.{Node}
use Rattle.trie.specs.Nodes.{
  unused,
  node,
  parent,
  symbol,
  depth,
  youngest,
  older,
  children,
  matched,
  failure,
  Linked,
  Trie,
  claimed,
}
use Rattle.trie.specs.Rows.{noted}
use Rattle.trie.proofs.Nodes.{node_same, node_other}

-- a node without its match word and its failure state
abbrev links : Node → Node
links x = record x { matched = 0; failure = 0 }

-- t' is t but for match words and failure states of the first n nodes
pub record Kept (n : ℕ) (t t' : List Node) : Type 0 where
  pub size : n ≤ length t → n ≤ length t'
  pub kept : (c : ℕ) → links (node t' c) ≡ links (node t c)
  pub rest : (c : ℕ) → n ≤ c → node t' c ≡ node t c

module _ {n : ℕ} {t t' : List Node} (k : Kept n t t') where
  pub parent_kept : (c : ℕ) → parent t' c ≡ parent t c
  parent_kept c = ap (λ (x : Node). x.parent) (k.kept c)

  pub symbol_kept : (c : ℕ) → symbol t' c ≡ symbol t c
  symbol_kept c = ap (λ (x : Node). x.symbol) (k.kept c)

  depth_kept : (c : ℕ) → depth t' c ≡ depth t c
  depth_kept c = ap (λ (x : Node). x.depth) (k.kept c)

  pub children_kept : (c : ℕ) → children t' c ≡ children t c
  children_kept c = ap (λ (x : Node). x.children) (k.kept c)

  youngest_kept : (c : ℕ) → youngest t' c ≡ youngest t c
  youngest_kept c = ap (λ (x : Node). x.youngest) (k.kept c)

  older_kept : (c : ℕ) → older t' c ≡ older t c
  older_kept c = ap (λ (x : Node). x.older) (k.kept c)

  linked_kept : {root : ℕ} → Linked root t n → Linked root t' n
  linked_kept l =
      record {
        size = k.size l.size;
        up = λ c pos h. rw (parent_kept c) (l.up c pos h);
        young = λ q h. rw (youngest_kept q) (l.young q h);
        young_of = λ q h pos. rw (youngest_kept q, parent_kept (youngest t q)) (l.young_of q h (rw (youngest_kept q) at pos));
        young_last = λ q c h pos k₂ e. rw (youngest_kept q) (l.young_last q c h pos k₂ (sym (parent_kept c) ∙ e));
        old = λ c pos h. rw (older_kept c) (l.old c pos h);
        old_of = λ c pos h more.
            rw (older_kept c, parent_kept (older t c), parent_kept c) (l.old_of c pos h (rw (older_kept c) at more));
        old_next = λ c b pos h pos₂ k₂ e.
            rw (older_kept c) (l.old_next c b pos h pos₂ k₂ (sym (parent_kept b) ∙ e ∙ parent_kept c));
      }

-- where the mark's failure state is kept too
pub trie_kept : {root : ℕ} {s : List (List ℕ)} {symbols : ℕ} {t t' : List Node} → Kept (length s) t t' → failure t' 0 ≡ root
    → Trie root s symbols t → Trie root s symbols t'
trie_kept {root} {s} kept fails h =
    record {
      linked = linked_kept kept h.linked;
      low_root = h.low_root;
      some_node = h.some_node;
      root-empty = h.root-empty;
      mark_alone = h.mark_alone;
      mark_parent = parent_kept kept 0 ∙ h.mark_parent;
      mark_failure = fails;
      few = h.few;
      once = h.once;
      made = λ c pos k. rw (parent_kept kept c, symbol_kept kept c) (h.made c pos k);
      small = λ c pos k. rw (symbol_kept kept c) (h.small c pos k);
      deep = λ c k. depth_kept kept c ∙ h.deep c k;
      counted = λ c k. children_kept kept c ∙ h.counted c k;
      clear = λ c far. kept.rest c far ∙ h.clear c far;
    }

-- the nodes of the states alone, without those behind the last
module _ {root : ℕ} {s : List (List ℕ)} {symbols : ℕ} {t : List Node} (h : Trie root s symbols t) where
  pub taken_length : length (take (length s) t) ≡ length s
  taken_length = length-take-le (length s) t h.linked.size

  pub taken_node : (c : ℕ) → node (take (length s) t) c ≡ node t c
  taken_node c = go (ltb c (length s)) refl
    where
      go : (b : Bool) → ltb c (length s) ≡ b → node (take (length s) t) c ≡ node t c
      go true e = get_or-take (length s) t c unused (ltb-true c (length s) e)
      go false e =
          let far = ltb-false c (length s) e in
          get_or-eq_default (take (length s) t) unused (omega (arith, taken_length, far)) ∙ sym (h.clear c far)

  pub trie_taken : Trie root s symbols (take (length s) t)
  trie_taken =
      trie_kept
      (record { size = λ l. omega (arith, taken_length); kept = λ c. ap links (taken_node c); rest = λ c far. taken_node c })
      (ap (λ (x : Node). x.failure) (taken_node 0) ∙ h.mark_failure) h

-- a node is stored with the same links
pub kept_set : {n : ℕ} (t : List Node) (q : ℕ) (x : Node) → q < n → q < length t → links x ≡ links (node t q)
    → Kept n t (set t q x)
kept_set t q x h inside same =
    record {
      size = λ h. rw length-set h;
      kept = λ c. kept c (same_or q c);
      rest = λ c far. node_other t q c x (λ e. omega arith);
    }
  where
    kept : (c : ℕ) → (c ≡ q) ⊎ (c ≢ q) → links (node (set t q x) c) ≡ links (node t c)
    kept c (inl e) = rw e (ap links (node_same t q x inside) ∙ same)
    kept c (inr other) = ap links (node_other t q c x other)

-- rule i claims node q: its match word alone may change
module _ (t : List Node) (q i : ℕ) where
  pub claimed_other : (c : ℕ) → c ≢ q → node (claimed t q i) c ≡ node t c
  unfolding claimed
  claimed_other c other = go (eqb (matched t q) 0)
    where
      go : (b : Bool) → node (cond b (set t q (record (node t q) { matched = i + 1 })) t) c ≡ node t c
      go true = node_other t q c (record (node t q) { matched = i + 1 }) other
      go false = refl

  pub claimed_failure : q < length t → (c : ℕ) → failure (claimed t q i) c ≡ failure t c
  unfolding claimed
  claimed_failure inside c = go (eqb (matched t q) 0) (same_or q c)
    where
      go : (b : Bool) → (c ≡ q) ⊎ (c ≢ q) → failure (cond b (set t q (record (node t q) { matched = i + 1 })) t) c ≡ failure t c
      go true (inl e) = rw e (ap (λ (x : Node). x.failure) (node_same t q (record (node t q) { matched = i + 1 }) inside))
      go true (inr other) = ap (λ (x : Node). x.failure) (node_other t q c (record (node t q) { matched = i + 1 }) other)
      go false e = refl

  pub claimed_kept : {n : ℕ} → q < n → q < length t → Kept n t (claimed t q i)
  unfolding claimed
  claimed_kept {n} h inside = go (eqb (matched t q) 0)
    where
      go : (b : Bool) → Kept n t (cond b (set t q (record (node t q) { matched = i + 1 })) t)
      go true = kept_set t q (record (node t q) { matched = i + 1 }) h inside refl
      go false = record { size = λ h. h; kept = λ c. refl; rest = λ c far. refl }

-- the failure state f and the match word of node q are noted
module _ (t : List Node) (q f : ℕ) (inside : q < length t) where
  pub noted_failure : failure (noted t q f) q ≡ f
  unfolding noted
  noted_failure =
      ap (λ (x : Node). x.failure)
      (node_same t q (record (node t q) { matched = own_or (matched t q) (matched t f); failure = f }) inside)

  pub noted_match : matched (noted t q f) q ≡ own_or (matched t q) (matched t f)
  unfolding noted
  noted_match =
      ap (λ (x : Node). x.matched)
      (node_same t q (record (node t q) { matched = own_or (matched t q) (matched t f); failure = f }) inside)

  pub noted_other : (c : ℕ) → c ≢ q → node (noted t q f) c ≡ node t c
  unfolding noted
  noted_other c other = node_other t q c (record (node t q) { matched = own_or (matched t q) (matched t f); failure = f }) other

  pub noted_kept : {n : ℕ} → q < n → Kept n t (noted t q f)
  unfolding noted
  noted_kept h = kept_set t q (record (node t q) { matched = own_or (matched t q) (matched t f); failure = f }) h inside refl

-- t with the failure state f kept at node q, and nothing else
abbrev pub with_failure : List Node → ℕ → ℕ → List Node
with_failure t q f = set t q (record (node t q) { failure = f })

module _ (t : List Node) (q f : ℕ) (inside : q < length t) where
  pub failure_set : failure (with_failure t q f) q ≡ f
  failure_set = ap (λ (x : Node). x.failure) (node_same t q (record (node t q) { failure = f }) inside)

  pub failure_other : (c : ℕ) → c ≢ q → failure (with_failure t q f) c ≡ failure t c
  failure_other c other = ap (λ (x : Node). x.failure) (node_other t q c (record (node t q) { failure = f }) other)

  pub matched_same : (c : ℕ) → matched (with_failure t q f) c ≡ matched t c
  matched_same c = go (same_or q c)
    where
      go : (c ≡ q) ⊎ (c ≢ q) → matched (with_failure t q f) c ≡ matched t c
      go (inl e) = rw e (ap (λ (x : Node). x.matched) (node_same t q (record (node t q) { failure = f }) inside))
      go (inr other) = ap (λ (x : Node). x.matched) (node_other t q c (record (node t q) { failure = f }) other)

  pub failure_kept : {n : ℕ} → q < n → Kept n t (with_failure t q f)
  failure_kept h = kept_set t q (record (node t q) { failure = f }) h inside refl
