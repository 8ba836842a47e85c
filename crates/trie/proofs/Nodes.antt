-- Laws of the trie's nodes: looking for a child, and adding one, with which the links still hold.
-- Assumes nothing.
use Prim.Native.Nat.{ℕ, suc, ◌+◌, ◌≤◌, ◌<◌}
use mathlib.Core.Path.{◌≡◌, sym, ap, ◌∙◌}
use mathlib.Core.Logic.{◌≢◌, ◌⊎◌, inl, inr}
use mathlib.Core.List.{List}
use native.Mathlib.Omega.{arith}
use lib.ListN.{length, set, length-set}
use lib.Seq.{get_or-set_same, get_or-set_other}
use Rattle.rewriting.proofs.Lists.{last_or, same_or}
use Rattle.trie.specs.declared.Node.{Node}
use Rattle.trie.specs.Nodes.{
  unused,
  node,
  parent,
  symbol,
  depth,
  youngest,
  older,
  children,
  matched,
  failure,
  ChildOf,
  Linked,
  IsChild,
  added,
}

-- While a child of q by symbol a is looked for, c is a child of q, or 0 for none, and no child by a is younger.
abbrev pub Searching : ℕ → List Node → ℕ → ℕ → ℕ → ℕ → Type 0
Searching root t n q a c = (c < n) × (0 < c → ChildOf root t q c) × ((b : ℕ) → IsChild root t n q a b → b ≤ c)

-- a node that is stored, and the others
pub node_same : (t : List Node) (q : ℕ) (x : Node) → q < length t → node (set t q x) q ≡ x
node_same t q x h = get_or-set_same t q x unused h

pub node_other : (t : List Node) (q c : ℕ) (x : Node) → c ≢ q → node (set t q x) c ≡ node t c
node_other t q c x other = get_or-set_other t q c x unused other

-- Adding node n as a child of q by symbol a: what the two nodes are then, and that no other changes.
module _ (t : List Node) (n q a : ℕ) (lt : q < n) (room : n < length t) where
  pub added_size : length (added t n q a) ≡ length t
  unfolding added
  added_size = simp length-set

  pub added_node : node (added t n q a) n
      ≡ record (node t n) { parent = q; symbol = a; depth = depth t q + 1; older = youngest t q }
  unfolding added
  added_node =
      node_other (set t n (record (node t n) { parent = q; symbol = a; depth = depth t q + 1; older = youngest t q })) q n
      (record (node t q) { youngest = n; children = children t q + 1 }) (λ e. omega arith)
      ∙ node_same t n (record (node t n) { parent = q; symbol = a; depth = depth t q + 1; older = youngest t q }) room

  added_above : node (added t n q a) q ≡ record (node t q) { youngest = n; children = children t q + 1 }
  unfolding added
  added_above =
      node_same (set t n (record (node t n) { parent = q; symbol = a; depth = depth t q + 1; older = youngest t q })) q
      (record (node t q) { youngest = n; children = children t q + 1 }) (rw length-set (omega arith))

  pub added_other : (c : ℕ) → c ≢ n → c ≢ q → node (added t n q a) c ≡ node t c
  unfolding added
  added_other c h1 h2 =
      node_other (set t n (record (node t n) { parent = q; symbol = a; depth = depth t q + 1; older = youngest t q })) q c
      (record (node t q) { youngest = n; children = children t q + 1 }) h2
      ∙ node_other t n c (record (node t n) { parent = q; symbol = a; depth = depth t q + 1; older = youngest t q }) h1

  pub added_parent : parent (added t n q a) n ≡ q
  added_parent = ap (λ (x : Node). x.parent) added_node

  pub added-symbol : symbol (added t n q a) n ≡ a
  added-symbol = ap (λ (x : Node). x.symbol) added_node

  pub added_depth : depth (added t n q a) n ≡ depth t q + 1
  added_depth = ap (λ (x : Node). x.depth) added_node

  pub added_older : older (added t n q a) n ≡ youngest t q
  added_older = ap (λ (x : Node). x.older) added_node

  pub added_youngest : youngest (added t n q a) q ≡ n
  added_youngest = ap (λ (x : Node). x.youngest) added_above

  pub added_children : children (added t n q a) q ≡ children t q + 1
  added_children = ap (λ (x : Node). x.children) added_above

  -- an older node but for its youngest child and the number of its children
  old : (c : ℕ) → c < n
      → record (node (added t n q a) c) { youngest = 0; children = 0 } ≡ record (node t c) { youngest = 0; children = 0 }
  old c h = go (same_or q c)
    where
      go : (c ≡ q) ⊎ (c ≢ q)
          → record (node (added t n q a) c) { youngest = 0; children = 0 } ≡ record (node t c) { youngest = 0; children = 0 }
      go (inl e) = rw e (ap (λ (x : Node). record x { youngest = 0; children = 0 }) added_above)
      go (inr other) = ap (λ (x : Node). record x { youngest = 0; children = 0 }) (added_other c (λ e. omega arith) other)

  pub parent_old : (c : ℕ) → c < n → parent (added t n q a) c ≡ parent t c
  parent_old c h = ap (λ (x : Node). x.parent) (old c h)

  pub symbol_old : (c : ℕ) → c < n → symbol (added t n q a) c ≡ symbol t c
  symbol_old c h = ap (λ (x : Node). x.symbol) (old c h)

  pub depth_old : (c : ℕ) → c < n → depth (added t n q a) c ≡ depth t c
  depth_old c h = ap (λ (x : Node). x.depth) (old c h)

  pub older_old : (c : ℕ) → c < n → older (added t n q a) c ≡ older t c
  older_old c h = ap (λ (x : Node). x.older) (old c h)

  pub matched_old : (c : ℕ) → c < n → matched (added t n q a) c ≡ matched t c
  matched_old c h = ap (λ (x : Node). x.matched) (old c h)

  pub failure_old : (c : ℕ) → c < n → failure (added t n q a) c ≡ failure t c
  failure_old c h = ap (λ (x : Node). x.failure) (old c h)

  pub youngest_old : (c : ℕ) → c < n → c ≢ q → youngest (added t n q a) c ≡ youngest t c
  youngest_old c h other = ap (λ (x : Node). x.youngest) (added_other c (λ e. omega arith) other)

  pub children_old : (c : ℕ) → c < n → c ≢ q → children (added t n q a) c ≡ children t c
  children_old c h other = ap (λ (x : Node). x.children) (added_other c (λ e. omega arith) other)

-- the links hold with the new node
module _ (root : ℕ) (t : List Node) (n q a : ℕ) (low : root < n) (lt : q < n) (room : n < length t) (l : Linked root t n)
    (fresh : node t n ≡ unused) where
  up' : (c : ℕ) → root < c → c < suc n → parent (added t n q a) c < c
  up' c some h = go (last_or n c h)
    where
      go : (c < n) ⊎ (c ≡ n) → parent (added t n q a) c < c
      go (inl k) = rw (parent_old t n q a lt room c k) (l.up c some k)
      go (inr e) = rw (e, added_parent t n q a lt room) lt

  young_new : youngest (added t n q a) n ≡ 0
  young_new = ap (λ (x : Node). x.youngest) (added_node t n q a lt room) ∙ ap (λ (x : Node). x.youngest) fresh

  young' : (p : ℕ) → p < suc n → youngest (added t n q a) p < suc n
  young' p h = go (last_or n p h) (same_or q p)
    where
      go : (p < n) ⊎ (p ≡ n) → (p ≡ q) ⊎ (p ≢ q) → youngest (added t n q a) p < suc n
      go k (inl e) = rw (e, added_youngest t n q a lt room) (omega arith)
      go (inl k) (inr other) = rw (youngest_old t n q a lt room p k other) (omega (arith, l.young p k))
      go (inr e) (inr other) = rw (e, young_new) (omega arith)

  young_of' : (p : ℕ) → p < suc n → 0 < youngest (added t n q a) p → ChildOf root (added t n q a) p (youngest (added t n q a) p)
  young_of' p h = go (last_or n p h) (same_or q p)
    where
      go : (p < n) ⊎ (p ≡ n) → (p ≡ q) ⊎ (p ≢ q) → 0 < youngest (added t n q a) p
          → ChildOf root (added t n q a) p (youngest (added t n q a) p)
      go k (inl e) some = rw (e, added_youngest t n q a lt room) (low, added_parent t n q a lt room)
      go (inl k) (inr other) some =
          let y = youngest_old t n q a lt room p k other in
          let child = l.young_of p k (rw y at some) in
          rw y (child.0, parent_old t n q a lt room (youngest t p) (l.young p k) ∙ child.1)
      go (inr e) (inr other) some = absurd (omega (arith, rw (e, young_new) at some))

  young_last' : (p c : ℕ) → p < suc n → root < c → c < suc n → parent (added t n q a) c ≡ p → c ≤ youngest (added t n q a) p
  young_last' p c h some k e = go (last_or n c k) (same_or q p) (last_or n p h)
    where
      go : (c < n) ⊎ (c ≡ n) → (p ≡ q) ⊎ (p ≢ q) → (p < n) ⊎ (p ≡ n) → c ≤ youngest (added t n q a) p
      go x (inl d) y = rw (d, added_youngest t n q a lt room) (omega arith)
      go (inr d) (inr other) y = absurd (other (sym e ∙ rw (d, added_parent t n q a lt room)))
      go (inl x) (inr other) (inl y) =
          rw (youngest_old t n q a lt room p y other) (l.young_last p c y some x (sym (parent_old t n q a lt room c x) ∙ e))
      go (inl x) (inr other) (inr y) =
          let d : parent t c ≡ p = sym (parent_old t n q a lt room c x) ∙ e in
          absurd (omega (arith, l.up c some x))

  old' : (c : ℕ) → root < c → c < suc n → older (added t n q a) c < c
  old' c some h = go (last_or n c h)
    where
      go : (c < n) ⊎ (c ≡ n) → older (added t n q a) c < c
      go (inl k) = rw (older_old t n q a lt room c k) (l.old c some k)
      go (inr e) = rw (e, added_older t n q a lt room) (l.young q lt)

  old_of' : (c : ℕ) → root < c → c < suc n → 0 < older (added t n q a) c
      → ChildOf root (added t n q a) (parent (added t n q a) c) (older (added t n q a) c)
  old_of' c some h = go (last_or n c h)
    where
      go : (c < n) ⊎ (c ≡ n) → 0 < older (added t n q a) c
          → ChildOf root (added t n q a) (parent (added t n q a) c) (older (added t n q a) c)
      go (inl k) more =
          let o = older_old t n q a lt room c k in
          let less : older t c < n = omega (arith, l.old c some k) in
          let child = l.old_of c some k (rw o at more) in
          rw (o, parent_old t n q a lt room c k) (child.0, parent_old t n q a lt room (older t c) less ∙ child.1)
      go (inr e) more =
          let o = added_older t n q a lt room in
          let child = l.young_of q lt (rw (e, o) at more) in
          rw (e, o, added_parent t n q a lt room)
          (child.0, parent_old t n q a lt room (youngest t q) (l.young q lt) ∙ child.1)

  old_next' : (c b : ℕ) → root < c → c < suc n → root < b → b < c → parent (added t n q a) b ≡ parent (added t n q a) c
      → b ≤ older (added t n q a) c
  old_next' c b some h pos less = go (last_or n c h)
    where
      go : (c < n) ⊎ (c ≡ n) → parent (added t n q a) b ≡ parent (added t n q a) c → b ≤ older (added t n q a) c
      go (inl k) e =
          rw (older_old t n q a lt room c k)
          (l.old_next c b some k pos less
          (sym (parent_old t n q a lt room b (omega arith)) ∙ e ∙ parent_old t n q a lt room c k))
      go (inr d) e =
          let bn : b < n = omega arith in
          rw (d, added_older t n q a lt room)
          (l.young_last q b lt pos bn
          (sym (parent_old t n q a lt room b bn) ∙ e ∙ rw (d, added_parent t n q a lt room)))

  pub linked_added : Linked root (added t n q a) (suc n)
  linked_added =
      record {
        size = rw (added_size t n q a lt room) (omega arith);
        up = up';
        young = young';
        young_of = young_of';
        young_last = young_last';
        old = old';
        old_of = old_of';
        old_next = old_next';
      }
