-- How the trie grows: following a symbol from a node leads to the state with that symbol added, which gets the next number
-- when it is new.
-- Assumes nothing.
use Prim.Native.Nat.{ℕ, suc, ◌+◌, ◌≤◌, ◌<◌}
use mathlib.Core.Path.{◌≡◌, refl, sym, ap, ◌∙◌}
use mathlib.Core.Bool.{Bool, true, false, ◌||◌, or-false}
use mathlib.Core.Logic.{◌≢◌, ◌⊎◌, inl, inr}
use Rattle.std.specs.Prelude.{None}
use mathlib.Core.List.{List, [], ◌∷◌, ◌++◌}
use native.Mathlib.Omega.{arith}
use native.Mathlib.Numerals.{add-one}
use lib.Dec.{ltb}
use lib.ListN.{length, get_or, length-append, get_or-append}
use lib.Seq.{get_or_at}
use borrow.Author.Tests.{ltb-true, ltb-false}
use Rattle.rewriting.specs.Lists.{same}
use Rattle.rewriting.specs.Rules.{Rule}
use Rattle.rewriting.proofs.Lists.{same_eq, same_refl, last_or, same_or}
use Rattle.trie.specs.declared.Walked.{Walked}
use Rattle.layout.specs.States.{mark, known, number, numbered}
use Rattle.layout.specs.Table.{match_word}
use Rattle.layout.specs.Words.{own}
use Rattle.trie.specs.declared.Node.{Node}
use Rattle.trie.specs.Nodes.{
  unused,
  node,
  parent,
  symbol,
  depth,
  children,
  matched,
  tally,
  Trie,
  Owned,
  IsChild,
  added,
  Found,
  New,
  Followed,
}
use Rattle.layout.proofs.States.{snoc_parts, snoc_some, known_append, known_at, number_at, once_new}
use Rattle.trie.proofs.Tally.{tally_agree, tally-none, tally_more}
use Rattle.trie.proofs.Nodes.{
  added_size,
  added_node,
  added_other,
  added_parent,
  added-symbol,
  added_depth,
  added_children,
  parent_old,
  symbol_old,
  depth_old,
  matched_old,
  failure_old,
  children_old,
  linked_added,
}

module _ (root : ℕ) (s : List (List ℕ)) (symbols : ℕ) (t : List Node) (h : Trie root s symbols t) where
  -- no two nodes hold one state
  pub node_once : (i j : ℕ) → i < length s → j < length s → get_or s i [] ≡ get_or s j [] → i ≡ j
  node_once i j hi hj e = sym (h.once i hi) ∙ rw e (h.once j hj)

  -- a node other than the root is behind it, or the mark's before it
  pub node_cases : (c : ℕ) → (c ≡ root → ⊥) → (root < c) ⊎ ((c ≡ 0) × (0 < root))
  node_cases c other = go (ltb root c) refl
    where
      go : (b : Bool) → ltb root c ≡ b → (root < c) ⊎ ((c ≡ 0) × (0 < root))
      go true e = inl (ltb-true root c e)
      go false e =
          let low = ltb-false root c e in
          inr (omega (arith, h.low_root, other), omega (arith, h.low_root, other))

  -- its parent is a node, and its state is longer by one
  pub parent_below : (c : ℕ) → (c ≡ root → ⊥) → c < length s → parent t c < length s
  parent_below c other lt = go (node_cases c other)
    where
      go : (root < c) ⊎ ((c ≡ 0) × (0 < root)) → parent t c < length s
      go (inl behind) = omega (arith, h.linked.up c behind lt)
      go (inr (e, pos)) = rw (e, h.mark_parent) h.some_node

  pub parent_shorter : (c : ℕ) → (c ≡ root → ⊥) → c < length s → length (get_or s c []) ≡ length (get_or s (parent t c) []) + 1
  parent_shorter c other lt = go (node_cases c other)
    where
      go : (root < c) ⊎ ((c ≡ 0) × (0 < root)) → length (get_or s c []) ≡ length (get_or s (parent t c) []) + 1
      go (inl behind) = simp length-append at (ap length (h.made c behind lt))
      go (inr (e, pos)) = rw (e, h.mark_parent, h.mark_alone pos, h.root-empty)

  -- a state with a symbol added is behind the root
  snoc_behind : (v : List ℕ) (a c : ℕ) → a < symbols → get_or s c [] ≡ v ++ a ∷ [] → root < c
  snoc_behind v a c small e = go (node_cases c (λ p. snoc_some v a (sym e ∙ rw p h.root-empty)))
    where
      go : (root < c) ⊎ ((c ≡ 0) × (0 < root)) → root < c
      go (inl behind) = behind
      go (inr (p, pos)) =
          let parts = snoc_parts v [] a mark (sym e ∙ rw p (h.mark_alone pos)) in
          absurd (omega (arith, h.few, parts.1))

  -- the child of q by a holds q's state with a added
  pub child_state : (q a c : ℕ) → IsChild root t (length s) q a c → get_or s c [] ≡ get_or s q [] ++ a ∷ []
  child_state q a c k = h.made c k.behind k.node ∙ rw (k.of, k.by)

  -- and a node with that state is that child
  pub state_child : (q a c : ℕ) → a < symbols → q < length s → c < length s → get_or s c [] ≡ get_or s q [] ++ a ∷ []
      → IsChild root t (length s) q a c
  state_child q a c small hq hc e =
      let behind = snoc_behind (get_or s q []) a c small e in
      let parts = snoc_parts (get_or s (parent t c) []) (get_or s q []) (symbol t c) a (sym (h.made c behind hc) ∙ e) in
      record {
        behind = behind;
        node = hc;
        of = node_once (parent t c) q (omega (arith, h.linked.up c behind hc)) hq parts.0;
        by = parts.1;
      }

  -- a state that is no node's child is new
  pub no_child : (q a : ℕ) → a < symbols → q < length s → ((c : ℕ) → IsChild root t (length s) q a c → ⊥)
      → known s (get_or s q [] ++ a ∷ []) ≡ false
  no_child q a small hq missing = go (known s (get_or s q [] ++ a ∷ [])) refl
    where
      go : (b : Bool) → known s (get_or s q [] ++ a ∷ []) ≡ b → b ≡ false
      go true e =
          let at = number_at s (get_or s q [] ++ a ∷ []) e in
          absurd (missing (number s (get_or s q [] ++ a ∷ []))
          (state_child q a (number s (get_or s q [] ++ a ∷ [])) small hq at.0 at.1))
      go false e = refl

  -- with a state its own beginning is known
  pub known_shorter : (v : List ℕ) (a : ℕ) → a < symbols → known s (v ++ a ∷ []) ≡ true → known s v ≡ true
  known_shorter v a small e =
      let c = number s (v ++ a ∷ []) in
      let at = number_at s (v ++ a ∷ []) e in
      let behind = snoc_behind v a c small at.1 in
      let up = h.linked.up c behind at.0 in
      let parts = snoc_parts (get_or s (parent t c) []) v (symbol t c) a (sym (h.made c behind at.0) ∙ at.1) in
      rw parts.0 at (known_at s (parent t c) (omega (arith, at.0)))

-- The trie with a new state: node q's, with symbol a added.
module _ (root : ℕ) (s : List (List ℕ)) (symbols : ℕ) (t : List Node) (h : Trie root s symbols t) (q a : ℕ) (hq : q < length s)
    (small : a < symbols)
    (room : length s < length t) (new : known s (get_or s q [] ++ a ∷ []) ≡ false) where
  more_length : length (s ++ (get_or s q [] ++ a ∷ []) ∷ []) ≡ suc (length s)
  more_length = rw length-append (omega arith)

  more_old : (c : ℕ) → c < length s → get_or (s ++ (get_or s q [] ++ a ∷ []) ∷ []) c [] ≡ get_or s c []
  more_old c k = get_or-append s ((get_or s q [] ++ a ∷ []) ∷ []) [] c k

  more_new : get_or (s ++ (get_or s q [] ++ a ∷ []) ∷ []) (length s) [] ≡ get_or s q [] ++ a ∷ []
  more_new = get_or_at s (get_or s q [] ++ a ∷ []) [] [] (length s) refl

  -- its node was not in use
  fresh : node t (length s) ≡ unused
  fresh = h.clear (length s) (omega arith)

  -- what is known with the new state
  more_known : (v : List ℕ) → known (s ++ (get_or s q [] ++ a ∷ []) ∷ []) v ≡ (known s v || same (get_or s q [] ++ a ∷ []) v)
  unfolding known
  more_known v = known_append s ((get_or s q [] ++ a ∷ []) ∷ []) v ∙ rw or-false

  made' : (c : ℕ) → root < c → c < suc (length s)
      → get_or (s ++ (get_or s q [] ++ a ∷ []) ∷ []) c []
      ≡ get_or (s ++ (get_or s q [] ++ a ∷ []) ∷ []) (parent (added t (length s) q a) c) []
      ++ symbol (added t (length s) q a) c ∷ []
  made' c some k = go (last_or (length s) c k)
    where
      go : (c < length s) ⊎ (c ≡ length s)
          → get_or (s ++ (get_or s q [] ++ a ∷ []) ∷ []) c []
          ≡ get_or (s ++ (get_or s q [] ++ a ∷ []) ∷ []) (parent (added t (length s) q a) c) []
          ++ symbol (added t (length s) q a) c ∷ []
      go (inl lt) =
          let up : parent t c < length s = omega (arith, h.linked.up c some lt) in
          rw (
            parent_old t (length s) q a hq room c lt,
            symbol_old t (length s) q a hq room c lt,
            more_old c lt,
            more_old (parent t c) up,
          )
          (h.made c some lt)
      go (inr e) =
          rw (e, added_parent t (length s) q a hq room, added-symbol t (length s) q a hq room, more_new, more_old q hq)

  small' : (c : ℕ) → root < c → c < suc (length s) → symbol (added t (length s) q a) c < symbols
  small' c some k = go (last_or (length s) c k)
    where
      go : (c < length s) ⊎ (c ≡ length s) → symbol (added t (length s) q a) c < symbols
      go (inl lt) = rw (symbol_old t (length s) q a hq room c lt) (h.small c some lt)
      go (inr e) = rw (e, added-symbol t (length s) q a hq room) small

  deep' : (c : ℕ) → c < suc (length s)
      → depth (added t (length s) q a) c ≡ length (get_or (s ++ (get_or s q [] ++ a ∷ []) ∷ []) c [])
  deep' c k = go (last_or (length s) c k)
    where
      go : (c < length s) ⊎ (c ≡ length s)
          → depth (added t (length s) q a) c ≡ length (get_or (s ++ (get_or s q [] ++ a ∷ []) ∷ []) c [])
      go (inl lt) = rw (depth_old t (length s) q a hq room c lt, more_old c lt) (h.deep c lt)
      go (inr e) = rw (e, added_depth t (length s) q a hq room, more_new, h.deep q hq, length-append)

  counted' : (c : ℕ) → c < suc (length s)
      → children (added t (length s) q a) c
      ≡ tally
      (λ b. known (s ++ (get_or s q [] ++ a ∷ []) ∷ []) (get_or (s ++ (get_or s q [] ++ a ∷ []) ∷ []) c [] ++ b ∷ []))
      symbols
  counted' c k = go (last_or (length s) c k) (same_or q c)
    where
      -- a node's child by b is new only for q and a
      not_new : (v : List ℕ) (b : ℕ) → (v ≡ get_or s q [] → b ≡ a → ⊥) → same (get_or s q [] ++ a ∷ []) (v ++ b ∷ []) ≡ false
      not_new v b other = test (same (get_or s q [] ++ a ∷ []) (v ++ b ∷ [])) refl
        where
          test : (x : Bool) → same (get_or s q [] ++ a ∷ []) (v ++ b ∷ []) ≡ x → x ≡ false
          test true e =
              let parts = snoc_parts (get_or s q []) v a b (same_eq (get_or s q [] ++ a ∷ []) (v ++ b ∷ []) e) in
              absurd (other (sym parts.0) (sym parts.1))
          test false e = refl

      go : (c < length s) ⊎ (c ≡ length s) → (c ≡ q) ⊎ (c ≢ q)
          → children (added t (length s) q a) c
          ≡ tally
          (λ b. known (s ++ (get_or s q [] ++ a ∷ []) ∷ []) (get_or (s ++ (get_or s q [] ++ a ∷ []) ∷ []) c [] ++ b ∷ []))
          symbols
      go lt (inl e) =
          rw (e, added_children t (length s) q a hq room, more_old q hq, h.counted q hq)
          (sym
          (tally_more (λ b. known s (get_or s q [] ++ b ∷ []))
          (λ b. known (s ++ (get_or s q [] ++ a ∷ []) ∷ []) (get_or s q [] ++ b ∷ []))
          symbols a small new
          (rw (more_known (get_or s q [] ++ a ∷ []), new) (same_refl (get_or s q [] ++ a ∷ [])))
          (λ b lt other. rw (more_known (get_or s q [] ++ b ∷ []), not_new (get_or s q []) b (λ _ p. other p))
          (or-false (known s (get_or s q [] ++ b ∷ []))))))
      go (inl lt) (inr other) =
          rw (children_old t (length s) q a hq room c lt other, more_old c lt, h.counted c lt)
          (tally_agree (λ b. known s (get_or s c [] ++ b ∷ []))
          (λ b. known (s ++ (get_or s q [] ++ a ∷ []) ∷ []) (get_or s c [] ++ b ∷ [])) symbols
          (λ b _. sym
          (rw (
            more_known (get_or s c [] ++ b ∷ []),
            not_new (get_or s c []) b (λ p _. other (node_once root s symbols t h c q lt hq p)),
          )
          (or-false (known s (get_or s c [] ++ b ∷ []))))))
      go (inr e) (inr other) =
          rw (e, ap (λ (x : Node). x.children) (added_node t (length s) q a hq room), fresh, more_new)
          (sym
          (tally-none (λ b. known (s ++ (get_or s q [] ++ a ∷ []) ∷ []) (get_or s q [] ++ a ∷ [] ++ b ∷ [])) symbols
          (λ b low. rw (more_known (get_or s q [] ++ a ∷ [] ++ b ∷ []), unknown b low, longer b))))
        where
          unknown : (b : ℕ) → b < symbols → known s (get_or s q [] ++ a ∷ [] ++ b ∷ []) ≡ false
          unknown b low = test (known s (get_or s q [] ++ a ∷ [] ++ b ∷ [])) refl
            where
              test : (x : Bool) → known s (get_or s q [] ++ a ∷ [] ++ b ∷ []) ≡ x → x ≡ false
              test true p =
                  let z : true ≡ false = sym (known_shorter root s symbols t h (get_or s q [] ++ a ∷ []) b low p) ∙ new in
                  z
              test false p = refl

          longer : (b : ℕ) → same (get_or s q [] ++ a ∷ []) (get_or s q [] ++ a ∷ [] ++ b ∷ []) ≡ false
          longer b = not_new (get_or s q [] ++ a ∷ []) b
              (λ p _. let n : length (get_or s q [] ++ a ∷ []) ≡ length (get_or s q []) = ap length p in
              omega (arith, simp length-append at n))

  clear' : (c : ℕ) → suc (length s) ≤ c → node (added t (length s) q a) c ≡ unused
  clear' c far = added_other t (length s) q a hq room c (λ e. omega arith) (λ e. omega arith) ∙ h.clear c (omega arith)

  pub trie_added : Trie root (s ++ (get_or s q [] ++ a ∷ []) ∷ []) symbols (added t (length s) q a)
  trie_added =
      record {
        linked = rw more_length (linked_added root t (length s) q a h.some_node hq room h.linked fresh);
        low_root = h.low_root;
        some_node = rw more_length (omega (arith, h.some_node));
        root-empty = more_old root h.some_node ∙ h.root-empty;
        mark_alone = λ pos. more_old 0 first ∙ h.mark_alone pos;
        mark_parent = parent_old t (length s) q a hq room 0 first ∙ h.mark_parent;
        mark_failure = failure_old t (length s) q a hq room 0 first ∙ h.mark_failure;
        few = h.few;
        once = once_new s (get_or s q [] ++ a ∷ []) new h.once;
        made = rw more_length made';
        small = rw more_length small';
        deep = rw more_length deep';
        counted = rw more_length counted';
        clear = rw more_length clear';
      }
    where
      first : 0 < length s
      first = omega (arith, h.some_node)

  -- its match word is 0, which is right if no rule has it as its left side
  pub owned_added : (rules : List Rule) → Owned rules s t → own rules (get_or s q [] ++ a ∷ []) ≡ None
      → Owned rules (s ++ (get_or s q [] ++ a ∷ []) ∷ []) (added t (length s) q a)
  unfolding match_word
  owned_added rules owned low c k = go (last_or (length s) c (rw more_length at k))
    where
      go : (c < length s) ⊎ (c ≡ length s)
          → matched (added t (length s) q a) c ≡ match_word (own rules (get_or (s ++ (get_or s q [] ++ a ∷ []) ∷ []) c []))
      go (inl lt) = rw (matched_old t (length s) q a hq room c lt, more_old c lt) (owned c lt)
      go (inr e) =
          rw (e, more_new, low)
          (ap (λ (x : Node). x.matched) (added_node t (length s) q a hq room) ∙ ap (λ (x : Node). x.matched) fresh)

-- A symbol followed from node q, whatever was there.
module _ (root : ℕ) (s : List (List ℕ)) (symbols : ℕ) (t : List Node) (h : Trie root s symbols t) (q a : ℕ) (hq : q < length s)
    (small : a < symbols)
    (room : length s < length t) where
  pub record Stepped (w : Walked) (t' : List Node) : Type 0 where
    pub trie : Trie root (numbered s ((get_or s q [] ++ a ∷ []) ∷ [])) symbols t'
    pub nodes : w.nodes ≡ length (numbered s ((get_or s q [] ++ a ∷ []) ∷ []))
    pub node : w.node < length (numbered s ((get_or s q [] ++ a ∷ []) ∷ []))
    pub state : get_or (numbered s ((get_or s q [] ++ a ∷ []) ∷ [])) w.node [] ≡ get_or s q [] ++ a ∷ []
    pub size : length t' ≡ length t
    pub owned : (rules : List Rule) → Owned rules s t
        → (known s (get_or s q [] ++ a ∷ []) ≡ false → own rules (get_or s q [] ++ a ∷ []) ≡ None)
        → Owned rules (numbered s ((get_or s q [] ++ a ∷ []) ∷ [])) t'

  stays : known s (get_or s q [] ++ a ∷ []) ≡ true → numbered s ((get_or s q [] ++ a ∷ []) ∷ []) ≡ s
  unfolding numbered
  stays e = rw e

  grows : known s (get_or s q [] ++ a ∷ []) ≡ false
      → numbered s ((get_or s q [] ++ a ∷ []) ∷ []) ≡ s ++ (get_or s q [] ++ a ∷ []) ∷ []
  unfolding numbered
  grows e = rw e

  stepped_found : (w : Walked) (t' : List Node) → Found root t (length s) q a w t' → Stepped w t'
  stepped_found w t' f =
      let there = child_state root s symbols t h q a w.node f.child in
      let old : known s (get_or s q [] ++ a ∷ []) ≡ true = rw there at (known_at s w.node f.child.node) in
      record {
        trie = rw (stays old, f.kept) h;
        nodes = rw (stays old) f.nodes;
        node = rw (stays old) f.child.node;
        state = rw (stays old) there;
        size = ap length f.kept;
        owned = λ rules owned low. rw (stays old, f.kept) owned;
      }

  stepped_new : (w : Walked) (t' : List Node) → New root t (length s) q a w t' → Stepped w t'
  stepped_new w t' f =
      let new = no_child root s symbols t h q a small hq f.none in
      let longer = more_length root s symbols t h q a hq small room new in
      record {
        trie = rw (grows new, f.grown) (trie_added root s symbols t h q a hq small room new);
        nodes = rw (grows new, longer) (f.nodes ∙ add-one (length s));
        node = rw (grows new, longer, f.node) (omega arith);
        state = rw (grows new, f.node) (more_new root s symbols t h q a hq small room new);
        size = rw f.grown (added_size t (length s) q a hq room);
        owned = λ rules owned low.
            rw (grows new, f.grown) (owned_added root s symbols t h q a hq small room new rules owned (low new));
      }

  pub stepped : (w : Walked) (t' : List Node) → Followed root t (length s) q a w t' → Stepped w t'
  stepped w t' (inl f) = stepped_found w t' f
  stepped w t' (inr f) = stepped_new w t' f
