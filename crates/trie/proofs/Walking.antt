-- The walk along one left side, from the root or the mark, in the trie of the rules before it.
-- Assumes nothing.
use Prim.Native.Nat.{ℕ, zero, suc, ◌+◌, ◌-◌, ◌≤◌, ◌<◌}
use mathlib.Core.Path.{◌≡◌, refl, sym, ap, ◌∙◌}
use mathlib.Core.Bool.{Bool, true, false, cond, ◌||◌}
use Rattle.std.specs.Prelude.{None}
use mathlib.Core.List.{List, [], ◌∷◌, ◌++◌, map, flat_map, append-nil}
use native.Mathlib.Omega.{arith}
use native.Mathlib.Nat.{le_of_suc-le-suc, not-suc-le-zero, min-le_left}
use lib.Dec.{ltb}
use lib.ListN.{length, get_or, take, drop, length-append, length-take, length-drop}
use lib.Seq.{take-suc, take_all, get_or-take, get_or-drop, length-take-le}
use borrow.Author.Tests.{ltb-true}
use Rattle.rewriting.specs.Rules.{Rule, RuleSet, rule, in_range}
use Rattle.rewriting.proofs.Lists.{all_at, or_left, or_right, flat_map_snoc}
use Rattle.rewriting.proofs.Ranges.{ranges, rule_at_lem}
use Rattle.layout.specs.Image.{mark_byte, body, read, valid}
use Rattle.layout.specs.Places.{left_at}
use Rattle.layout.proofs.Image.{valid-in_range}
use Rattle.layout.proofs.Places.{left_within, left_symbol, body_left}
use Rattle.trie.proofs.Marks.{mark_here, root_found}
use Rattle.trie.specs.declared.Node.{Node}
use Rattle.trie.specs.declared.Walked.{Walked}
use Rattle.layout.specs.States.{mark, pattern, is_prefix, prefixes, known, numbered, has_mark, first_states}
use Rattle.layout.specs.Words.{root, own}
use Rattle.trie.specs.Nodes.{
  depth,
  children,
  Linked,
  Trie,
  Owned,
  Followed,
  first_node,
  states_of,
  Grown,
  FollowedRule,
  Roomy,
}
use Rattle.layout.proofs.Matching.{own_no_prefix}
use Rattle.layout.proofs.States.{
  known-numbered,
  all_prefixes,
  first_or_later,
  first_few,
  first_known,
  numbered_append,
  numbered-known,
  length-numbered,
  length-prefixes,
  few_numbered,
  few_left,
  root_marked,
}
use Rattle.trie.proofs.Tally.{tally_most}
use Rattle.trie.proofs.Growth.{Stepped, stepped}

-- the prefixes of a left side, by their lengths
prefix_at : (l : List ℕ) (j : ℕ) → j < length l → get_or (prefixes l) j [] ≡ take (suc j) l
unfolding prefixes
prefix_at [] j h = absurd (not-suc-le-zero h)
prefix_at (x ∷ l) zero h = refl
prefix_at (x ∷ l) (suc j) h =
    let k : j < length l = le_of_suc-le-suc h in
    go (prefixes l) j (rw length-prefixes k) ∙ rw (prefix_at l j k)
  where
    go : (ps : List (List ℕ)) (j : ℕ) → j < length ps → get_or (map (λ v. x ∷ v) ps) j [] ≡ x ∷ get_or ps j []
    go [] j h = absurd (not-suc-le-zero h)
    go (p ∷ ps) zero h = refl
    go (p ∷ ps) (suc j) h = go ps j (le_of_suc-le-suc h)

prefixes-next : (l : List ℕ) (j : ℕ) → j < length l → take (suc j) (prefixes l) ≡ take j (prefixes l) ++ take (suc j) l ∷ []
prefixes-next l j h =
    let k : j < length (prefixes l) = rw length-prefixes h in
    take-suc (prefixes l) j [] k ∙ rw (prefix_at l j h)

-- a rule more
pub take-rule : (rules : List Rule) (i : ℕ) → i < length rules → take (suc i) rules ≡ take i rules ++ rule rules i ∷ []
unfolding rule
take-rule rules i h = take-suc rules i _ h

pub states-next : (set : RuleSet) (i : ℕ) → i < length set.rules
    → states_of set (suc i) ≡ numbered (states_of set i) (prefixes (pattern (rule set.rules i)))
unfolding states_of
states-next set i h =
    rw (take-rule set.rules i h, flat_map_snoc (λ r. prefixes (pattern r)) (take i set.rules) (rule set.rules i))
    (numbered_append (first_states set.rules) (all_prefixes (take i set.rules)) (prefixes (pattern (rule set.rules i))))

-- 64 left sides have at most 512 symbols
pub few_symbols : (set : RuleSet) → in_range set ≡ true → length (flat_map (λ r. r.left) set.rules) ≤ 512
few_symbols set e =
    let h = ranges set e in
    omega (arith, few_left set set.rules h.all_rules, h.few_rules)

-- and fewer than the bodies have
left_bodies : (rs : List Rule) → length (flat_map (λ r. r.left) rs) ≤ length (flat_map body rs)
unfolding flat_map
left_bodies [] = omega arith
left_bodies (r ∷ rs) =
    let ih = left_bodies rs in
    let own = body_left r in
    simp length-append (omega arith)

-- so 514 nodes are enough for every rule set, and 64 for bodies of less than 63 symbols
pub roomy_large : (b : List ℕ) → valid b ≡ true → Roomy (read b) 514
roomy_large b e = omega (arith, few_symbols (read b) (valid-in_range b e))

pub roomy_small : (b : List ℕ) → length (flat_map body (read b).rules) < 63 → Roomy (read b) 64
roomy_small b few = omega (arith, left_bodies (read b).rules)

-- the symbols of the first i left sides and of left side i are among all
pub symbols_within : (rs : List Rule) (i : ℕ) → i < length rs
    → length (flat_map (λ r. r.left) (take i rs)) + length (rule rs i).left ≤ length (flat_map (λ r. r.left) rs)
unfolding flat_map rule
symbols_within [] i h = absurd (not-suc-le-zero h)
symbols_within (r ∷ rs) zero h = simp length-append (omega arith)
symbols_within (r ∷ rs) (suc i) h =
    let ih = symbols_within rs i (le_of_suc-le-suc h) in
    simp length-append (omega arith)

pub symbols_next : (rs : List Rule) (i : ℕ) → i < length rs
    → length (flat_map (λ r. r.left) (take (suc i) rs)) ≡ length (flat_map (λ r. r.left) (take i rs)) + length (rule rs i).left
unfolding flat_map rule
symbols_next [] i h = absurd (not-suc-le-zero h)
symbols_next (r ∷ rs) zero h = rw append-nil (omega arith)
symbols_next (r ∷ rs) (suc i) h =
    let ih = symbols_next rs i (le_of_suc-le-suc h) in
    simp length-append (omega arith)

-- where in its pattern the left side of a rule begins: behind the mark, if it has one
unfoldable pub lead : Rule → ℕ
lead r = cond r.marked 1 0

lead_left : (r : Rule) (j : ℕ)
    → (get_or (pattern r) (lead r + j) 0 ≡ get_or r.left j 0) × (length (pattern r) ≡ lead r + length r.left)
unfolding pattern lead
lead_left r j = go r.marked
  where
    go : (b : Bool) → (get_or (cond b (mark ∷ r.left) r.left) (cond b 1 0 + j) 0 ≡ get_or r.left j 0)
        × (length (cond b (mark ∷ r.left) r.left) ≡ cond b 1 0 + length r.left)
    go true = let one : 1 + j ≡ suc j = omega arith in rw one (refl, omega arith)
    go false = let None : 0 + j ≡ j = omega arith in rw None (refl, omega arith)

lead_small : (r : Rule) → lead r ≤ 1
unfolding lead
lead_small r = go r.marked
  where
    go : (b : Bool) → cond b 1 0 ≤ 1
    go true = omega arith
    go false = omega arith

-- marked rules among the first are marked rules
mark-taken : (rules : List Rule) (i : ℕ) → has_mark (take i rules) ≡ true → has_mark rules ≡ true
unfolding has_mark
mark-taken [] zero m = m
mark-taken [] (suc i) m = m
mark-taken (r ∷ rules) zero m = let z : ◌≡◌ {A = ℕ} 0 1 = cc in absurd (omega arith)
mark-taken (r ∷ rules) (suc i) m = go r.marked refl m (mark-taken rules i)
  where
    go : (b : Bool) → r.marked ≡ b → (b || has_mark (take i rules)) ≡ true
        → (has_mark (take i rules) ≡ true → has_mark rules ≡ true)
        → (r.marked || has_mark rules) ≡ true
    go true e m ih = or_left r.marked (has_mark rules) e
    go false e m ih = or_right r.marked (has_mark rules) (ih m)

-- The walk along rule i's left side: after j symbols it stands at the node of the mark, if there is one, and the first j, and
-- these prefixes have nodes.
module _ (set : RuleSet) (i words : ℕ) where
  -- the states by then
  abbrev pub sofar : ℕ → List (List ℕ)
  sofar j = numbered (states_of set i) (take (lead (rule set.rules i) + j) (prefixes (pattern (rule set.rules i))))

  pub record Walking (j q n : ℕ) (t : List Node) : Type 0 where
    pub within : j ≤ length (rule set.rules i).left
    pub trie : Trie (root set.rules) (sofar j) set.symbols t
    pub owned : Owned (take i set.rules) (sofar j) t
    pub nodes : n ≡ length (sofar j)
    pub node : q < length (sofar j)
    pub state : get_or (sofar j) q [] ≡ take (lead (rule set.rules i) + j) (pattern (rule set.rules i))
    pub size : length t ≡ words

  -- the mark alone is among the first states
  mark-known : (rule set.rules i).marked ≡ true → i < length set.rules → known (states_of set i) (mark ∷ []) ≡ true
  unfolding states_of
  mark-known m lt =
      known-numbered (first_states set.rules) (all_prefixes (take i set.rules)) (mark ∷ [])
      ∙ or_left (known (first_states set.rules) (mark ∷ [])) (known (all_prefixes (take i set.rules)) (mark ∷ []))
      (first_known set.rules (mark_here set.rules i m))

  -- so at the first symbol nothing is new
  sofar_first : i < length set.rules → sofar 0 ≡ states_of set i
  unfolding lead pattern prefixes numbered
  sofar_first lt = go (rule set.rules i).marked refl
    where
      go : (b : Bool) → (rule set.rules i).marked ≡ b
          → numbered (states_of set i)
          (take (cond b 1 0 + 0) (prefixes (cond b (mark ∷ (rule set.rules i).left) (rule set.rules i).left)))
          ≡ states_of set i
      go true m = numbered-known (states_of set i) (mark ∷ []) [] (mark-known m lt)
      go false m = refl

  first_there : (t : List Node) → Trie (root set.rules) (states_of set i) set.symbols t → i < length set.rules
      → (first_node set i < length (states_of set i))
      × (get_or (states_of set i) (first_node set i) [] ≡ take (lead (rule set.rules i) + 0) (pattern (rule set.rules i)))
  unfolding first_node lead pattern
  first_there t trie lt = go (rule set.rules i).marked refl
    where
      go : (b : Bool) → (rule set.rules i).marked ≡ b
          → (cond b 0 (root set.rules) < length (states_of set i))
          × (get_or (states_of set i) (cond b 0 (root set.rules)) []
          ≡ take (cond b 1 0 + 0) (cond b (mark ∷ (rule set.rules i).left) (rule set.rules i).left))
      go true m = (
        omega (arith, trie.some_node),
        trie.mark_alone (root_marked set.rules (mark_here set.rules i m)),
      )
      go false m = (trie.some_node, trie.root-empty)

  pub walk_first : (t : List Node) → Grown set i t → i < length set.rules → (n : ℕ) → n ≡ length (states_of set i)
      → length t ≡ words
      → (q : ℕ) → q ≡ first_node set i → Walking 0 q n t
  walk_first t g lt n e long q first =
      record {
        within = omega arith;
        trie = rw (sofar_first lt) g.trie;
        owned = rw (sofar_first lt) g.owned;
        nodes = rw (sofar_first lt) e;
        node = rw (sofar_first lt, first) (first_there t g.trie lt).0;
        state = rw (sofar_first lt, first) (first_there t g.trie lt).1;
        size = long;
      }

  -- the states of the first i rules are known all the while
  still_known : (j : ℕ) (v : List ℕ) → is_prefix (take i set.rules) v ≡ true → known (sofar j) v ≡ true
  unfolding states_of
  still_known j v e =
      known-numbered (states_of set i) (take (lead (rule set.rules i) + j) (prefixes (pattern (rule set.rules i)))) v
      ∙ or_left (known (states_of set i) v) (known (take (lead (rule set.rules i) + j) (prefixes (pattern (rule set.rules i)))) v)
      (known-numbered (first_states set.rules) (all_prefixes (take i set.rules)) v
      ∙ first_or_later set.rules (take i set.rules) v e)

  -- so a new state is the left side of none of them
  new_own : (j : ℕ) (v : List ℕ) → known (sofar j) v ≡ false → own (take i set.rules) v ≡ None
  new_own j v new = own_no_prefix (take i set.rules) v (go (is_prefix (take i set.rules) v) refl)
    where
      go : (b : Bool) → is_prefix (take i set.rules) v ≡ b → b ≡ false
      go true e = sym (still_known j v e) ∙ new
      go false e = refl

  -- at most as many states, beside the first, as symbols that were followed
  pub few_first : length (states_of set i) ≤ 2 + length (flat_map (λ r. r.left) (take i set.rules))
  unfolding states_of
  few_first =
      omega (
        arith,
        first_few set.rules,
        few_numbered (take i set.rules) (first_states set.rules) (λ m. first_known set.rules (mark-taken set.rules i m)),
      )

  few_sofar : i < length set.rules → (j : ℕ) → length (sofar j) ≤ length (states_of set i) + j
  unfolding lead pattern prefixes numbered
  few_sofar lt j = go (rule set.rules i).marked refl
    where
      go : (b : Bool) → (rule set.rules i).marked ≡ b
          → length (numbered (states_of set i)
          (take (cond b 1 0 + j) (prefixes (cond b (mark ∷ (rule set.rules i).left) (rule set.rules i).left))))
          ≤ length (states_of set i) + j
      go true m =
          let rest : List (List ℕ) = take j (map (λ v. mark ∷ v) (prefixes (rule set.rules i).left)) in
          let one : 1 + j ≡ suc j = omega arith in
          rw (one, numbered-known (states_of set i) (mark ∷ []) rest (mark-known m lt))
          (omega (
            arith,
            length-numbered (states_of set i) rest,
            length-take j (map (λ (v : List ℕ). mark ∷ v) (prefixes (rule set.rules i).left)),
            min-le_left j (length (map (λ (v : List ℕ). mark ∷ v) (prefixes (rule set.rules i).left))),
          ))
      go false m =
          let None : 0 + j ≡ j = omega arith in
          rw None
          (omega (
            arith,
            length-numbered (states_of set i) (take j (prefixes (rule set.rules i).left)),
            length-take j (prefixes (rule set.rules i).left),
            min-le_left j (length (prefixes (rule set.rules i).left)),
          ))

  -- what a turn asks
  pub record Room (j q n : ℕ) (t : List Node) : Type 0 where
    pub linked : Linked (root set.rules) t n
    pub node : q < n
    pub few : n < 514
    pub room : n < length t
    pub shallow : depth t q < 514
    pub narrow : children t q < 514

  pub walk_room : in_range set ≡ true → Roomy set words → i < length set.rules → (j q n : ℕ) (t : List Node) → Walking j q n t
      → j < length (rule set.rules i).left → Room j q n t
  walk_room e roomy lt j q n t w more =
      let h = ranges set e in
      let r = rule_at_lem set h i lt in
      let all : n < 2 + length (flat_map (λ r. r.left) set.rules) =
      omega (arith, w.nodes, few_sofar lt j, few_first, symbols_within set.rules i lt)
      in
      let few : n < 514 = omega (arith, few_symbols set e) in
      let long = ap length w.state in
      record {
        linked = rw w.nodes w.trie.linked;
        node = rw w.nodes w.node;
        few = few;
        room = omega (arith, w.size, roomy);
        shallow =
            omega (
              arith,
              w.trie.deep q w.node,
              long,
              length-take (lead (rule set.rules i) + j) (pattern (rule set.rules i)),
              min-le_left (lead (rule set.rules i) + j) (length (pattern (rule set.rules i))),
              lead_small (rule set.rules i),
              r.short_left,
            );
        narrow =
            omega (
              arith,
              w.trie.counted q w.node,
              tally_most (λ a. known (sofar j) (get_or (sofar j) q [] ++ a ∷ [])) set.symbols,
              h.few_symbols,
            );
      }

  -- a turn
  pub walk_next : in_range set ≡ true → Roomy set words → i < length set.rules → (j q n : ℕ) (t : List Node) → Walking j q n t
      → j < length (rule set.rules i).left → (a : ℕ) → a ≡ get_or (rule set.rules i).left j 0 → (w : Walked) (t' : List Node)
      → Followed (root set.rules) t n q a w t' → Walking (suc j) w.node w.nodes t'
  walk_next e roomy lt j q n t k more a is w t' f =
      record {
        within = more;
        trie = rw next step.trie;
        owned = rw next (step.owned (take i set.rules) k.owned (new_own j (get_or (sofar j) q [] ++ a ∷ [])));
        nodes = rw next step.nodes;
        node = rw next step.node;
        state = rw (next, on) (step.state ∙ string);
        size = step.size ∙ k.size;
      }
    where
      on : lead (rule set.rules i) + suc j ≡ suc (lead (rule set.rules i) + j)
      on = omega arith

      inside : lead (rule set.rules i) + j < length (pattern (rule set.rules i))
      inside = omega (arith, (lead_left (rule set.rules i) j).1)

      small : a < set.symbols
      small =
          rw is
          (ltb-true (get_or (rule set.rules i).left j 0) set.symbols
          (all_at (λ x. ltb x set.symbols) (rule set.rules i).left 0 (rule_at_lem set (ranges set e) i lt).left_below j more))

      room : Room j q n t
      room = walk_room e roomy lt j q n t k more

      string : get_or (sofar j) q [] ++ a ∷ [] ≡ take (suc (lead (rule set.rules i) + j)) (pattern (rule set.rules i))
      string =
          rw (k.state, is, ← (lead_left (rule set.rules i) j).0)
          (sym (take-suc (pattern (rule set.rules i)) (lead (rule set.rules i) + j) 0 inside))

      step : Stepped (root set.rules) (sofar j) set.symbols t k.trie q a k.node small (rw (← k.nodes) room.room) w t'
      step =
          stepped (root set.rules) (sofar j) set.symbols t k.trie q a k.node small (rw (← k.nodes) room.room) w t'
          (rw (← k.nodes) f)

      next : sofar (suc j) ≡ numbered (sofar j) ((get_or (sofar j) q [] ++ a ∷ []) ∷ [])
      next =
          rw (on, prefixes-next (pattern (rule set.rules i)) (lead (rule set.rules i) + j) inside, string)
          (numbered_append (states_of set i) (take (lead (rule set.rules i) + j) (prefixes (pattern (rule set.rules i))))
          (take (suc (lead (rule set.rules i) + j)) (pattern (rule set.rules i)) ∷ []))

  -- the end
  pub walk_last : i < length set.rules → (j q n : ℕ) (t : List Node) → Walking j q n t → length (rule set.rules i).left ≤ j
      → FollowedRule set i (record { node = q; nodes = n }) t
  walk_last lt j q n t w far =
      record {
        trie = rw whole w.trie;
        owned = rw whole w.owned;
        nodes = rw whole w.nodes;
        node = rw w.nodes w.node;
        ends = rw whole (w.state ∙ take_all (lead (rule set.rules i) + j) (pattern (rule set.rules i)) long);
      }
    where
      long : length (pattern (rule set.rules i)) ≤ lead (rule set.rules i) + j
      long = omega (arith, (lead_left (rule set.rules i) j).1)

      whole : states_of set (suc i) ≡ sofar j
      whole =
          states-next set i lt
          ∙ rw (take_all (lead (rule set.rules i) + j) (prefixes (pattern (rule set.rules i))) (rw length-prefixes long))

-- the part of the image that is a left side
module _ (b : List ℕ) (e : valid b ≡ true) (i at long : ℕ) (lt : i < length (read b).rules) (here : at ≡ left_at (read b) i)
    (is : long ≡ length (rule (read b).rules i).left) where
  pub left_inside : at + long ≤ length b
  left_inside = omega (arith, left_within b e i lt, body_left (rule (read b).rules i))

  pub part_length : length (take (at + long - at) (drop at b)) ≡ long
  part_length =
      length-take-le (at + long - at) (drop at b) (rw length-drop (omega (arith, left_inside))) ∙ omega arith

  -- before its end there are symbols
  pub within_left : (j : ℕ) → j < length (take (at + long - at) (drop at b)) → j < length (rule (read b).rules i).left
  within_left j h = rw (part_length, is) at h

  pub symbol_at : (j : ℕ) → j < length (rule (read b).rules i).left
      → get_or (take (at + long - at) (drop at b)) j 0 ≡ get_or (rule (read b).rules i).left j 0
  symbol_at j more =
      get_or-take (at + long - at) (drop at b) j 0 (omega arith)
      ∙ get_or-drop at b j 0
      ∙ rw here (left_symbol b e i j lt more)
