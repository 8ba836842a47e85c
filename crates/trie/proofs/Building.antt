-- The trie of all rules: rule by rule its left side is followed, and the rule claims the node at its end.
-- Assumes nothing.
use Prim.Native.Nat.{ℕ, zero, suc, ◌+◌, ◌*◌, ◌≤◌, ◌<◌}
use mathlib.Core.Path.{◌≡◌, refl, sym, ap, ◌∙◌}
use mathlib.Core.Bool.{Bool, true, false, cond, ◌&&◌}
use mathlib.Core.Logic.{◌≢◌, ◌⊎◌, inl, inr}
use Rattle.std.specs.Prelude.{Option, None, Some, option_map}
use Rattle.std.specs.Option.{option_or}
use mathlib.Core.List.{List, [], ◌∷◌, ◌++◌, flat_map}
use native.Mathlib.Omega.{arith}
use native.Mathlib.Numerals.{add-one}
use lib.Dec.{eqb, ltb}
use lib.ListN.{length, get_or, take, replicate, length-set, set}
use lib.Seq.{take_all, length-take-le, set-get_or}
use borrow.Author.Tests.{eqb-true, eqb-false, ne_eqb, ltb-true, ltb-false}
use Rattle.rewriting.specs.Lists.{alike, same}
use Rattle.rewriting.specs.Rules.{Rule, RuleSet, rule, in_range}
use Rattle.rewriting.specs.Occurrences.{lowest}
use Rattle.rewriting.proofs.Lists.{and_left, and_right, and_both, alike_eq, eq_alike, same_eq, eq_same, same_or, below_weaken}
use Rattle.rewriting.proofs.Ranges.{ranges, rule_at_lem}
use Rattle.layout.specs.Image.{body}
use Rattle.layout.specs.Places.{left_at}
use Rattle.layout.proofs.Places.{left_first, left_next}
use Rattle.trie.specs.declared.Walked.{Walked}
use Rattle.layout.specs.States.{mark, pattern, starts, symbols_in, known, numbered, has_mark, first_states, states}
use Rattle.layout.specs.Table.{match_word}
use Rattle.layout.specs.Words.{root, own}
use Rattle.layout.proofs.Matching.{Plain, pattern-own, own-pattern}
use Rattle.layout.proofs.States.{root_small, first_root, first_mark, first_once}
use Rattle.trie.specs.declared.Node.{Node}
use Rattle.trie.specs.Nodes.{
  unused,
  node,
  depth,
  youngest,
  matched,
  Trie,
  Owned,
  claimed,
  planted,
  states_of,
  Grown,
  FollowedRule,
  Roomy,
  Built,
}
use Rattle.trie.proofs.Tally.{tally-none}
use Rattle.trie.proofs.Growth.{node_once}
use Rattle.trie.proofs.Nodes.{node_same, node_other}
use Rattle.trie.proofs.Kept.{trie_kept, taken_length, taken_node, trie_taken, claimed_other, claimed_failure, claimed_kept}
use Rattle.trie.proofs.Walking.{take-rule, few_first, symbols_within, symbols_next}

-- the rule has this mark and this left side
abbrev fits : Bool → List ℕ → Rule → Bool
fits marked v r = alike marked r.marked && same r.left v

-- the lowest rule with a left side, when a rule more comes last
lowest_append : (rules : List Rule) (r : Rule) (marked : Bool) (v : List ℕ)
    → lowest (rules ++ r ∷ []) marked v ≡ option_or (lowest rules marked v) (cond (fits marked v r) (Some (length rules)) None)
unfolding lowest
lowest_append [] r marked v = go (fits marked v r)
  where
    go : (b : Bool) → cond b (Some 0) (option_map suc None) ≡ cond b (Some 0) None
    go true = refl
    go false = refl
lowest_append (x ∷ rules) r marked v =
    go (fits marked v x) (fits marked v r) (lowest rules marked v) (lowest_append rules r marked v)
  where
    go : (b d : Bool) (o : Option ℕ) → lowest (rules ++ r ∷ []) marked v ≡ option_or o (cond d (Some (length rules)) None)
        → cond b (Some 0) (option_map suc (lowest (rules ++ r ∷ []) marked v))
        ≡ option_or (cond b (Some 0) (option_map suc o)) (cond d (Some (suc (length rules))) None)
    go true d o e = refl
    go false d (Some k) e = rw e
    go false true None e = rw e
    go false false None e = rw e

-- a rule has its own pattern, and what has it is that pattern
fits-own : (r : Rule) → Plain r.left → fits (starts (pattern r)) (symbols_in (pattern r)) r ≡ true
fits-own r h =
    and_both (eq_alike (starts (pattern r)) r.marked (own-pattern r h).0)
    (eq_same r.left (symbols_in (pattern r)) (sym (own-pattern r h).1))

fits-pattern : (r : Rule) (v : List ℕ) → fits (starts v) (symbols_in v) r ≡ true → pattern r ≡ v
fits-pattern r v e =
    pattern-own r v (alike_eq (starts v) r.marked (and_left (alike (starts v) r.marked) (same r.left (symbols_in v)) e))
    (same_eq r.left (symbols_in v) (and_right (alike (starts v) r.marked) (same r.left (symbols_in v)) e))

-- Rule i claims the node that its left side ends in.
module _ (set : RuleSet) (in_range_lem : in_range set ≡ true) (i : ℕ) (lt : i < length set.rules) (w : Walked) (t : List Node)
    (f : FollowedRule set i w t) (room : w.nodes ≤ length t) where
  own-next : (v : List ℕ)
      → own (take (suc i) set.rules) v
      ≡ option_or (own (take i set.rules) v) (cond (fits (starts v) (symbols_in v) (rule set.rules i)) (Some i) None)
  unfolding own
  own-next v =
      let n : length (take i set.rules) ≡ i = length-take-le i set.rules (omega arith) in
      rw (take-rule set.rules i lt, lowest_append (take i set.rules) (rule set.rules i) (starts v) (symbols_in v), n)

  -- the node's own rule is the lowest
  claimed-own : matched (claimed t w.node i) w.node
      ≡ match_word (option_or (own (take i set.rules) (pattern (rule set.rules i))) (Some i))
  unfolding claimed match_word
  claimed-own = go (own (take i set.rules) (pattern (rule set.rules i))) (f.owned w.node (rw f.nodes at f.node) ∙ rw f.ends)
    where
      go : (o : Option ℕ) → matched t w.node ≡ match_word o
          → matched (claimed t w.node i) w.node ≡ match_word (option_or o (Some i))
      go None e =
          rw e
          (ap (λ (x : Node). x.matched) (node_same t w.node (record (node t w.node) { matched = i + 1 }) (omega (arith, f.node)))
          ∙ add-one i)
      go (Some k) e = rw (e, ne_eqb (suc k) 0 (λ z. omega arith)) e

  claimed_owned : Owned (take (suc i) set.rules) (states_of set (suc i)) (claimed t w.node i)
  claimed_owned c h = go (same_or w.node c)
    where
      there : List ℕ
      there = get_or (states_of set (suc i)) c []

      plain : Plain (rule set.rules i).left
      plain =
          let k = ranges set in_range_lem in
          below_weaken set.symbols 32 (rule set.rules i).left k.few_symbols (rule_at_lem set k i lt).left_below

      go : (c ≡ w.node) ⊎ (c ≢ w.node)
          → matched (claimed t w.node i) c ≡ match_word (own (take (suc i) set.rules) (get_or (states_of set (suc i)) c []))
      go (inl e) =
          rw (e, f.ends, own-next (pattern (rule set.rules i)), fits-own (rule set.rules i) plain) claimed-own
      go (inr other) =
          rw (own-next there, unlike (fits (starts there) (symbols_in there) (rule set.rules i)) refl)
          (ap (λ (x : Node). x.matched) (claimed_other t w.node i c other) ∙ f.owned c h ∙ rw or_else-none)
        where
          unlike : (b : Bool) → fits (starts there) (symbols_in there) (rule set.rules i) ≡ b → b ≡ false
          unlike true e =
              let eq = fits-pattern (rule set.rules i) there e in
              absurd
              (other
              (node_once (root set.rules) (states_of set (suc i)) set.symbols t f.trie c w.node h (rw f.nodes at f.node)
              (sym eq ∙ sym f.ends)))
          unlike false e = refl

          or_else-none : (o : Option ℕ) → option_or o None ≡ o
          or_else-none None = refl
          or_else-none (Some k) = refl

  -- The trie of a rule more.
  pub grown_next : Grown set (suc i) (claimed t w.node i)
  grown_next =
      record {
        trie =
            trie_kept (claimed_kept t w.node i (rw f.nodes at f.node) (omega (arith, f.node)))
            (claimed_failure t w.node i (omega (arith, f.node)) 0 ∙ f.trie.mark_failure) f.trie;
        owned = claimed_owned;
      }

-- The trie after i rules, the number of its nodes and where the next rule's left side begins.
pub record Building (set : RuleSet) (words i n at : ℕ) (t : List Node) : Type 0 where
  pub within : i ≤ length set.rules
  pub grown : Grown set i t
  pub nodes : n ≡ length (states_of set i)
  pub place : at ≡ left_at set i
  pub size : length t ≡ words

-- how many states there are before any rule
first_count : (set : RuleSet) → length (states_of set 0) ≡ root set.rules + 1
unfolding states_of flat_map numbered first_states root
first_count set = go (has_mark set.rules)
  where
    go : (b : Bool) → length (cond b ((mark ∷ []) ∷ [] ∷ []) ([] ∷ [])) ≡ cond b 1 0 + 1
    go true = refl
    go false = refl

-- a node stored as it is changes nothing
stored : (t : List Node) (q : ℕ) (x : Node) → x ≡ node t q → set t q x ≡ t
stored t q x e = ap (set t q) e ∙ set-get_or t q unused

-- nodes that are all unused, with the first nodes planted, hold the trie of no rules
module _ (set : RuleSet) (in_range_lem : in_range set ≡ true) (t : List Node) (clear : t ≡ replicate (length t) unused)
    (roomy : Roomy set (length t)) where
  unused_at : (c : ℕ) → node t c ≡ unused
  unused_at c = ap (λ (l : List Node). node l c) clear ∙ go (length t) c
    where
      go : (n c : ℕ) → node (replicate n unused) c ≡ unused
      go zero c = refl
      go (suc n) zero = refl
      go (suc n) (suc c) = go n c

  planted_size : length (planted (root set.rules) t) ≡ length t
  unfolding planted
  planted_size = simp length-set

  -- node 0, and all others unused
  planted_first : node (planted (root set.rules) t) 0
      ≡ record unused { parent = root set.rules; depth = root set.rules; failure = root set.rules }
  unfolding planted
  planted_first =
      let first : Node = record (node t 0) { parent = root set.rules; depth = root set.rules; failure = root set.rules } in
      node_same t 0 first (omega (arith, roomy))
      ∙ ap (λ (x : Node). record x { parent = root set.rules; depth = root set.rules; failure = root set.rules }) (unused_at 0)

  planted_other : (c : ℕ) → c ≢ 0 → node (planted (root set.rules) t) c ≡ unused
  unfolding planted
  planted_other c other =
      node_other t 0 c (record (node t 0) { parent = root set.rules; depth = root set.rules; failure = root set.rules }) other
      ∙ unused_at c

  -- no node has a child or a match word yet
  planted_bare : (c : ℕ)
      → record (node (planted (root set.rules) t) c) { parent = 0; depth = 0; failure = 0 } ≡ unused
  planted_bare c = go (same_or 0 c)
    where
      go : (c ≡ 0) ⊎ (c ≢ 0) → record (node (planted (root set.rules) t) c) { parent = 0; depth = 0; failure = 0 } ≡ unused
      go (inl e) = rw e (ap (λ (x : Node). record x { parent = 0; depth = 0; failure = 0 }) planted_first)
      go (inr other) = ap (λ (x : Node). record x { parent = 0; depth = 0; failure = 0 }) (planted_other c other)

  -- no node is behind the root yet
  count : length (states_of set 0) ≡ root set.rules + 1
  count = first_count set

  behind : (c : ℕ) → root set.rules < c → c < length (states_of set 0) → ⊥
  behind c pos h = omega (arith, count)

  -- the states are those of no rules: a string behind each symbol is none
  no_child : (c a : ℕ) → a < set.symbols → known (states_of set 0) (get_or (states_of set 0) c [] ++ a ∷ []) ≡ false
  unfolding states_of flat_map numbered first_states known
  no_child c a small = go (has_mark set.rules) c
    where
      other : eqb mark a ≡ false
      other = ne_eqb mark a (λ e. omega (arith, (ranges set in_range_lem).few_symbols))

      go : (b : Bool) (c : ℕ)
          → known (cond b ((mark ∷ []) ∷ [] ∷ []) ([] ∷ [])) (get_or (cond b ((mark ∷ []) ∷ [] ∷ []) ([] ∷ [])) c [] ++ a ∷ [])
          ≡ false
      go true zero = refl
      go true (suc zero) = rw other
      go true (suc (suc c)) = rw other
      go false zero = refl
      go false (suc c) = refl

  -- node 0 is as deep as its state is long: 1 for the mark, 0 for the root
  first_depth : root set.rules ≡ length (get_or (first_states set.rules) 0 [])
  first_depth = go (ltb 0 (root set.rules)) refl
    where
      go : (b : Bool) → ltb 0 (root set.rules) ≡ b → root set.rules ≡ length (get_or (first_states set.rules) 0 [])
      go true e =
          let pos = ltb-true 0 (root set.rules) e in
          omega (arith, ap length (first_mark set.rules pos).1, root_small set.rules)
      go false e =
          let zero_top : root set.rules ≡ 0 = omega (arith, ltb-false 0 (root set.rules) e) in
          omega (arith, ap length (rw zero_top at (first_root set.rules).1))

  deep : (c : ℕ) → c < length (states_of set 0) → depth (planted (root set.rules) t) c ≡ length (get_or (states_of set 0) c [])
  unfolding states_of flat_map numbered
  deep c h = go (eqb c 0) refl
    where
      go : (b : Bool) → eqb c 0 ≡ b → depth (planted (root set.rules) t) c ≡ length (get_or (first_states set.rules) c [])
      go true e = rw (eqb-true c 0 e) (ap (λ (x : Node). x.depth) planted_first ∙ first_depth)
      go false e =
          let other = eqb-false c 0 e in
          let low = root_small set.rules in
          let top : c ≡ root set.rules = omega (arith, count, other) in
          rw top
          (ap (λ (x : Node). x.depth) (planted_other (root set.rules) (λ e. omega (arith, top, other)))
          ∙ sym (ap length (first_root set.rules).1))

  trie_first : Trie (root set.rules) (states_of set 0) set.symbols (planted (root set.rules) t)
  unfolding states_of flat_map numbered
  trie_first =
      record {
        linked =
            record {
              size = omega (arith, planted_size, roomy, count, root_small set.rules);
              up = λ c pos h. absurd (behind c pos h);
              young = λ q h. rw (young q) (omega (arith, count));
              young_of = λ q h pos. absurd (omega (arith, young q));
              young_last = λ q c h pos k e. absurd (behind c pos k);
              old = λ c pos h. absurd (behind c pos h);
              old_of = λ c pos h more. absurd (behind c pos h);
              old_next = λ c b more h pos less e. absurd (behind c more h);
            };
        low_root = root_small set.rules;
        some_node = omega (arith, count);
        root-empty = (first_root set.rules).1;
        mark_alone = λ pos. (first_mark set.rules pos).1;
        mark_parent = ap (λ (x : Node). x.parent) planted_first;
        mark_failure = ap (λ (x : Node). x.failure) planted_first;
        few = (ranges set in_range_lem).few_symbols;
        once = first_once set.rules;
        made = λ c pos h. absurd (behind c pos h);
        small = λ c pos h. absurd (behind c pos h);
        deep = deep;
        counted = λ c h.
            ap (λ (x : Node). x.children) (planted_bare c)
            ∙ sym (tally-none (λ a. known (states_of set 0) (get_or (states_of set 0) c [] ++ a ∷ [])) set.symbols (no_child c));
        clear = λ c far. planted_other c (λ e. omega (arith, count));
      }
    where
      young : (q : ℕ) → youngest (planted (root set.rules) t) q ≡ 0
      young q = ap (λ (x : Node). x.youngest) (planted_bare q)

  pub grown_first : Grown set 0 (planted (root set.rules) t)
  unfolding match_word own lowest
  grown_first =
      record {
        trie = trie_first;
        owned = λ c h. ap (λ (x : Node). x.matched) (planted_bare c);
      }

  -- Without a mark nothing needs to be planted: node 0 is as unused as the others.
  pub planted-none : root set.rules ≡ 0 → planted (root set.rules) t ≡ t
  unfolding planted
  planted-none e =
      stored t 0 _
      (ap (λ (x : Node). record x { parent = root set.rules; depth = root set.rules; failure = root set.rules }) (unused_at 0)
      ∙ rw e (sym (unused_at 0)))

-- how many nodes there are before any rule, and where the first rule's left side begins
pub build_first : (set : RuleSet) (t : List Node) → Grown set 0 t → (at : ℕ) → at ≡ 4 + 4 * length set.rules → (n : ℕ)
    → n ≡ root set.rules + 1
    → Building set (length t) 0 n at t
build_first set t grown at here n many =
    record {
      within = omega arith;
      grown = grown;
      nodes = many ∙ sym (first_count set);
      place = here ∙ sym (left_first set);
      size = refl;
    }

-- a rule more
pub build_next : (set : RuleSet) → in_range set ≡ true → (words i n at : ℕ) (t : List Node) → Building set words i n at t
    → i < length set.rules
    → (w : Walked) (t' : List Node) → FollowedRule set i w t' → w.nodes ≤ length t'
    → (t'' : List Node) → t'' ≡ claimed t' w.node i → length t'' ≡ words
    → (n' : ℕ) → n' ≡ length (body (rule set.rules i)) → Building set words (suc i) w.nodes (at + n') t''
build_next set in_range_lem words i n at t b lt w t' f room t'' e size'' n' long =
    record {
      within = lt;
      grown = rw e (grown_next set in_range_lem i lt w t' f room);
      nodes = f.nodes;
      place = rw (long, b.place) (sym (left_next set i lt));
      size = size'';
    }

-- the states of a rule more still fit
pub followed_room : (set : RuleSet) → in_range set ≡ true → (words : ℕ) → Roomy set words → (i : ℕ) → i < length set.rules
    → (w : Walked) (t : List Node) → FollowedRule set i w t → (w.nodes ≤ words) × (i < 64) × (w.node < words)
followed_room set e words roomy i lt w t f =
    let rest = symbols_next set.rules i lt in
    let few : w.nodes ≤ 2 + length (flat_map (λ r. r.left) set.rules) =
    omega (arith, f.nodes, few_first set (suc i) words, symbols_within set.rules i lt)
    in
    (omega (arith, roomy), omega (arith, ranges set e), omega (arith, f.node, roomy))

-- all rules
pub build_last : (set : RuleSet) (words i n at : ℕ) (t : List Node) → Building set words i n at t → length set.rules ≤ i
    → Built set n t
unfolding states states_of
build_last set words i n at t b far =
    let whole : take i set.rules ≡ set.rules = take_all i set.rules far in
    record {
      trie = rw whole at b.grown.trie;
      owned = rw whole at b.grown.owned;
      nodes = rw whole at b.nodes;
    }

-- the trie is the same without the nodes that are not in use
pub built_taken : (set : RuleSet) (n : ℕ) (t : List Node) → Built set n t → Built set (length (take n t)) (take n t)
built_taken set n t b =
    rw b.nodes
    (record {
      trie = trie_taken b.trie;
      owned = λ c h. ap (λ (x : Node). x.matched) (taken_node b.trie c) ∙ b.owned c h;
      nodes = taken_length b.trie;
    })
