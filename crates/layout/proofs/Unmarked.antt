-- Without a marked rule the mark changes nothing: "Other images keep their table", word for word.
-- Assumes nothing.
use Prim.Native.Nat.{ℕ, suc, ◌<◌}
use mathlib.Core.Path.{◌≡◌, refl, sym, ap, subst, ◌∙◌}
use mathlib.Core.Bool.{Bool, true, false, ◌||◌}
use mathlib.Core.Logic.{◌⊎◌, inl, inr}
use mathlib.Core.List.{List, [], ◌∷◌, ◌++◌, map, flat_map}
use native.Mathlib.Omega.{arith}
use lib.ListN.{length, get_or}
use Rattle.rewriting.specs.Lists.{all, up_to, prefix}
use Rattle.rewriting.specs.Rules.{Rule, RuleSet, rule_in_range, in_range}
use Rattle.rewriting.specs.Occurrences.{lowest, spanning, ending}
use Rattle.rewriting.specs.Sample.{sample}
use Rattle.rewriting.proofs.Lists.{and_left, and_right, or_cases}
use Rattle.rewriting.proofs.Ranges.{ranges}
use Rattle.layout.specs.States.{
  mark,
  pattern,
  is_prefix,
  state,
  after,
  starts,
  symbols_in,
  next,
  matching,
  prefixes,
  has_mark,
  first_states,
  states,
  number,
}
use Rattle.layout.specs.Image.{image_of}
use Rattle.layout.specs.Table.{match_word, row, table_of}
use Rattle.layout.specs.Unmarked.{is_left_prefix, left_state, lowest_left, longest_left, left_states, left_row, document01_table}
use Rattle.layout.proofs.Image.{valid-in_range, read_image}
use Rattle.layout.proofs.ImageComputed.{sample-valid}
use Rattle.layout.proofs.Matching.{Plain, plain_first, state-drop}
use Rattle.layout.proofs.Marks.{plain_beginning, plain_left, no_mark_prefix}
use Rattle.layout.proofs.States.{all_prefixes, listed_prefix}

-- equal at each element, equal as lists
map_at :
    {A : Type 0} (f g : List ℕ → A) (xs : List (List ℕ)) → ((i : ℕ) → i < length xs → f (get_or xs i []) ≡ g (get_or xs i []))
    → map f xs ≡ map g xs
map_at f g [] h = refl
map_at f g (x ∷ xs) h = rw (h 0 (omega arith), map_at f g xs (λ i lt. h (suc i) (omega arith)))

map_same : (f g : ℕ → ℕ) (xs : List ℕ) → ((a : ℕ) → f a ≡ g a) → map f xs ≡ map g xs
map_same f g [] h = refl
map_same f g (x ∷ xs) h = rw (h x, map_same f g xs h)

flat_map-same : (f g : List ℕ → List ℕ) (xs : List (List ℕ)) → ((x : List ℕ) → f x ≡ g x) → flat_map f xs ≡ flat_map g xs
unfolding flat_map
flat_map-same f g [] h = refl
flat_map-same f g (x ∷ xs) h = rw (h x, flat_map-same f g xs h)

-- of rules without a mark, the first has none and the others have none
first_unmarked : (r : Rule) (rules : List Rule) → has_mark (r ∷ rules) ≡ false → r.marked ≡ false
unfolding has_mark
first_unmarked r rules e = go r.marked e
  where
    go : (b : Bool) → (b || has_mark rules) ≡ false → b ≡ false
    go true h = h
    go false h = refl

others_unmarked : (r : Rule) (rules : List Rule) → has_mark (r ∷ rules) ≡ false → has_mark rules ≡ false
unfolding has_mark
others_unmarked r rules e = go r.marked e
  where
    go : (b : Bool) → (b || has_mark rules) ≡ false → has_mark rules ≡ false
    go true h = let z : ◌≡◌ {A = ℕ} 0 1 = cc in absurd (omega arith)
    go false h = h

-- so prefixes, and the rules with a left side, are those of left sides alone
same-prefix : (rules : List Rule) → has_mark rules ≡ false → (v : List ℕ) → is_prefix rules v ≡ is_left_prefix rules v
unfolding is_prefix is_left_prefix pattern
same-prefix [] e v = refl
same-prefix (r ∷ rules) e v = rw (first_unmarked r rules e, same-prefix rules (others_unmarked r rules e) v)

same-prefixes : (rules : List Rule) → has_mark rules ≡ false → all_prefixes rules ≡ flat_map (λ r. prefixes r.left) rules
unfolding flat_map pattern
same-prefixes [] e = refl
same-prefixes (r ∷ rules) e = rw (first_unmarked r rules e, same-prefixes rules (others_unmarked r rules e))

same-lowest : (rules : List Rule) → has_mark rules ≡ false → (v : List ℕ) → lowest rules false v ≡ lowest_left rules v
unfolding lowest lowest_left
same-lowest [] e v = refl
same-lowest (r ∷ rules) e v = rw (first_unmarked r rules e, same-lowest rules (others_unmarked r rules e) v)

module _ (set : RuleSet) (in_range_lem : in_range set ≡ true) (none : has_mark set.rules ≡ false) where
  -- the mark before a string changes no state
  pub unmarked_state : (s : List ℕ) → after set.rules s ≡ state set.rules s
  unmarked_state s =
      let h = ranges set in_range_lem in
      state-drop set.rules mark s (no_mark_prefix set h.few_symbols set.rules h.all_rules none s)

  same-state : (p : List ℕ) → state set.rules p ≡ left_state set.rules p
  unfolding state left_state
  same-state [] = refl
  same-state (x ∷ p) = rw (same-prefix set.rules none (x ∷ p), same-state p)

  same-states : states set.rules ≡ left_states set.rules
  unfolding states left_states first_states
  same-states = rw (none, same-prefixes set.rules none)

  same_row : (q : List ℕ) → row set q ≡ left_row set q
  unfolding row left_row next
  same_row q =
      map_same (λ a. number (states set.rules) (state set.rules (q ++ a ∷ [])))
      (λ a. number (left_states set.rules) (left_state set.rules (q ++ a ∷ []))) (up_to set.symbols)
      (λ a. rw (same-states, same-state (q ++ a ∷ [])))

  same_longest : (q : List ℕ) → ending set.rules false q ≡ longest_left set.rules q
  unfolding ending longest_left spanning
  same_longest [] = refl
  same_longest (x ∷ q) = rw (same-lowest set.rules none (x ∷ q), same_longest q)

  -- each state is a prefix of a left side, and so is plain
  left_plain : (rules : List Rule) → all (rule_in_range set) rules ≡ true → (v : List ℕ) → is_left_prefix rules v ≡ true → Plain v
  unfolding is_left_prefix
  left_plain [] e v p = let z : ◌≡◌ {A = ℕ} 0 1 = cc in absurd (omega arith)
  left_plain (r ∷ rules) e v p =
      go (or_cases (prefix v r.left) (is_left_prefix rules v) p)
      (left_plain rules (and_right (rule_in_range set r) (all (rule_in_range set) rules) e) v)
    where
      go : (prefix v r.left ≡ true) ⊎ (is_left_prefix rules v ≡ true) → (is_left_prefix rules v ≡ true → Plain v) → Plain v
      go (inl h) ih =
          plain_beginning v r.left h
          (plain_left set (ranges set in_range_lem).few_symbols r
          (and_left (rule_in_range set r) (all (rule_in_range set) rules) e))
      go (inr h) ih = ih h

  state_plain : (i : ℕ) → i < length (states set.rules) → Plain (get_or (states set.rules) i [])
  state_plain i lt = go (listed_prefix set.rules i lt)
    where
      go : (get_or (states set.rules) i [] ≡ []) ⊎ (is_prefix set.rules (get_or (states set.rules) i []) ≡ true)
          → Plain (get_or (states set.rules) i [])
      go (inl e) = rw e
      go (inr e) =
          left_plain set.rules (ranges set in_range_lem).all_rules (get_or (states set.rules) i [])
          (sym (same-prefix set.rules none (get_or (states set.rules) i [])) ∙ e)

  plain_match : (q : List ℕ) → Plain q → matching set.rules q ≡ longest_left set.rules q
  unfolding matching starts symbols_in
  plain_match [] h = same_longest []
  plain_match (x ∷ q) h = rw (plain_first x q h) (same_longest (x ∷ q))

  -- "Other images keep their table."
  pub unmarked_table : table_of set ≡ document01_table set
  unfolding table_of document01_table
  unmarked_table =
      let words : map (λ q. match_word (matching set.rules q)) (states set.rules)
      ≡ map (λ q. match_word (longest_left set.rules q)) (states set.rules) =
      map_at (λ q. match_word (matching set.rules q)) (λ q. match_word (longest_left set.rules q)) (states set.rules)
      (λ i lt. ap match_word (plain_match (get_or (states set.rules) i []) (state_plain i lt)))
      in
      rw (words, flat_map-same (row set) (left_row set) (states set.rules) same_row, same-states)

-- the sample is such a rule set
sample_unmarked : has_mark sample.rules ≡ false
unfolding has_mark sample
sample_unmarked = refl

pub sample_keeps : table_of sample ≡ document01_table sample
sample_keeps =
    unmarked_table sample (subst (λ (x : RuleSet). in_range x ≡ true) (read_image sample)
    (valid-in_range (image_of sample) sample-valid))
    sample_unmarked
