-- Document 01's table, which knows no marks: its definitions word for word, over left sides alone. Document 02, No. 1:
-- "Other images keep their table." (`unmarked_table`, proofs/Unmarked.antt)
use Rattle.std.specs.Prelude.{ℕ, suc, Bool, cond, length, Option, None, Some, option_map}
use mathlib.Core.List.{List, [], ◌∷◌, ◌++◌, map, flat_map}
use Rattle.rewriting.specs.Lists.{any, same, prefix, up_to}
use Rattle.rewriting.specs.Rules.{Rule, RuleSet}
use Rattle.rewriting.specs.Occurrences.{tie}
use Rattle.layout.specs.States.{prefixes, numbered, number}
use Rattle.layout.specs.Table.{match_word}

-- "the longest suffix of q's string with a added that is a prefix of some left side"
unfoldable pub is_left_prefix : List Rule → List ℕ → Bool
is_left_prefix rules v = any (λ r. prefix v r.left) rules

unfoldable pub left_state : List Rule → List ℕ → List ℕ
left_state rules [] = []
left_state rules (x ∷ p) = cond (is_left_prefix rules (x ∷ p)) (x ∷ p) (left_state rules p)

-- "the rule with the longest left side that is a suffix of q's string, the lowest rule among equals"
unfoldable pub lowest_left : List Rule → List ℕ → Option ℕ
lowest_left [] v = None
lowest_left (r ∷ rules) v = cond (same r.left v) (Some 0) (option_map suc (lowest_left rules v))

unfoldable pub longest_left : List Rule → List ℕ → Option ℕ
longest_left rules [] = None
longest_left rules (x ∷ p) = tie (lowest_left rules (x ∷ p)) (longest_left rules p)

-- "State 0 is the empty string. Rules are walked in order, and each prefix of a left side, short before long, gets the next
-- number when new"
unfoldable pub left_states : List Rule → List (List ℕ)
left_states rules = numbered ([] ∷ []) (flat_map (λ r. prefixes r.left) rules)

unfoldable pub left_row : RuleSet → List ℕ → List ℕ
left_row set q = map (λ a. number (left_states set.rules) (left_state set.rules (q ++ a ∷ []))) (up_to set.symbols)

-- "Word 0 is the number of states N, word 1 is S, then N match words, then N rows of S next states."
unfoldable pub document01_table : RuleSet → List ℕ
document01_table set =
    length (left_states set.rules) ∷ set.symbols
    ∷ (map (λ q. match_word (longest_left set.rules q)) (left_states set.rules) ++ flat_map (left_row set)
    (left_states set.rules))
