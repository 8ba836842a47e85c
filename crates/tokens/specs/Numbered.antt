-- Slots one by one, the place of one among them, and the number of a name, as the code answers it.
use Rattle.std.specs.Prelude.{ℕ, suc, ◌-◌, ◌≤◌, ◌≡◌, cond, List, [], ◌∷◌, ◌++◌, length, map, replicate}
use Rattle.std.specs.Prelude.{Option, None, Some, option_map}
use Rattle.rewriting.specs.Lists.{same}
use Rattle.grammar.specs.Names.{slot_size, slot, Numbered, numbered}

-- n slots, each a list of its own; all their bytes are `slots n names`
unfoldable pub slots_of : ℕ → List (List ℕ) → List (List ℕ)
slots_of n names = map slot names ++ replicate (n - length names) (replicate slot_size 0)

-- the first slot that is this one
unfoldable pub slot_among : List ℕ → List (List ℕ) → Option ℕ
slot_among key [] = None
slot_among key (s ∷ slots) = cond (same key s) (Some 0) (option_map suc (slot_among key slots))

-- the code's number of a name, how many names there are then and their slots are the definition's
abbrev pub NumberedIs : ℕ → List (List ℕ) → Option Numbered → Option ℕ → ℕ → List (List ℕ) → Type 0
NumberedIs most names None None count slots = (count ≡ length names) × (slots ≡ slots_of most names)
NumberedIs most names None (Some i) count slots = ⊥
NumberedIs most names (Some n) None count slots = ⊥
NumberedIs most names (Some n) (Some i) count slots = (i ≡ n.number) × (count ≡ length n.names) × (slots ≡ slots_of most n.names)

abbrev pub NumberedAs : ℕ → List (List ℕ) → ℕ → List (List ℕ) → List ℕ → Option ℕ → ℕ → List (List ℕ) → Type 0
NumberedAs most names count slots x i count' slots' =
    slots ≡ slots_of most names → count ≡ length names → length names ≤ most
    → NumberedIs most names (numbered most names x) i count' slots'
