-- Names, numbered by first appearance, and the slots that keep them.
use Rattle.std.specs.Prelude.{ℕ, suc, ◌*◌, ◌-◌, cond, ltb, length, replicate, Option, None, Some, option_map}
use mathlib.Core.List.{List, [], ◌∷◌, ◌++◌, flat_map}
use Rattle.rewriting.specs.Lists.{same}

-- the number of the name x: its place among the names, if it is one of them
unfoldable pub number_of : List (List ℕ) → List ℕ → Option ℕ
number_of [] x = None
number_of (y ∷ names) x = cond (same y x) (Some 0) (option_map suc (number_of names x))

-- a name's number, and the names with it
pub record Numbered : Type 0 where
  pub number : ℕ
  pub names : List (List ℕ)

-- a name that is not among the names comes last, where there is room
unfoldable pub or_new : ℕ → List (List ℕ) → List ℕ → Option ℕ → Option Numbered
or_new most names x (Some i) = Some (record { number = i; names = names })
or_new most names x None =
    cond (ltb (length names) most) (Some (record { number = length names; names = names ++ x ∷ [] })) None

-- "by first appearance": the number of x, among at most so many names; none where x would be one too many
unfoldable pub numbered : ℕ → List (List ℕ) → List ℕ → Option Numbered
numbered most names x = or_new most names x (number_of names x)

-- "48 slots of 25 bytes": 32 of symbols and 16 of verdicts
abbrev pub slot_size : ℕ
slot_size = 25

abbrev pub symbols_size : ℕ
symbols_size = 800

abbrev pub words_size : ℕ
words_size = 400

abbrev pub names_size : ℕ
names_size = 1200

-- "slots of 25 bytes: length byte, name, zeros"
unfoldable pub slot : List ℕ → List ℕ
slot x = length x ∷ (x ++ replicate (24 - length x) 0)

-- n slots, the first ones used; "an unused slot is all 0"
unfoldable pub slots : ℕ → List (List ℕ) → List ℕ
slots n names = flat_map slot names ++ replicate (slot_size * (n - length names)) 0
