-- The symbol with a name, by the name slots that the reader wrote. That it is the one that the text's names give:
-- `lookup_read` (proofs/Lookup.antt).
use Rattle.std.specs.Prelude.{ℕ, zero, suc, cond, ◌&&◌, List, leb, length, take, drop, Option, None, Some, option_map}
use Rattle.rewriting.specs.Lists.{same, between}
use Rattle.grammar.specs.Names.{symbols_size, slot_size, slot}

-- the first of n slots that is this one
unfoldable pub slot_at : List ℕ → ℕ → List ℕ → Option ℕ
slot_at key zero area = None
slot_at key (suc n) area = cond (same key (take slot_size area)) (Some 0) (option_map suc (slot_at key n (drop slot_size area)))

-- the number that is found, or n
unfoldable pub number_or : ℕ → Option ℕ → ℕ
number_or n None = n
number_or n (Some i) = i

-- "Slots 0..31 are symbols": the symbol with the name x, in whatever area. A name has 1 to 24 bytes.
unfoldable pub symbol_named : List ℕ → List ℕ → Option ℕ
symbol_named area x = cond (between 1 (length x) 24 && leb symbols_size (length area)) (slot_at (slot x) 32 area) None
