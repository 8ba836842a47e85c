-- What the code checks of an image: the header, then the contents, which announce how many symbols follow them.
-- The contracts of the code's parts cite these; that together with the symbols' range they are `valid` is proved
-- (`checked`, proofs/ImageCheck.antt). The pass over the contents also looks for the mark (`marks-read`, there).
use Rattle.std.specs.Prelude.{ℕ, zero, suc, ◌+◌, ◌*◌, ◌-◌, ◌≤◌, Bool, true, false, cond, ◌&&◌, ◌||◌, List, eqb, leb, ltb, length}
use Rattle.std.specs.Prelude.{get_or, drop}
use Rattle.rewriting.specs.Lists.{between}

-- the answer says whether P holds
abbrev pub Decides : Bool → Type 0 → Type 0
Decides true P = P
Decides false P = P → ⊥

-- "S 1..32; the first E (1..S) are events. There are 0..64 rules .. V 2..16"
pub record Header (s r v e : ℕ) : Type 0 where
  pub some-symbol : 1 ≤ s
  pub few_symbols : s ≤ 32
  pub few_rules : r ≤ 64
  pub some_verdicts : 2 ≤ v
  pub few_verdicts : v ≤ 16
  pub some-event : 1 ≤ e
  pub few_events : e ≤ s

-- the number of symbols of the body that a rule's four bytes of contents announce, with v verdicts: its left symbols and,
-- for kind 0, its right symbols. 0 where a byte is out of range: no body is empty.
unfoldable pub body_size : ℕ → ℕ → ℕ → ℕ → ℕ → ℕ
body_size v left kind n last =
    cond (between 1 left 8 && leb last 1)
    (cond (eqb kind 0) (cond (leb n 8) (left + n) 0) (cond (eqb kind 1 && ltb n v) left 0)) 0

-- that of the first rule of the contents c
unfoldable pub first_size : ℕ → List ℕ → ℕ
first_size v c = body_size v (get_or c 0 0) (get_or c 1 0) (get_or c 2 0) (get_or c 3 0)

-- the contents c of n rules are in range, and announce m symbols together
unfoldable pub announces : ℕ → ℕ → List ℕ → ℕ → Bool
announces v zero c m = eqb m 0
announces v (suc n) c m = leb 1 (first_size v c) && leb (first_size v c) m && announces v n (drop 4 c) (m - first_size v c)

-- the contents of the n rules of the image b are in range, and announce as many symbols as follow them
abbrev pub announced : List ℕ → ℕ → Bool
announced b n = announces (get_or b 2 0) n (drop 4 b) (length b - (4 + 4 * n))

-- one of the first n rules of the contents c has the mark, 1 as its fourth byte
unfoldable pub marks_in : ℕ → List ℕ → Bool
marks_in zero c = false
marks_in (suc n) c = eqb (get_or c 3 0) 1 || marks_in n (drop 4 c)
