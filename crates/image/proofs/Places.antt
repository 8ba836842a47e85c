-- What the methods of an image look up: where a byte stands, and what it says.
use Rattle.std.proofs.Common.{◌≡◌, ℕ, ◌+◌, ◌*◌, ◌<◌, true, List, length, get_or, sym, ap, ◌∙◌, arith}
use Rattle.rewriting.specs.Rules.{Rule, rule}
use Rattle.layout.specs.Image.{body, kind, read, valid}
use Rattle.layout.specs.Places.{right_side_of}
use Rattle.layout.specs.declared.RightSide.{RightSide}
use Rattle.layout.proofs.Places.{
  contents_within,
  contents_inside,
  contents_left,
  contents-kind,
  contents_right,
  contents-mark,
  header_symbols,
  header_rules,
  header_events,
  bodies_behind,
  body_left,
  left_within,
  right_close,
  right_put,
  put_length,
  close_length,
}

-- a valid image has its header
pub header_inside : (b : List ℕ) → valid b ≡ true → 3 < length b
header_inside b e = omega (arith, contents_within b e)

pub ruleset places = (
  header_inside,
  header_symbols,
  header_rules,
  header_events,
  contents_within,
  contents_inside,
  contents_left,
  contents-mark,
  bodies_behind,
)

-- Rule i's kind says what the byte behind it is.
module _ (b : List ℕ) (e : valid b ≡ true) (i : ℕ) (h : i < length (read b).rules) where
  pub right_verdict :
      get_or b (5 + 4 * i) 0 ≡ 1
      → RightSide.Close (get_or b (6 + 4 * i) 0) ≡ right_side_of (rule (read b).rules i).right
  right_verdict k =
      let x = (rule (read b).rules i).right in
      let one : kind x ≡ 1 = omega (arith, contents-kind b e i h) in
      ap RightSide.Close (contents_right b e i h) ∙ sym (right_close x one)

  pub right_string :
      (get_or b (5 + 4 * i) 0 ≡ 1 → ⊥)
      → RightSide.Put (get_or b (6 + 4 * i) 0) ≡ right_side_of (rule (read b).rules i).right
  right_string k =
      let x = (rule (read b).rules i).right in
      let other : kind x ≡ 1 → ⊥ = λ z. omega (arith, contents-kind b e i h) in
      ap RightSide.Put (contents_right b e i h) ∙ sym (right_put x other)

-- A body has the left symbols, and the right symbols where the right side is a string.
pub body_put : (r : Rule) (n : ℕ) → right_side_of r.right ≡ RightSide.Put n → length r.left + n ≡ length (body r)
body_put r n e = omega (arith, body_left r, put_length r.right n e)

pub body_close : (r : Rule) (v : ℕ) → right_side_of r.right ≡ RightSide.Close v → length r.left ≡ length (body r)
body_close r v e = omega (arith, body_left r, close_length r.right v e)
