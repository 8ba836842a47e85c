-- A rule's sides as the code meets them in a valid image: how many symbols there are, where they stand, or the verdict.
-- Assumes nothing.
use Prim.Native.Nat.{ℕ, ◌+◌, ◌≤◌, ◌<◌}
use mathlib.Core.Path.{◌≡◌, refl, ap, ◌∙◌}
use mathlib.Core.Bool.{true}
use mathlib.Core.List.{List}
use native.Mathlib.Omega.{arith}
use lib.ListN.{length, take, drop, length-drop}
use lib.Seq.{ext_get_or, get_or-take, get_or-drop, length-take-le}
use borrow.Author.Tests.{ltb-true}
use Rattle.rewriting.specs.Rules.{Right, Put, Close, symbols_of, rule, right_in_range}
use Rattle.rewriting.proofs.Ranges.{length_right, Ranges, ranges, rule_at_lem}
use Rattle.layout.specs.declared.RightSide.{RightSide}
use Rattle.layout.specs.Image.{read, valid}
use Rattle.layout.specs.Places.{right_at, right_side_of}
use Rattle.layout.proofs.Image.{valid-in_range}
use Rattle.layout.proofs.Places.{left_within, body_left, right_symbol}

-- a string of n symbols
pub is_put : (r : Right) (n : ℕ) → right_side_of r ≡ RightSide.Put n → (v : List ℕ) × (r ≡ Put v) × (n ≡ length v)
unfolding right_side_of
is_put (Put v) n e = (v, refl, let k : n ≡ length v = cc in k)
is_put (Close v) n e = let z : ◌≡◌ {A = ℕ} 0 1 = cc in absurd (omega arith)

-- a verdict
pub is_close : (r : Right) (v : ℕ) → right_side_of r ≡ RightSide.Close v → r ≡ Close v
unfolding right_side_of
is_close (Put u) v e = let z : ◌≡◌ {A = ℕ} 0 1 = cc in absurd (omega arith)
is_close (Close u) v e = let k : u ≡ v = cc in ap Close k

module _ (b : List ℕ) (good : valid b ≡ true) (i : ℕ) (h : i < length (read b).rules) where
  -- the left side has at most 8 symbols
  pub left_few : length (rule (read b).rules i).left ≤ 8
  left_few = (rule_at_lem (read b) (ranges (read b) (valid-in_range b good)) i h).short_left

  -- the verdict is below 16
  pub close_few : (v : ℕ) → (rule (read b).rules i).right ≡ Close v → v < 16
  unfolding right_in_range
  close_few v e =
      let set : Ranges (read b) = ranges (read b) (valid-in_range b good) in
      let low : v < (read b).verdicts =
      ltb-true v (read b).verdicts (rw e at (rule_at_lem (read b) set i h).right_in_range_lem) in
      omega (arith, set.few_verdicts)

  symbols_few : length (symbols_of (rule (read b).rules i).right) ≤ 8
  symbols_few =
      length_right (read b) (rule (read b).rules i).right
      (rule_at_lem (read b) (ranges (read b) (valid-in_range b good)) i h).right_in_range_lem

  -- the string has at most 8 symbols, ..
  pub put_few : (v : List ℕ) → (rule (read b).rules i).right ≡ Put v → length v ≤ 8
  unfolding symbols_of
  put_few v e = rw e at symbols_few

  -- .. which stand in the image from its start on
  right_end : right_at (read b) i + length (symbols_of (rule (read b).rules i).right) ≤ length b
  unfolding right_at
  right_end = omega (arith, left_within b good i h, body_left (rule (read b).rules i))

  pub put_within : (v : List ℕ) → (rule (read b).rules i).right ≡ Put v → right_at (read b) i + length v ≤ length b
  unfolding symbols_of
  put_within v e = rw e at right_end

  right_here : take (length (symbols_of (rule (read b).rules i).right)) (drop (right_at (read b) i) b)
      ≡ symbols_of (rule (read b).rules i).right
  right_here =
      let v : List ℕ = symbols_of (rule (read b).rules i).right in
      let at : ℕ = right_at (read b) i in
      let long : length (take (length v) (drop at b)) ≡ length v =
      length-take-le (length v) (drop at b) (rw length-drop (omega (arith, right_end)))
      in
      ext_get_or 0 (take (length v) (drop at b)) v long
      (λ j k.
      get_or-take (length v) (drop at b) j 0 (rw long at k)
      ∙ get_or-drop at b j 0
      ∙ right_symbol b good i j h (rw long at k))

  pub put_here : (v : List ℕ) → (rule (read b).rules i).right ≡ Put v → (n : ℕ) → n ≡ length v
      → take n (drop (right_at (read b) i) b) ≡ v
  unfolding symbols_of
  put_here v e n k = rw k (rw e at right_here)
