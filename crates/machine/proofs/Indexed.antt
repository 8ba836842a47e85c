-- The index of a rule image: where each rule's right symbols begin.
-- Assumes nothing.
use Prim.Native.Nat.{ℕ, suc, ◌+◌, ◌*◌, ◌≤◌, ◌<◌}
use mathlib.Core.Path.{◌≡◌, ◌∙◌}
use mathlib.Core.Bool.{true}
use mathlib.Core.Logic.{⊎_elim}
use mathlib.Core.List.{List, ◌++◌}
use native.Mathlib.Omega.{arith}
use native.Mathlib.Numerals.{add-one}
use native.Mathlib.Nat.{not-suc-le-zero}
use lib.ListN.{length, get_or, set, length-set, length-append, get_or-append}
use lib.Seq.{get_or-set_same, get_or-set_other}
use Rattle.rewriting.specs.Rules.{rule}
use Rattle.layout.specs.Image.{body, read, valid}
use Rattle.layout.specs.Places.{left_at, right_at}
use Rattle.layout.proofs.Image.{longest}
use Rattle.layout.proofs.Places.{left_first, left_next, left_within, body_left}
use Rattle.rewriting.proofs.Lists.{last_or}
use Rattle.machine.specs.Lent.{Starts}

-- the first i rules have their starts, and `at` is where rule i's body begins
pub record Indexing (b starts : List ℕ) (at i : ℕ) : Type 0 where
  pub few : i ≤ length (read b).rules
  pub room : length (read b).rules ≤ length starts
  pub place : at ≡ left_at (read b) i
  pub done : (k : ℕ) → k < i → get_or starts k 0 ≡ right_at (read b) k

pub indexing_first : (b starts : List ℕ) → length (read b).rules ≤ length starts → (rules : ℕ) → rules ≡ length (read b).rules
    → Indexing b starts (4 + 4 * rules) 0
indexing_first b starts room rules e =
    record {
      few = omega arith;
      room = room;
      place = rw (left_first, e);
      done = λ k h. absurd (not-suc-le-zero h);
    }

-- rule i's body lies within the image, which is short
pub start_small : (b starts : List ℕ) (at i : ℕ) → valid b ≡ true → Indexing b starts at i → i < length (read b).rules
    → at + length (body (rule (read b).rules i)) ≤ 1284
start_small b starts at i good k h = omega (arith, k.place, left_within b good i h, longest b good)

pub left_small : (b starts : List ℕ) (at i left : ℕ) → valid b ≡ true → Indexing b starts at i → i < length (read b).rules
    → left ≡ length (rule (read b).rules i).left → at + left ≤ 1284
left_small b starts at i left good k h e =
    omega (arith, start_small b starts at i good k h, body_left (rule (read b).rules i))

pub indexing_next : (b starts : List ℕ) (at i left size : ℕ) → Indexing b starts at i → i < length (read b).rules
    → left ≡ length (rule (read b).rules i).left → size ≡ length (body (rule (read b).rules i))
    → Indexing b (set starts i (at + left)) (at + size) (i + 1)
unfolding right_at
indexing_next b starts at i left size k h e f =
    rw add-one
    (record {
      few = h;
      room = rw length-set k.room;
      place = rw (k.place, f) (omega (arith, left_next (read b) i h));
      done =
          λ j (l : j < suc i).
          ⊎_elim
          (λ (m : j < i).
          get_or-set_other starts i j (at + left) 0 (λ (p : j ≡ i). absurd (omega arith))
          ∙ k.done j m)
          (λ (p : j ≡ i). rw p (get_or-set_same starts i (at + left) 0 (omega (arith, k.room)) ∙ rw (k.place, e)))
          (last_or i j l);
    })

-- all rules have theirs, whatever stands behind
pub indexing_last :
    (b starts more : List ℕ) (at i : ℕ) → Indexing b starts at i → length (read b).rules ≤ i → Starts b (starts ++ more)
indexing_last b starts more at i k all =
    λ j h.
    let within : j < length starts = omega (arith, h, k.room) in
    (rw length-append (omega (arith, within)), get_or-append starts more 0 j within ∙ k.done j (omega arith))
