-- Loops that copy, element by element: `paste`.
-- Assumes nothing.
use Prim.Native.Nat.{ℕ, suc, ◌+◌, ◌-◌, ◌≤◌, ◌<◌}
use mathlib.Core.Path.{◌≡◌, sym, ap, ◌∙◌}
use mathlib.Core.List.{List}
use native.Mathlib.Omega.{arith}
use lib.ListN.{length, get_or, set, drop}
use lib.Seq.{paste, paste-zero, paste-suc, length-paste, drop-paste, get_or-drop}

-- d with the first j of n elements of s copied to it, from `at` on, is xs
pub record Copying (d : List ℕ) (at : ℕ) (s : List ℕ) (n : ℕ) (xs : List ℕ) (j : ℕ) : Type 0 where
  pub few : j ≤ n
  pub room : at + n ≤ length d
  pub source : n ≤ length s
  pub done : xs ≡ paste d at s j

pub copying_first : (d : List ℕ) (at : ℕ) (s : List ℕ) (n : ℕ) → at + n ≤ length d → n ≤ length s → Copying d at s n d 0
copying_first d at s n room source = record { few = omega arith; room = room; source = source; done = paste-zero d at s }

pub copying_length :
    {d : List ℕ} {at : ℕ} {s : List ℕ} {n : ℕ} {xs : List ℕ} {j : ℕ} → Copying d at s n xs j → length xs ≡ length d
copying_length {d} {at} {s} {n} {xs} {j} k =
    rw k.done (length-paste d at s j (omega (arith, k.few, k.room)) (omega (arith, k.few, k.source)))

-- element j goes to place i
pub copying_next : {d : List ℕ} {at : ℕ} {s : List ℕ} {n : ℕ} {xs : List ℕ} {j : ℕ} (i x : ℕ) → Copying d at s n xs j → j < n
    → i ≡ at + j → x ≡ get_or s j 0 → Copying d at s n (set xs i x) (suc j)
copying_next {d} {at} {s} {n} {xs} {j} i x k more place value =
    record {
      few = omega arith;
      room = k.room;
      source = k.source;
      done =
          rw (k.done, place, value) (paste-suc d at s j 0 (omega (arith, k.room)) (omega (arith, k.source)));
    }

pub copying_last :
    {d : List ℕ} {at : ℕ} {s : List ℕ} {n : ℕ} {xs : List ℕ} {j : ℕ} → Copying d at s n xs j → n ≤ j → xs ≡ paste d at s n
copying_last {d} {at} {s} {n} {xs} {j} k all =
    let e : j ≡ n = omega (arith, k.few) in
    k.done ∙ ap (λ (m : ℕ). paste d at s m) e

-- what stands behind the copy is as it was
pub copying_behind : {d : List ℕ} {at : ℕ} {s : List ℕ} {n : ℕ} {xs : List ℕ} {j : ℕ} (i : ℕ) → Copying d at s n xs j → at + j ≤ i
    → get_or xs i 0 ≡ get_or d i 0
copying_behind {d} {at} {s} {n} {xs} {j} i k later =
    let e : at + j + (i - (at + j)) ≡ i = omega arith in
    let rest : drop (at + j) xs ≡ drop (at + j) d =
    rw k.done (drop-paste d at s j (omega (arith, k.few, k.room)) (omega (arith, k.few, k.source)))
    in
    rw (← e) (sym (get_or-drop (at + j) xs (i - (at + j)) 0) ∙ ap (λ (l : List ℕ). get_or l (i - (at + j)) 0) rest
    ∙ get_or-drop (at + j) d (i - (at + j)) 0)
