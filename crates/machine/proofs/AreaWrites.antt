-- Writes into an area that begins with settled symbols and ends with waiting ones: what it is then.
-- Assumes nothing.
use Prim.Native.Nat.{ℕ, zero, suc, ◌+◌, ◌-◌, ◌≤◌, ◌<◌}
use mathlib.Core.Path.{◌≡◌, refl, sym, ap, ◌∙◌}
use mathlib.Core.List.{List, [], ◌∷◌, ◌++◌, map, append_assoc}
use native.Mathlib.Omega.{arith}
use lib.ListN.{length, get_or, set, take, drop, replicate, length-append, length-replicate, length-drop, take-append-drop}
use lib.Seq.{paste, append_snoc, take_at, drop_at, set_at, get_or_at, take_all, length-take-le}
use Rattle.rewriting.specs.Rules.{Rule}
use Rattle.layout.specs.States.{next}
use Rattle.machine.specs.Areas.{area_of, states_after}
use Rattle.machine.proofs.Areas.{length_area, area_end}

zeros_add : (k n : ℕ) → replicate {A = ℕ} (k + n) 0 ≡ replicate k 0 ++ replicate n 0
zeros_add zero n = let e : zero + n ≡ n = omega arith in ap (λ (m : ℕ). replicate {A = ℕ} m 0) e
zeros_add (suc k) n =
    let e : suc k + n ≡ suc (k + n) = omega arith in
    ap (λ (m : ℕ). replicate {A = ℕ} m 0) e ∙ ap (λ (l : List ℕ). 0 ∷ l) (zeros_add k n)

-- n elements copied over u
paste_at : (p u r b : List ℕ) (at n : ℕ) → length p ≡ at → length u ≡ n → paste (p ++ (u ++ r)) at b n ≡ p ++ (take n b ++ r)
paste_at p u r b at n e f =
    let seam : length (p ++ u) ≡ at + n = length-append p u ∙ omega (arith, e, f) in
    let behind : drop (at + n) (p ++ (u ++ r)) ≡ r =
    ap (drop (at + n)) (sym (append_assoc p u r)) ∙ drop_at (p ++ u) r (at + n) seam
    in
    let front : take at (p ++ (u ++ r)) ≡ p = take_at p (u ++ r) at e in
    rw (front, behind) (append_assoc p (take n b) r)

-- the last n of the zeros between the two ends, apart
pub area_split : (capacity : ℕ) (s q : List ℕ) (n : ℕ) → length s + (n + length q) ≤ capacity
    → area_of capacity s q ≡ s ++ replicate (capacity - (length s + (n + length q))) 0 ++ (replicate n 0 ++ q)
unfolding area_of
area_split capacity s q n h =
    let k : ℕ = capacity - (length s + (n + length q)) in
    let e : capacity - (length s + length q) ≡ k + n = omega arith in
    rw (e, zeros_add k n, append_assoc (replicate k 0) (replicate n 0) q)
    (sym (append_assoc s (replicate k 0) (replicate n 0 ++ q)))

length_front : (capacity n : ℕ) (s q : List ℕ) → length s + (n + length q) ≤ capacity
    → length (s ++ replicate (capacity - (length s + (n + length q))) 0) ≡ capacity - (length q + n)
length_front capacity n s q h =
    length-append s (replicate (capacity - (length s + (n + length q))) 0)
    ∙ rw (length-replicate {A = ℕ}) (omega arith)

-- the first waiting symbol is read, ..
pub area_first : (capacity : ℕ) (s : List ℕ) (a : ℕ) (q : List ℕ) (i : ℕ) → i ≡ capacity - suc (length q)
    → length s + suc (length q) ≤ capacity → get_or (area_of capacity s (a ∷ q)) i 0 ≡ a
unfolding area_of
area_first capacity s a q i e h =
    let zeros : List ℕ = replicate (capacity - (length s + suc (length q))) 0 in
    rw (← append_assoc s zeros (a ∷ q))
    (get_or_at (s ++ zeros) a q 0 i (length-append s zeros ∙ rw (length-replicate {A = ℕ}) (omega arith)))

-- .. and set to 0
pub area_taken : (capacity : ℕ) (s : List ℕ) (a : ℕ) (q : List ℕ) (i : ℕ) → i ≡ capacity - suc (length q)
    → length s + suc (length q) ≤ capacity → set (area_of capacity s (a ∷ q)) i 0 ≡ area_of capacity s q
unfolding area_of
area_taken capacity s a q i e h =
    let zeros : List ℕ = replicate (capacity - (length s + suc (length q))) 0 in
    let n : length (s ++ zeros) ≡ i = length-append s zeros ∙ rw (length-replicate {A = ℕ}) (omega arith) in
    let one : capacity - (length s + (1 + length q)) ≡ capacity - (length s + suc (length q)) = omega arith in
    ap (λ (l : List ℕ). set l i 0) (sym (append_assoc s zeros (a ∷ q)))
    ∙ set_at (s ++ zeros) a q 0 i n
    ∙ sym (area_split capacity s q 1 (omega arith) ∙ ap (λ (m : ℕ). s ++ replicate m 0 ++ 0 ∷ q) one)

-- a symbol is settled
pub area_settled : (capacity : ℕ) (s q : List ℕ) (x i : ℕ) → i ≡ length s → length s + length q < capacity
    → set (area_of capacity s q) i x ≡ area_of capacity (s ++ x ∷ []) q
unfolding area_of
area_settled capacity s q x i e h =
    let k : ℕ = capacity - suc (length s + length q) in
    let first : capacity - (length s + length q) ≡ suc k = omega arith in
    let last : capacity - (length (s ++ x ∷ []) + length q) ≡ k = rw length-append (omega arith) in
    rw (first, last) (set_at s 0 (replicate k 0 ++ q) x i (sym e) ∙ sym (append_snoc s x (replicate k 0 ++ q)))

-- the settled symbols behind the first k are set to 0
pub area_cut : (capacity : ℕ) (s q : List ℕ) (k n : ℕ) → n ≡ length s → k ≤ n → length s + length q ≤ capacity
    → paste (area_of capacity s q) k (replicate (n - k) 0) (n - k) ≡ area_of capacity (take k s) q
unfolding area_of
area_cut capacity s q k n e short h =
    let zeros : List ℕ = replicate (capacity - (length s + length q)) 0 in
    let front : length (take k s) ≡ k = length-take-le k s (omega arith) in
    let back : length (drop k s) ≡ n - k = rw length-drop (omega arith) in
    let whole : s ++ (zeros ++ q) ≡ take k s ++ (drop k s ++ (zeros ++ q)) =
    ap (λ (l : List ℕ). l ++ (zeros ++ q)) (sym (take-append-drop k s)) ∙ append_assoc (take k s) (drop k s) (zeros ++ q)
    in
    let total : capacity - (length (take k s) + length q) ≡ (n - k) + (capacity - (length s + length q)) =
    rw front (omega arith) in
    ap (λ (l : List ℕ). paste l k (replicate (n - k) 0) (n - k)) whole
    ∙ paste_at (take k s) (drop k s) (zeros ++ q) (replicate (n - k) 0) k (n - k) front back
    ∙ rw (
      take_all {A = ℕ} (n - k) (replicate (n - k) 0) (rw (length-replicate {A = ℕ}) (omega arith)),
      total,
      zeros_add (n - k) (capacity - (length s + length q)),
      append_assoc (replicate (n - k) 0) zeros q,
    )

-- an area that ends with v ++ q, from its parts
area_parts : (capacity : ℕ) (s v q : List ℕ) (k : ℕ) → k ≡ capacity - (length s + (length v + length q))
    → s ++ replicate k 0 ++ (v ++ q) ≡ area_of capacity s (v ++ q)
unfolding area_of
area_parts capacity s v q k e =
    let f : capacity - (length s + length (v ++ q)) ≡ k = rw length-append (omega arith) in
    rw f (append_assoc s (replicate k 0) (v ++ q))

-- symbols are put back before the waiting ones
pub area_put : (capacity : ℕ) (s q b v : List ℕ) (n i : ℕ) → take n b ≡ v → n ≡ length v → i ≡ capacity - (length q + n)
    → length s + (n + length q) ≤ capacity → paste (area_of capacity s q) i b n ≡ area_of capacity s (v ++ q)
area_put capacity s q b v n i e f place h =
    let zeros : List ℕ = replicate (capacity - (length s + (n + length q))) 0 in
    ap (λ (l : List ℕ). paste l i b n) (area_split capacity s q n h)
    ∙ paste_at (s ++ zeros) (replicate n 0) q b i n (length_front capacity n s q h ∙ sym place) (length-replicate {A = ℕ} n 0)
    ∙ ap (λ (l : List ℕ). s ++ zeros ++ (l ++ q)) e
    ∙ area_parts capacity s v q (capacity - (length s + (n + length q))) (omega arith)

-- A symbol comes to wait behind the others: these are moved to the left, ..
area_moved : (capacity : ℕ) (s q : List ℕ) (from : ℕ) → from ≡ capacity - length q → length s + length q < capacity
    → paste (area_of capacity s q) (from - 1) (drop from (area_of capacity s q)) (capacity - from)
    ≡ s ++ replicate (capacity - (length s + (1 + length q))) 0 ++ (q ++ drop (length q) (0 ∷ q))
area_moved capacity s q from e h =
    let p : List ℕ = s ++ replicate (capacity - (length s + (1 + length q))) 0 in
    let n : from ≡ length (area_of capacity s q) - length q = rw (length_area capacity s q (omega arith)) e in
    let waits : drop from (area_of capacity s q) ≡ q = rw n (area_end capacity s q) in
    let split : area_of capacity s q ≡ p ++ (take (length q) (0 ∷ q) ++ drop (length q) (0 ∷ q)) =
    area_split capacity s q 1 (omega arith) ∙ ap (λ (l : List ℕ). p ++ l) (sym (take-append-drop (length q) (0 ∷ q)))
    in
    let long : length (take (length q) (0 ∷ q)) ≡ capacity - from =
    length-take-le (length q) (0 ∷ q) (omega arith) ∙ omega arith
    in
    ap (λ (l : List ℕ). paste (area_of capacity s q) (from - 1) l (capacity - from)) waits
    ∙ ap (λ (l : List ℕ). paste l (from - 1) q (capacity - from)) split
    ∙ paste_at p (take (length q) (0 ∷ q)) (drop (length q) (0 ∷ q)) q (from - 1) (capacity - from)
    (length_front capacity 1 s q (omega arith) ∙ omega arith) long
    ∙ ap (λ (l : List ℕ). p ++ (l ++ drop (length q) (0 ∷ q))) (take_all (capacity - from) q (omega arith))

-- .. and it is written at the end.
set_last : (p b : List ℕ) (x last : ℕ) → length b ≡ 1 → last ≡ length p → set (p ++ b) last x ≡ p ++ x ∷ []
set_last p [] x last e f = absurd (omega arith)
set_last p (y ∷ []) x last e f = set_at p y [] x last (sym f)
set_last p (y ∷ z ∷ b) x last e f = absurd (omega arith)

pub area_append : (capacity : ℕ) (s q : List ℕ) (x from last : ℕ) → from ≡ capacity - length q → last ≡ capacity - 1
    → length s + length q < capacity
    → set (paste (area_of capacity s q) (from - 1) (drop from (area_of capacity s q)) (capacity - from)) last x
    ≡ area_of capacity s (q ++ x ∷ [])
area_append capacity s q x from last e f h =
    let p : List ℕ = s ++ replicate (capacity - (length s + (1 + length q))) 0 in
    let b : List ℕ = drop (length q) (0 ∷ q) in
    let one : length b ≡ 1 = length-drop (length q) (0 ∷ q) ∙ omega arith in
    let long : last ≡ length (p ++ q) = f ∙ sym (length-append p q ∙ omega (arith, length_front capacity 1 s q (omega arith))) in
    ap (λ (l : List ℕ). set l last x) (area_moved capacity s q from e h ∙ sym (append_assoc p q b))
    ∙ set_last (p ++ q) b x last one long
    ∙ append_assoc p q (x ∷ [])
    ∙ area_parts capacity s q (x ∷ []) (capacity - (length s + (1 + length q))) (omega arith)

-- words of a settled string that is cut
pub states-cut : (rules : List Rule) (q s : List ℕ) (k : ℕ) → take k (states_after rules q s) ≡ states_after rules q (take k s)
unfolding states_after
states-cut rules q s zero = refl
states-cut rules q [] (suc k) = refl
states-cut rules q (a ∷ s) (suc k) = ap (λ (l : List (List ℕ)). next rules q a ∷ l) (states-cut rules (next rules q a) s k)

pub map-take : (f : List ℕ → ℕ) (l : List (List ℕ)) (k : ℕ) → take k (map f l) ≡ map f (take k l)
map-take f l zero = refl
map-take f [] (suc k) = refl
map-take f (x ∷ l) (suc k) = ap (λ (r : List ℕ). f x ∷ r) (map-take f l k)
