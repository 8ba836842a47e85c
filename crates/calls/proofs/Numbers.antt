-- Numbers read two by two, as the loops of the code read them.
-- Assumes nothing.
use Prim.Native.Nat.{ℕ, zero, suc, ◌+◌, ◌*◌, ◌-◌, ◌≤◌, ◌<◌}
use mathlib.Core.Path.{◌≡◌, refl, sym, ap, ◌∙◌}
use Rattle.std.specs.Prelude.{Option, None, Some}
use Rattle.std.specs.List.{All}
use Rattle.std.specs.Simd.{first_chunks}
use Rattle.std.proofs.lemmas.List.{get_or-take, get_or-drop}
use mathlib.Core.Bool.{Bool, true, false, ◌&&◌}
use mathlib.Core.List.{List, [], ◌∷◌}
use native.Mathlib.Omega.{arith}
use lib.Dec.{leb, ltb}
use lib.ListN.{length, get_or, drop, drop_of_length-le}
use lib.Seq.{drop-cons}
use borrow.Author.Tests.{leb-true, le-leb, lt-leb, ltb-true, ltb-false}
use Rattle.rewriting.specs.Lists.{all}
use Rattle.rewriting.proofs.Lists.{and_both, and_left, and_right}
use Rattle.machine.specs.Calls.{Call, Offer, GoOn}
use Rattle.machine.specs.Play.{events_of}
use Rattle.calls.specs.Encoding.{decoded_call, decoded_calls, pairs, encodes}

-- the call of two numbers
pub going_on : (first fuel : ℕ) → first ≡ 0 → decoded_call first fuel ≡ GoOn fuel
unfolding decoded_call
going_on zero fuel e = refl
going_on (suc x) fuel e = absurd (omega (arith, e))

pub offering : (first fuel : ℕ) → 1 ≤ first → decoded_call first fuel ≡ Offer (first - 1) fuel
unfolding decoded_call
offering zero fuel h = absurd (omega (arith, h))
offering (suc x) fuel h = let e : suc x - 1 ≡ x = omega arith in rw e

-- a go-on has no event
pub no_event : (o : Option ℕ) (fuel : ℕ) → 0 ≡ length (events_of o (GoOn fuel))
unfolding events_of
no_event None fuel = refl
no_event (Some n) fuel = refl

-- pair i, as the program has it: numbers 2 * i and 2 * i + 1
pub record PairAt (l : List ℕ) (i : ℕ) (pair : List ℕ) : Type 0 where
  pub first : get_or pair 0 0 ≡ get_or l (2 * i) 0
  pub second : get_or pair 1 0 ≡ get_or l (2 * i + 1) 0

pub pair_at : (n i : ℕ) (l : List ℕ) (xs : List (List ℕ)) → xs ≡ first_chunks 2 n l → i < n
    → (d : List ℕ) → PairAt l i (get_or xs i d)
pair_at n i l xs e h d = rw e (go n i l h)
  where
    go : (n i : ℕ) (l : List ℕ) → i < n → PairAt l i (get_or (first_chunks 2 n l) i d)
    go zero i l h = absurd (omega arith)
    go (suc n) zero l h = record {
      first = get_or-take 2 l 0 0 (omega arith);
      second = get_or-take 2 l 1 0 (omega arith);
    }
    go (suc n) (suc i) l h =
        let one : 2 * suc i ≡ 2 + 2 * i = omega arith in
        let two : 2 * suc i + 1 ≡ 2 + (2 * i + 1) = omega arith in
        let before : PairAt (drop 2 l) i (get_or (first_chunks 2 n (drop 2 l)) i d) = go n i (drop 2 l) (omega arith) in record {
          first = rw one (before.first ∙ get_or-drop 2 l (2 * i) 0);
          second = rw two (before.second ∙ get_or-drop 2 l (2 * i + 1) 0);
        }

-- n pairs are calls where the first number of each is at most 256
firsts_pairs : (n : ℕ) (l : List ℕ) → length l ≡ 2 * n → ((k : ℕ) → k < n → get_or l (2 * k) 0 ≤ 256) → pairs l ≡ true
unfolding pairs
firsts_pairs zero [] e h = refl
firsts_pairs zero (a ∷ l) e h = absurd (omega (arith, e))
firsts_pairs (suc n) [] e h = absurd (omega (arith, e))
firsts_pairs (suc n) (a ∷ []) e h = absurd (omega (arith, e))
firsts_pairs (suc n) (a ∷ b ∷ l) e h =
    and_both (le-leb a 256 (h 0 (omega arith))) (firsts_pairs n l (omega (arith, e)) (λ k i.
    let next : 2 * suc k ≡ suc (suc (2 * k)) = omega arith in
    rw next at (h (suc k) (omega arith))))

pairs_firsts : (n : ℕ) (l : List ℕ) → length l ≡ 2 * n → pairs l ≡ true → (k : ℕ) → k < n → get_or l (2 * k) 0 ≤ 256
unfolding pairs
pairs_firsts zero l e p k h = absurd (omega arith)
pairs_firsts (suc n) [] e p k h = absurd (omega (arith, e))
pairs_firsts (suc n) (a ∷ []) e p k h = absurd (omega (arith, e))
pairs_firsts (suc n) (a ∷ b ∷ l) e p zero h = leb-true a 256 (and_left (leb a 256) (pairs l) p)
pairs_firsts (suc n) (a ∷ b ∷ l) e p (suc k) h =
    let next : 2 * suc k ≡ suc (suc (2 * k)) = omega arith in
    rw next (pairs_firsts n l (omega (arith, e)) (and_right (leb a 256) (pairs l) p) k (omega arith))

-- a number alone behind n pairs
pub pairs-odd : (n : ℕ) (l : List ℕ) → length l ≡ 2 * n + 1 → pairs l ≡ false
unfolding pairs
pairs-odd n [] e = absurd (omega (arith, e))
pairs-odd n (a ∷ []) e = refl
pairs-odd zero (a ∷ b ∷ l) e = absurd (omega (arith, e))
pairs-odd (suc n) (a ∷ b ∷ l) e = rw (pairs-odd n l (omega (arith, e))) (none (leb a 256))
  where
    none : (t : Bool) → (t && false) ≡ false
    none true = refl
    none false = refl

-- the answer of a loop over the pairs that asks each for its first number
pub asked : (n : ℕ) (l : List ℕ) (xs : List (List ℕ)) → xs ≡ first_chunks 2 n l → length xs ≡ n → length l ≡ 2 * n
    → (r : Bool) → (r ≡ true → All (λ (pair : List ℕ). get_or pair 0 0 ≤ 256) xs)
    → (All (λ (pair : List ℕ). get_or pair 0 0 ≤ 256) xs → r ≡ true) → r ≡ pairs l
asked n l xs e size even true says given =
    sym (firsts_pairs n l even (λ k h. rw (pair_at n k l xs e h []).first at (says refl k [] (omega (arith, size)))))
asked n l xs e size even false says given = go (pairs l) refl
  where
    go : (b : Bool) → pairs l ≡ b → false ≡ b
    go false p = refl
    go true p = given (λ k d h.
        rw (pair_at n k l xs e (omega (arith, size)) d).first (pairs_firsts n l even p k (omega (arith, size))))

drop_two : (l : List ℕ) (k : ℕ) → k + 1 < length l → drop k l ≡ get_or l k 0 ∷ get_or l (k + 1) 0 ∷ drop (k + 2) l
drop_two l k h =
    let one : k + 1 ≡ suc k = omega arith in
    let two : k + 2 ≡ suc (suc k) = omega arith in
    rw (one, two)
    (drop-cons l k 0 (omega arith) ∙ ap (λ (r : List ℕ). get_or l k 0 ∷ r) (drop-cons l (suc k) 0 (omega arith)))

-- a number alone
pub pairs_alone : (l : List ℕ) (k : ℕ) → k < length l → length l ≤ k + 1 → pairs (drop k l) ≡ false
unfolding pairs
pairs_alone l k h o =
    let rest : drop (suc k) l ≡ [] = drop_of_length-le l {i = suc k} (omega arith) in
    rw (drop-cons l k 0 h, rest)

-- no number is left
pub calls_end : (l : List ℕ) (k : ℕ) → length l ≤ k → decoded_calls (drop k l) ≡ []
unfolding decoded_calls
calls_end l k h = rw (drop_of_length-le l h)

-- the check, by its two parts
pub encodes_long : (l : List ℕ) → 8589934590 < length l → encodes l ≡ false
unfolding encodes
encodes_long l h = rw (lt-leb _ _ h)

pub encodes_few : (l : List ℕ) → length l ≤ 8589934590 → encodes l ≡ pairs l
unfolding encodes
encodes_few l h = rw (le-leb _ _ h)

pub few : (l : List ℕ) → encodes l ≡ true → length l ≤ 8589934590
unfolding encodes
few l e = leb-true _ _ (and_left (leb (length l) 8589934590) (pairs l) e)

pub paired : (l : List ℕ) → encodes l ≡ true → pairs l ≡ true
unfolding encodes
paired l e = and_right (leb (length l) 8589934590) (pairs l) e

-- what stands at k, where the numbers from there on are calls
pub record CallAt (l : List ℕ) (k : ℕ) : Type 0 where
  pub inside : k + 1 < length l
  pub first : get_or l k 0 ≤ 256
  pub rest : pairs (drop (k + 2) l) ≡ true
  pub calls : decoded_calls (drop k l) ≡ decoded_call (get_or l k 0) (get_or l (k + 1) 0) ∷ decoded_calls (drop (k + 2) l)

pub call_at : (l : List ℕ) (k : ℕ) → k < length l → pairs (drop k l) ≡ true → CallAt l k
unfolding pairs decoded_calls
call_at l k h e = go (ltb (k + 1) (length l)) refl
  where
    go : (b : Bool) → ltb (k + 1) (length l) ≡ b → CallAt l k
    go true p =
        let two : drop k l ≡ get_or l k 0 ∷ get_or l (k + 1) 0 ∷ drop (k + 2) l = drop_two l k (ltb-true _ _ p) in
        let both : (leb (get_or l k 0) 256 && pairs (drop (k + 2) l)) ≡ true = rw two at e in
        record {
          inside = ltb-true _ _ p;
          first = leb-true _ _ (and_left (leb (get_or l k 0) 256) (pairs (drop (k + 2) l)) both);
          rest = and_right (leb (get_or l k 0) 256) (pairs (drop (k + 2) l)) both;
          calls = rw two;
        }
    go false p =
        let no : pairs (drop k l) ≡ false = pairs_alone l k h (ltb-false _ _ p) in
        let z : ◌≡◌ {A = ℕ} 0 1 = cc in
        absurd (omega arith)

-- Every list of calls whose events are below 256 is the calls of some numbers.
unfoldable pub byte_event : Call → Bool
byte_event (Offer event fuel) = ltb event 256
byte_event (GoOn fuel) = true

pub all_lists : (calls : List Call) → all byte_event calls ≡ true
    → (numbers : List ℕ) × (pairs numbers ≡ true) × (decoded_calls numbers ≡ calls)
unfolding decoded_calls pairs decoded_call byte_event
all_lists [] h = ([], refl, refl)
all_lists (Offer event fuel ∷ calls) h =
    let rest : _ = all_lists calls (and_right (ltb event 256) (all byte_event calls) h) in
    let low : event < 256 = ltb-true _ _ (and_left (ltb event 256) (all byte_event calls) h) in (
      suc event ∷ fuel ∷ rest.0,
      and_both (le-leb (suc event) 256 (omega arith)) rest.1,
      ap (λ (l : List Call). Offer event fuel ∷ l) rest.2,
    )
all_lists (GoOn fuel ∷ calls) h =
    let rest : _ = all_lists calls h in
    (0 ∷ fuel ∷ rest.0, rest.1, ap (λ (l : List Call). GoOn fuel ∷ l) rest.2)
