-- The code's checks together are `valid`: an image is valid exactly when its header is in range, its contents are within
-- it and in range, they announce as many symbols as follow them, and these are all below S. The rules have a mark where the
-- contents
-- have one.
-- Assumes nothing.
use Prim.Native.Nat.{ℕ, zero, suc, ◌+◌, ◌*◌, ◌-◌, ◌≤◌, ◌<◌}
use mathlib.Core.Path.{◌≡◌, refl, sym, ap, ◌∙◌}
use mathlib.Core.Bool.{Bool, true, false, cond, ◌&&◌, ◌||◌}
use mathlib.Core.Logic.{◌⊎◌, inl, inr, ⊎_elim}
use mathlib.Core.List.{List, [], ◌∷◌, ◌++◌, append-nil, append_assoc, flat_map}
use native.Mathlib.Omega.{arith}
use lib.Dec.{eqb, leb, ltb}
use lib.ListN.{length, get_or, take, drop, length-append, length-drop, take-append-drop}
use lib.Seq.{take_all, take-add, drop-drop, length-take-le}
use borrow.Author.Tests.{eqb-true, leb-true, ltb-true, lt-ltb, le-ltb, le-leb, lt-leb, eq-eqb, ne_eqb}
use Rattle.rewriting.specs.Lists.{all, below, between}
use Rattle.rewriting.specs.Rules.{Right, Put, Close, symbols_of, Rule, RuleSet, right_in_range, rule_in_range, in_range}
use Rattle.rewriting.proofs.Lists.{
  and_left,
  and_right,
  and_both,
  all_left,
  all_right,
  all_flat_map,
  between_low,
  between_high,
  eq_same,
}
use Rattle.rewriting.proofs.Ranges.{RuleRanges, rule_ranges, Ranges, ranges}
use Rattle.layout.specs.Image.{
  kind,
  length_or_verdict,
  mark_byte,
  contents,
  body,
  image_of,
  read_right,
  read_rule,
  read_rules,
  read,
  valid,
}
use Rattle.layout.specs.ImageCheck.{Decides, Header, body_size, first_size, announces, announced, marks_in}
use Rattle.layout.specs.States.{has_mark}
use Rattle.layout.proofs.Image.{
  mark_small,
  mark_back,
  valid-in_range,
  valid_encoding,
  drop-contents,
  length_image,
  drop_image,
  body_below,
}
use Rattle.layout.proofs.Places.{
  contents_within,
  header_symbols,
  header_rules,
  header_verdicts,
  header_events,
  body_left,
}

-- The size that a rule's contents announce, where they are in range, and where a byte is not.
module _ (v left kind n last : ℕ) where
  pub size_string :
      (1 ≤ left) × (left ≤ 8) × (last ≤ 1) × (kind ≡ 0) × (n ≤ 8) → body_size v left kind n last ≡ left + n
  unfolding body_size
  size_string h =
      rw (le-leb 1 left h.0, le-leb left 8 h.1, le-leb last 1 h.2, eq-eqb kind 0 h.3, le-leb n 8 h.4)

  pub size_verdict :
      (1 ≤ left) × (left ≤ 8) × (last ≤ 1) × (kind ≡ 1) × (n < v) → body_size v left kind n last ≡ left
  unfolding body_size
  size_verdict h =
      rw (le-leb 1 left h.0, le-leb left 8 h.1, le-leb last 1 h.2, h.3, lt-ltb n v h.4)

  pub size_no_left : left < 1 → body_size v left kind n last ≡ 0
  unfolding body_size
  size_no_left h = rw (lt-leb 1 left h)

  pub size_long_left : 8 < left → body_size v left kind n last ≡ 0
  unfolding body_size
  size_long_left h = let a : 1 ≤ left = omega arith in rw (le-leb 1 left a, lt-leb left 8 h)

  pub size_last : (1 ≤ left) × (left ≤ 8) × (1 < last) → body_size v left kind n last ≡ 0
  unfolding body_size
  size_last h =
      rw (le-leb 1 left h.0, le-leb left 8 h.1, lt-leb last 1 h.2)

  pub size_long_right :
      (1 ≤ left) × (left ≤ 8) × (last ≤ 1) × (kind ≡ 0) × (8 < n) → body_size v left kind n last ≡ 0
  unfolding body_size
  size_long_right h =
      rw (le-leb 1 left h.0, le-leb left 8 h.1, le-leb last 1 h.2, eq-eqb kind 0 h.3, lt-leb n 8 h.4)

  pub size_kind : (1 ≤ left) × (left ≤ 8) × (last ≤ 1) × (1 < kind) → body_size v left kind n last ≡ 0
  unfolding body_size
  size_kind h =
      rw (le-leb 1 left h.0, le-leb left 8 h.1, le-leb last 1 h.2)
      (rw (ne_eqb kind 0 (λ (e : kind ≡ 0). omega (arith, h.3)), ne_eqb kind 1 (λ (e : kind ≡ 1). omega (arith, h.3))))

  pub size_no_verdict :
      (1 ≤ left) × (left ≤ 8) × (last ≤ 1) × (kind ≡ 1) × (v ≤ n) → body_size v left kind n last ≡ 0
  unfolding body_size
  size_no_verdict h =
      rw (le-leb 1 left h.0, le-leb left 8 h.1, le-leb last 1 h.2, h.3, le-ltb n v h.4)

-- One rule of the contents more: out of range, announcing more symbols than are left, or neither.
module _ (v n : ℕ) (c : List ℕ) (m : ℕ) where
  pub announces_out : first_size v c < 1 → announces v (suc n) c m ≡ false
  unfolding announces
  announces_out h = rw (lt-leb 1 (first_size v c) h)

  pub announces_more : m < first_size v c → announces v (suc n) c m ≡ false
  unfolding announces
  announces_more h =
      let a : 1 ≤ first_size v c = omega arith in
      rw (le-leb 1 (first_size v c) a, lt-leb (first_size v c) m h)

  pub announces_on :
      1 ≤ first_size v c → first_size v c ≤ m
      → announces v (suc n) c m ≡ announces v n (drop 4 c) (m - first_size v c)
  unfolding announces
  announces_on a b = rw (le-leb 1 (first_size v c) a, le-leb (first_size v c) m b)

pub announces_end : (v : ℕ) (c : List ℕ) (m : ℕ) → announces v 0 c m ≡ eqb m 0
unfolding announces
announces_end v c m = refl

-- What a size above 0 says of the contents.
data Sizes (v left kind n last size : ℕ) : Type 0 where
  String : 1 ≤ left → left ≤ 8 → last ≤ 1 → kind ≡ 0 → n ≤ 8 → size ≡ left + n → Sizes v left kind n last size
  Verdict : 1 ≤ left → left ≤ 8 → last ≤ 1 → kind ≡ 1 → n < v → size ≡ left → Sizes v left kind n last size

picked :
    (a b c d : Bool) (x y : ℕ) → 1 ≤ cond a (cond b (cond c x 0) (cond d y 0)) 0
    → ((a ≡ true) × (b ≡ true) × (c ≡ true) × (cond a (cond b (cond c x 0) (cond d y 0)) 0 ≡ x))
    ⊎ ((a ≡ true) × (b ≡ false) × (d ≡ true) × (cond a (cond b (cond c x 0) (cond d y 0)) 0 ≡ y))
picked true true true d x y h = inl (refl, refl, refl, refl)
picked true true false d x y h = absurd (omega arith)
picked true false c true x y h = inr (refl, refl, refl, refl)
picked true false c false x y h = absurd (omega arith)
picked false b c d x y h = absurd (omega arith)

sizes :
    (v left kind n last : ℕ) → 1 ≤ body_size v left kind n last → Sizes v left kind n last (body_size v left kind n last)
unfolding body_size
sizes v left kind n last h =
    ⊎_elim
    (λ (w : (sides ≡ true) × (eqb kind 0 ≡ true) × (leb n 8 ≡ true) × (size ≡ left + n)).
    String (between_low 1 left 8 (and_left (between 1 left 8) (leb last 1) w.0))
    (between_high 1 left 8 (and_left (between 1 left 8) (leb last 1) w.0))
    (leb-true last 1 (and_right (between 1 left 8) (leb last 1) w.0))
    (eqb-true kind 0 w.1) (leb-true n 8 w.2) w.3)
    (λ (w : (sides ≡ true) × (eqb kind 0 ≡ false) × ((eqb kind 1 && ltb n v) ≡ true) × (size ≡ left)).
    Verdict (between_low 1 left 8 (and_left (between 1 left 8) (leb last 1) w.0))
    (between_high 1 left 8 (and_left (between 1 left 8) (leb last 1) w.0))
    (leb-true last 1 (and_right (between 1 left 8) (leb last 1) w.0))
    (eqb-true kind 1 (and_left (eqb kind 1) (ltb n v) w.2))
    (ltb-true n v (and_right (eqb kind 1) (ltb n v) w.2)) w.3)
    (picked sides (eqb kind 0) (leb n 8) (eqb kind 1 && ltb n v) (left + n) left h)
  where
    sides : Bool
    sides = between 1 left 8 && leb last 1

    size : ℕ
    size = cond sides (cond (eqb kind 0) (cond (leb n 8) (left + n) 0) (cond (eqb kind 1 && ltb n v) left 0)) 0

-- a part of a list passes a test that the whole list passes
all_take : (test : ℕ → Bool) (n : ℕ) (b : List ℕ) → all test b ≡ true → all test (take n b) ≡ true
all_take test n b e = all_left test (take n b) (drop n b) (rw take-append-drop e)

all_drop : (test : ℕ → Bool) (n : ℕ) (b : List ℕ) → all test b ≡ true → all test (drop n b) ≡ true
all_drop test n b e = all_right test (take n b) (drop n b) (rw take-append-drop e)

-- all that stands behind a place
pub all_behind : (n : ℕ) (b : List ℕ) → take (length b - n) (drop n b) ≡ drop n b
all_behind n b = take_all (length b - n) (drop n b) (omega (arith, length-drop n b))

-- the first 4 numbers
first_four :
    (c : List ℕ) → 4 ≤ length c → c ≡ get_or c 0 0 ∷ get_or c 1 0 ∷ get_or c 2 0 ∷ get_or c 3 0 ∷ drop 4 c
first_four [] h = absurd (omega arith)
first_four (x ∷ []) h = absurd (omega arith)
first_four (x ∷ y ∷ []) h = absurd (omega arith)
first_four (x ∷ y ∷ z ∷ []) h = absurd (omega arith)
first_four (x ∷ y ∷ z ∷ w ∷ c) h = refl

take_four : (c : List ℕ) → 4 ≤ length c → take 4 c ≡ get_or c 0 0 ∷ get_or c 1 0 ∷ get_or c 2 0 ∷ get_or c 3 0 ∷ []
take_four c h = ap (take 4) (first_four c h)

-- A rule that is read from contents in range, with its body within the bytes b, all below S: it has these contents and
-- this body, and it is in range.
record Back (set : RuleSet) (c b : List ℕ) : Type 0 where
  same-contents : contents (read_rule c b) ≡ take 4 c
  same_body : body (read_rule c b) ≡ take (first_size set.verdicts c) b
  rule-in_range : rule_in_range set (read_rule c b) ≡ true

module _ (set : RuleSet) (c b : List ℕ) (four : 4 ≤ length c) (symbols : below set.symbols b ≡ true) where
  back_string :
      1 ≤ get_or c 0 0 → get_or c 0 0 ≤ 8 → get_or c 3 0 ≤ 1 → get_or c 1 0 ≡ 0 → get_or c 2 0 ≤ 8
      → first_size set.verdicts c ≡ get_or c 0 0 + get_or c 2 0 → get_or c 0 0 + get_or c 2 0 ≤ length b → Back set c b
  unfolding contents kind length_or_verdict body symbols_of read_rule read_right rule_in_range right_in_range
  back_string some few last kind_0 short size fits =
      let l = get_or c 0 0 in
      let n = get_or c 2 0 in
      let left_fits : l ≤ length b = omega arith in
      let right_fits : n ≤ length (drop l b) = simp length-drop (omega arith) in
      let long : length (take l b) ≡ l = length-take-le l b left_fits in
      let wide : length (take n (drop l b)) ≡ n = length-take-le n (drop l b) right_fits in
      let left_below : below set.symbols (take l b) ≡ true = all_take (λ x. ltb x set.symbols) l b symbols in
      let rest_below : below set.symbols (drop l b) ≡ true = all_drop (λ x. ltb x set.symbols) l b symbols in
      let right_below : below set.symbols (take n (drop l b)) ≡ true =
      all_take (λ x. ltb x set.symbols) n (drop l b) rest_below
      in
      record {
        same-contents = rw (take_four c four, mark_back (get_or c 3 0) last, kind_0, long, wide);
        same_body = rw (size, kind_0, take-add);
        rule-in_range =
            rw (kind_0, long, wide, le-leb 1 l some, le-leb l 8 few, left_below, le-leb n 8 short, right_below);
      }

  back_verdict :
      1 ≤ get_or c 0 0 → get_or c 0 0 ≤ 8 → get_or c 3 0 ≤ 1 → get_or c 1 0 ≡ 1 → get_or c 2 0 < set.verdicts
      → first_size set.verdicts c ≡ get_or c 0 0 → get_or c 0 0 ≤ length b → Back set c b
  unfolding contents kind length_or_verdict body symbols_of read_rule read_right rule_in_range right_in_range
  back_verdict some few last kind_1 short size fits =
      let l = get_or c 0 0 in
      let long : length (take l b) ≡ l = length-take-le l b fits in
      let left_below : below set.symbols (take l b) ≡ true = all_take (λ x. ltb x set.symbols) l b symbols in
      record {
        same-contents = rw (take_four c four, mark_back (get_or c 3 0) last, kind_1, long);
        same_body = rw (size, kind_1, append-nil);
        rule-in_range =
            rw (kind_1, long, le-leb 1 l some, le-leb l 8 few, left_below, lt-ltb (get_or c 2 0) set.verdicts short);
      }

  back : 1 ≤ first_size set.verdicts c → first_size set.verdicts c ≤ length b → Back set c b
  unfolding first_size
  back some fits =
      go (body_size set.verdicts (get_or c 0 0) (get_or c 1 0) (get_or c 2 0) (get_or c 3 0)) refl
      (sizes set.verdicts (get_or c 0 0) (get_or c 1 0) (get_or c 2 0) (get_or c 3 0) some)
    where
      go :
          (s : ℕ) → first_size set.verdicts c ≡ s
          → Sizes set.verdicts (get_or c 0 0) (get_or c 1 0) (get_or c 2 0) (get_or c 3 0) s → Back set c b
      go s e (String p q z k h t) = back_string p q z k h (e ∙ t) (omega arith)
      go s e (Verdict p q z k h t) = back_verdict p q z k h (e ∙ t) (omega arith)

-- Rules that are read from contents that announce as many symbols as follow.
record Readings (set : RuleSet) (n : ℕ) (c b : List ℕ) : Type 0 where
  count : length (read_rules n c b) ≡ n
  all_contents : flat_map contents (read_rules n c b) ≡ take (4 * n) c
  all_bodies : flat_map body (read_rules n c b) ≡ b
  all_in_range : all (rule_in_range set) (read_rules n c b) ≡ true

readings :
    (set : RuleSet) (n : ℕ) (c b : List ℕ) → 4 * n ≤ length c → below set.symbols b ≡ true
    → announces set.verdicts n c (length b) ≡ true → Readings set n c b
unfolding read_rules flat_map announces
readings set zero c [] fits symbols e = record { count = refl; all_contents = refl; all_bodies = refl; all_in_range = refl }
readings set zero c (x ∷ b) fits symbols e = absurd (omega (arith, eqb-true (length (x ∷ b)) 0 e))
readings set (suc n) c b fits symbols e =
    let s : ℕ = first_size set.verdicts c in
    let first : (leb 1 s && leb s (length b)) ≡ true =
    and_left (leb 1 s && leb s (length b)) (announces set.verdicts n (drop 4 c) (length b - s)) e
    in
    let rest : announces set.verdicts n (drop 4 c) (length b - s) ≡ true =
    and_right (leb 1 s && leb s (length b)) (announces set.verdicts n (drop 4 c) (length b - s)) e
    in
    let some : 1 ≤ s = leb-true 1 s (and_left (leb 1 s) (leb s (length b)) first) in
    let within : s ≤ length b = leb-true s (length b) (and_right (leb 1 s) (leb s (length b)) first) in
    let h : Back set c b = back set c b (omega arith) symbols some within in
    let long : length (body (read_rule c b)) ≡ s = ap length h.same_body ∙ length-take-le s b within in
    let left : length (drop s b) ≡ length b - s = length-drop s b in
    let ih : Readings set n (drop 4 c) (drop s b) =
    readings set n (drop 4 c) (drop s b) (simp length-drop (omega arith))
    (all_drop (λ x. ltb x set.symbols) s b symbols) (rw left rest)
    in
    let turns : 4 * suc n ≡ 4 + 4 * n = omega arith in
    record {
      count = rw long (ap suc ih.count);
      all_contents = rw (long, h.same-contents, ih.all_contents, turns, take-add);
      all_bodies = rw (long, h.same_body, ih.all_bodies) (take-append-drop s b);
      all_in_range = rw long (and_both h.rule-in_range ih.all_in_range);
    }

-- the first four bytes are in range
abbrev pub HeaderOf : List ℕ → Type 0
HeaderOf b = Header (get_or b 0 0) (get_or b 1 0) (get_or b 2 0) (get_or b 3 0)

-- Bytes that pass the checks are valid.
pub checked_valid :
    (b : List ℕ) → HeaderOf b → 4 + 4 * get_or b 1 0 ≤ length b
    → announced b (get_or b 1 0) ≡ true
    → below (get_or b 0 0) (drop (4 + 4 * get_or b 1 0) b) ≡ true → valid b ≡ true
unfolding valid in_range image_of read
checked_valid b h room told symbols = and_both in_range_lem (eq_same (image_of (read b)) b encoded)
  where
    n : ℕ
    n = get_or b 1 0

    bodies : List ℕ
    bodies = drop (4 + 4 * n) b

    long : length bodies ≡ length b - (4 + 4 * n)
    long = length-drop (4 + 4 * n) b

    there : Readings (read b) n (drop 4 b) bodies
    there = readings (read b) n (drop 4 b) bodies (simp length-drop (omega arith)) symbols (rw long told)

    in_range_lem : in_range (read b) ≡ true
    in_range_lem =
        let few : length (read b).rules ≤ 64 = omega (arith, there.count) in
        rw (
          le-leb 1 (get_or b 0 0) h.some-symbol,
          le-leb (get_or b 0 0) 32 h.few_symbols,
          le-leb 1 (get_or b 3 0) h.some-event,
          le-leb (get_or b 3 0) (get_or b 0 0) h.few_events,
          le-leb 2 (get_or b 2 0) h.some_verdicts,
          le-leb (get_or b 2 0) 16 h.few_verdicts,
          le-leb (length (read b).rules) 64 few,
        )
        there.all_in_range

    behind : drop (4 * n) (drop 4 b) ≡ bodies
    behind = drop-drop (4 * n) 4 b

    rest : flat_map contents (read b).rules ++ flat_map body (read b).rules ≡ drop 4 b
    rest = rw (there.all_contents, there.all_bodies, ← behind) (take-append-drop (4 * n) (drop 4 b))

    encoded : image_of (read b) ≡ b
    encoded = rw (there.count, rest) (sym (first_four b (omega arith)))

-- The contents of rules in range announce their bodies.
size_of :
    (set : RuleSet) (m : Bool) (left : List ℕ) (x : Right) → 1 ≤ length left → length left ≤ 8 → right_in_range set x ≡ true
    → body_size set.verdicts (length left) (kind x) (length_or_verdict x) (mark_byte m) ≡ length left + length (symbols_of x)
unfolding kind length_or_verdict symbols_of right_in_range
size_of set m left (Put v) some few e =
    size_string set.verdicts (length left) 0 (length v) (mark_byte m)
    (some, few, mark_small m, refl, leb-true (length v) 8 (and_left (leb (length v) 8) (below set.symbols v) e))
size_of set m left (Close v) some few e =
    size_verdict set.verdicts (length left) 1 v (mark_byte m) (some, few, mark_small m, refl, ltb-true v set.verdicts e)
    ∙ omega arith

size_rule :
    (set : RuleSet) (r : Rule) (x : List ℕ) → rule_in_range set r ≡ true
    → first_size set.verdicts (contents r ++ x) ≡ length (body r)
unfolding first_size contents
size_rule set r x e =
    let h : RuleRanges set r = rule_ranges set r e in
    size_of set r.marked r.left r.right h.some_left h.short_left h.right_in_range_lem ∙ sym (body_left r)

announced-rules :
    (set : RuleSet) (rs : List Rule) (x : List ℕ) → all (rule_in_range set) rs ≡ true
    → announces set.verdicts (length rs) (flat_map contents rs ++ x) (length (flat_map body rs)) ≡ true
unfolding flat_map
announced-rules set [] x e = announces_end set.verdicts x 0
announced-rules set (r ∷ rs) x e =
    let this : rule_in_range set r ≡ true = and_left (rule_in_range set r) (all (rule_in_range set) rs) e in
    let h : RuleRanges set r = rule_ranges set r this in
    let c : List ℕ = flat_map contents rs ++ x in
    let size : first_size set.verdicts (contents r ++ c) ≡ length (body r) = size_rule set r c this in
    let long : length (body r ++ flat_map body rs) ≡ length (body r) + length (flat_map body rs) =
    length-append (body r) (flat_map body rs)
    in
    let left :
    length (body r ++ flat_map body rs) - first_size set.verdicts (contents r ++ c) ≡ length (flat_map body rs) =
    omega arith
    in
    let rest = announced-rules set rs x (and_right (rule_in_range set r) (all (rule_in_range set) rs) e) in
    rw append_assoc
    (announces_on set.verdicts (length rs) (contents r ++ c) (length (body r ++ flat_map body rs))
    (omega (arith, body_left r)) (omega arith)
    ∙ rw (left, drop-contents) rest)

-- A valid image passes each check.
module _ (b : List ℕ) (e : valid b ≡ true) where
  pub valid_header : HeaderOf b
  valid_header =
      let h : Ranges (read b) = ranges (read b) (valid-in_range b e) in
      omega (arith, header_symbols b, header_rules b e, header_verdicts b, header_events b)

  pub valid_room : 4 + 4 * get_or b 1 0 ≤ length b
  valid_room = omega (arith, header_rules b e, contents_within b e)

  pub valid-announces :
      announced b (get_or b 1 0) ≡ true
  unfolding image_of
  valid-announces =
      let set : RuleSet = read b in
      let h : Ranges set = ranges set (valid-in_range b e) in
      let n : get_or b 1 0 ≡ length set.rules = header_rules b e in
      let v : get_or b 2 0 ≡ set.verdicts = header_verdicts b in
      let c : drop 4 b ≡ flat_map contents set.rules ++ flat_map body set.rules =
      ap (drop 4) (sym (valid_encoding b e))
      in
      let left : length b - (4 + 4 * get_or b 1 0) ≡ length (flat_map body set.rules) =
      omega (arith, ap length (valid_encoding b e), length_image set)
      in
      rw (left, n, v, c) (announced-rules set set.rules (flat_map body set.rules) h.all_rules)

  pub valid_symbols : below (get_or b 0 0) (drop (4 + 4 * get_or b 1 0) b) ≡ true
  valid_symbols =
      let set : RuleSet = read b in
      let h : Ranges set = ranges set (valid-in_range b e) in
      let n : get_or b 1 0 ≡ length set.rules = header_rules b e in
      let s : get_or b 0 0 ≡ set.symbols = header_symbols b in
      let behind : drop (4 + 4 * length set.rules) b ≡ flat_map body set.rules =
      ap (drop (4 + 4 * length set.rules)) (sym (valid_encoding b e)) ∙ drop_image set
      in
      rw (n, behind, s)
      (all_flat_map (rule_in_range set) (λ x. ltb x set.symbols) body (body_below set) set.rules h.all_rules)

-- What a check's answer says.
pub decided : {P : Type 0} (t : Bool) → t ≡ true → Decides t P → P
decided true e d = d
decided false e d = let z : ◌≡◌ {A = ℕ} 0 1 = cc in absurd (omega arith)

pub denied : {P : Type 0} (t : Bool) → t ≡ false → Decides t P → P → ⊥
denied true e d = let z : ◌≡◌ {A = ℕ} 0 1 = cc in absurd (omega arith)
denied false e d = d

-- What is refused is not valid.
pub refused : (b : List ℕ) → (valid b ≡ true → ⊥) → false ≡ valid b
refused b h = go (valid b) h
  where
    go : (p : Bool) → (p ≡ true → ⊥) → false ≡ p
    go true h = absurd (h refl)
    go false h = refl

agree : (p q : Bool) → (p ≡ true → q ≡ true) → (q ≡ true → p ≡ true) → p ≡ q
agree true q f g = sym (f refl)
agree false true f g = g refl
agree false false f g = refl

-- With n rules: contents that do not announce what follows them are refused.
pub unannounced :
    (b : List ℕ) (n : ℕ) → n ≡ get_or b 1 0
    → announced b n ≡ false → false ≡ valid b
unannounced b n e h =
    refused b
    (λ v.
    let yes = valid-announces b v in
    let no : announced b (get_or b 1 0) ≡ false = rw e at h in
    let z : ◌≡◌ {A = ℕ} 0 1 = cc in
    omega arith)

-- With the header and the contents in range, the symbols' range decides.
pub checked :
    (b : List ℕ) (n : ℕ) → n ≡ get_or b 1 0 → HeaderOf b
    → 4 + 4 * n ≤ length b → announced b n ≡ true
    → below (get_or b 0 0) (drop (4 + 4 * n) b) ≡ valid b
checked b n e h room told =
    rw e
    (agree (below (get_or b 0 0) (drop (4 + 4 * get_or b 1 0) b)) (valid b)
    (checked_valid b h (omega arith) (rw e at told)) (valid_symbols b))

-- The rules that are read have a mark where the contents have one.
pub marks-read : (n : ℕ) (c b : List ℕ) → has_mark (read_rules n c b) ≡ marks_in n c
unfolding has_mark read_rules read_rule marks_in
marks-read zero c b = refl
marks-read (suc n) c b =
    ap (λ (t : Bool). eqb (get_or c 3 0) 1 || t) (marks-read n (drop 4 c) (drop (length (body (read_rule c b))) b))
