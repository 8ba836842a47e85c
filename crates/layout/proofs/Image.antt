-- Every rule set is read back from its image; an image is valid exactly when it is that of a rule set in range.
-- A valid image has at most 1,284 bytes.
-- Assumes nothing.
use Prim.Native.Nat.{ℕ, ◌+◌, ◌*◌, ◌≤◌, ◌<◌}
use mathlib.Core.Path.{◌≡◌, refl, sym, ap, ◌∙◌}
use mathlib.Core.Bool.{Bool, true, false}
use mathlib.Core.Logic.{◌↔◌}
use mathlib.Core.List.{List, [], ◌∷◌, ◌++◌, append_assoc, flat_map}
use native.Mathlib.Omega.{arith}
use lib.Dec.{eqb, ltb}
use lib.ListN.{length, take, drop, length-append}
use lib.Seq.{take-append_seam, drop-append_seam, drop-append-add, drop_at}
use borrow.Author.Tests.{eqb-true, eqb-false, ltb-true, lt-ltb}
use Rattle.rewriting.specs.Lists.{all, below, same}
use Rattle.rewriting.specs.Rules.{Right, Put, Close, symbols_of, Rule, RuleSet, right_in_range, rule_in_range, in_range}
use Rattle.rewriting.proofs.Lists.{and_left, and_right, and_both, all_append, all_flat_map, below_weaken, same_eq, eq_same}
use Rattle.rewriting.proofs.Ranges.{length_right, right_below, RuleRanges, rule_ranges, Ranges, ranges}
use Rattle.layout.specs.Image.{
  image_most,
  kind,
  length_or_verdict,
  mark_byte,
  contents,
  body,
  image_of,
  read_right,
  read_rule,
  read_rules,
  read,
  valid,
}

-- a right side is read back from its kind, its length or verdict and its symbols, whatever follows them
pub read_right_lem : (x : Right) (b : List ℕ) → read_right (kind x) (length_or_verdict x) (symbols_of x ++ b) ≡ x
unfolding read_right kind length_or_verdict symbols_of
read_right_lem (Put v) b = rw take-append_seam
read_right_lem (Close v) b = refl

-- a mark is read back from its byte, which is 0 or 1; and a byte of 0 or 1 is that of the mark read from it
pub read-mark : (m : Bool) → eqb (mark_byte m) 1 ≡ m
unfolding mark_byte
read-mark true = refl
read-mark false = refl

pub mark_small : (m : Bool) → mark_byte m ≤ 1
unfolding mark_byte
mark_small true = omega arith
mark_small false = omega arith

pub mark_back : (n : ℕ) → n ≤ 1 → mark_byte (eqb n 1) ≡ n
unfolding mark_byte
mark_back n h = go (eqb n 1) refl
  where
    go : (b : Bool) → eqb n 1 ≡ b → mark_byte b ≡ n
    go true e = sym (eqb-true n 1 e)
    go false e = let other : n ≡ 1 → ⊥ = eqb-false n 1 e in omega (arith, other)

-- a rule is read back from its contents and its body, whatever follows them
pub read-rule : (r : Rule) (c b : List ℕ) → read_rule (contents r ++ c) (body r ++ b) ≡ r
unfolding read_rule contents body
read-rule r c b = λ i. record { marked = read-mark r.marked i; left = first i; right = second i }
  where
    bytes : List ℕ
    bytes = r.left ++ symbols_of r.right ++ b

    first : take (length r.left) bytes ≡ r.left
    first = rw (append_assoc, take-append_seam)

    rest : drop (length r.left) bytes ≡ symbols_of r.right ++ b
    rest = rw (append_assoc, drop-append_seam)

    second : read_right (kind r.right) (length_or_verdict r.right) (drop (length r.left) bytes) ≡ r.right
    second = rw rest (read_right_lem r.right b)

-- a rule has 4 bytes of contents
pub drop-contents : (r : Rule) (c : List ℕ) → drop 4 (contents r ++ c) ≡ c
unfolding contents
drop-contents r c = refl

-- the rules are read back from their contents, whatever follows them, and their bodies
pub read-rules : (rs : List Rule) (c : List ℕ) → read_rules (length rs) (flat_map contents rs ++ c) (flat_map body rs) ≡ rs
unfolding read_rules flat_map
read-rules [] c = refl
read-rules (r ∷ rs) c = rw (append_assoc, read-rule, drop-contents, drop-append_seam, read-rules rs c)

-- 4 bytes of contents a rule
pub length-contents : (rs : List Rule) → length (flat_map contents rs) ≡ 4 * length rs
unfolding flat_map contents
length-contents [] = refl
length-contents (r ∷ rs) = omega (arith, length-contents rs)

-- the bodies stand behind the contents
pub drop_image : (set : RuleSet) → drop (4 + 4 * length set.rules) (image_of set) ≡ flat_map body set.rules
unfolding image_of
drop_image set =
    drop-append-add (set.symbols ∷ length set.rules ∷ set.verdicts ∷ set.events ∷ [])
    (flat_map contents set.rules ++ flat_map body set.rules) (4 * length set.rules)
    ∙ drop_at (flat_map contents set.rules) (flat_map body set.rules) (4 * length set.rules)
    (length-contents set.rules)

-- Every rule set is read back from its image.
pub read_image : (set : RuleSet) → read (image_of set) ≡ set
unfolding read image_of
read_image set =
    λ i. record { symbols = set.symbols; events = set.events; verdicts = set.verdicts; rules = back i }
  where
    back :
        read_rules (length set.rules) (drop 4 (image_of set)) (drop (4 + 4 * length set.rules) (image_of set))
        ≡ set.rules
    back = rw drop_image (read-rules set.rules (flat_map body set.rules))

-- A valid image is read as a rule set in range, and is that rule set's image.
pub valid-in_range : (b : List ℕ) → valid b ≡ true → in_range (read b) ≡ true
unfolding valid
valid-in_range b e = and_left (in_range (read b)) (same (image_of (read b)) b) e

pub valid_encoding : (b : List ℕ) → valid b ≡ true → image_of (read b) ≡ b
unfolding valid
valid_encoding b e = same_eq (image_of (read b)) b (and_right (in_range (read b)) (same (image_of (read b)) b) e)

-- The image of a rule set in range is valid.
pub image_valid : (set : RuleSet) → in_range set ≡ true → valid (image_of set) ≡ true
unfolding valid
image_valid set h =
    let e : read (image_of set) ≡ set = read_image set in
    rw e (and_both h (eq_same (image_of set) (image_of set) refl))

-- An image is valid exactly when it is the image of a rule set in range.
pub valid_image : (b : List ℕ) → (valid b ≡ true) ↔ ((set : RuleSet) × (in_range set ≡ true) × (image_of set ≡ b))
valid_image b = (λ e. (read b, valid-in_range b e, valid_encoding b e), λ h. rw (← h.2) (image_valid h.0 h.1))

-- 4 bytes, 4 more a rule, and the bodies
pub length_image :
    (set : RuleSet) → length (image_of set) ≡ 4 + 4 * length set.rules + length (flat_map body set.rules)
unfolding image_of
length_image set =
    let n : length (flat_map contents set.rules) ≡ 4 * length set.rules = length-contents set.rules in
    simp length-append (omega arith)

-- the length or verdict of a right side in range is at most 16
pub size_right : (set : RuleSet) (x : Right) → set.verdicts ≤ 16 → right_in_range set x ≡ true → length_or_verdict x ≤ 16
unfolding right_in_range length_or_verdict symbols_of
size_right set (Put v) few e =
    let short : length (symbols_of (Put v)) ≤ 8 = length_right set (Put v) e in
    omega arith
size_right set (Close v) few e = let lt : v < set.verdicts = ltb-true v set.verdicts e in omega arith

pub kind_right : (x : Right) → kind x ≤ 1
unfolding kind
kind_right (Put v) = omega arith
kind_right (Close v) = omega arith

-- a body has at most 16 symbols
pub length-body : (set : RuleSet) (r : Rule) → RuleRanges set r → length (body r) ≤ 16
unfolding body
length-body set r h = simp length-append (omega (arith, length_right set r.right h.right_in_range_lem))

-- and n of them at most 16 n
pub length_bodies :
    (set : RuleSet) (rs : List Rule) → all (rule_in_range set) rs ≡ true → length (flat_map body rs) ≤ 16 * length rs
unfolding flat_map
length_bodies set [] e = omega arith
length_bodies set (r ∷ rs) e =
    let others : Bool = all (rule_in_range set) rs in
    let h : RuleRanges set r = rule_ranges set r (and_left (rule_in_range set r) others e) in
    let short : length (body r) ≤ 16 = length-body set r h in
    let rest : others ≡ true = and_right (rule_in_range set r) others e in
    let ih : length (flat_map body rs) ≤ 16 * length rs = length_bodies set rs rest in
    simp length-append (omega arith)

-- A valid image has at most 1,284 bytes: 4, 4 a rule, and 16 a rule, with 64 rules.
pub longest : (b : List ℕ) → valid b ≡ true → length b ≤ image_most
longest b e =
    let set : RuleSet = read b in
    let h : Ranges set = ranges set (valid-in_range b e) in
    omega (arith, ap length (valid_encoding b e), length_image set, length_bodies set set.rules h.all_rules)

-- the symbols of a rule in range are below S
pub body_below : (set : RuleSet) (r : Rule) → rule_in_range set r ≡ true → below set.symbols (body r) ≡ true
unfolding body
body_below set r e =
    let g : RuleRanges set r = rule_ranges set r e in
    all_append (λ x. ltb x set.symbols) r.left (symbols_of r.right) g.left_below
    (right_below set r.right g.right_in_range_lem)

-- the contents and the body of a rule in range are bytes
module _ (set : RuleSet) (h : Ranges set) (r : Rule) (e : rule_in_range set r ≡ true) where
  contents_fit : below 256 (contents r) ≡ true
  unfolding contents
  contents_fit =
      let g : RuleRanges set r = rule_ranges set r e in
      let l : length r.left < 256 = omega arith in
      let k : kind r.right < 256 = omega (arith, kind_right r.right) in
      let s : length_or_verdict r.right ≤ 16 = size_right set r.right h.few_verdicts g.right_in_range_lem in
      let n : length_or_verdict r.right < 256 = omega arith in
      let m : mark_byte r.marked < 256 = omega (arith, mark_small r.marked) in
      simp lt-ltb

  body-fits : below 256 (body r) ≡ true
  body-fits = below_weaken set.symbols 256 (body r) (omega arith) (body_below set r e)

-- the image of a rule set in range is bytes
pub image_fits : (set : RuleSet) → Ranges set → below 256 (image_of set) ≡ true
unfolding image_of
image_fits set h =
    let rs : List Rule = set.rules in
    let s : set.symbols < 256 = omega arith in
    let n : length rs < 256 = omega arith in
    let v : set.verdicts < 256 = omega arith in
    let e : set.events < 256 = omega arith in
    simp lt-ltb
    (all_append (λ x. ltb x 256) (flat_map contents rs) (flat_map body rs)
    (all_flat_map (rule_in_range set) (λ x. ltb x 256) contents (contents_fit set h) rs h.all_rules)
    (all_flat_map (rule_in_range set) (λ x. ltb x 256) body (body-fits set h) rs h.all_rules))

-- Each number of a valid image is a byte.
pub bytes_fit : (b : List ℕ) → valid b ≡ true → below 256 b ≡ true
bytes_fit b e = rw (valid_encoding b e) at (image_fits (read b) (ranges (read b) (valid-in_range b e)))
