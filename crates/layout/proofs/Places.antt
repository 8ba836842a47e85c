-- Where a rule's contents and sides stand in a valid image, and what the bytes there are.
-- Assumes nothing.
use Prim.Native.Nat.{ℕ, zero, suc, ◌+◌, ◌*◌, ◌-◌, ◌≤◌, ◌<◌}
use mathlib.Core.Path.{◌≡◌, refl, sym, ap, ◌∙◌}
use mathlib.Core.Bool.{true}
use mathlib.Core.List.{List, [], ◌∷◌, ◌++◌, flat_map}
use native.Mathlib.Omega.{arith}
use native.Mathlib.Nat.{le_of_suc-le-suc, not-suc-le-zero}
use lib.ListN.{length, get_or, take, length-append, get_or-append}
use lib.Seq.{get_or-append-add, get_or-drop}
use Rattle.rewriting.specs.Rules.{Right, Put, Close, symbols_of, Rule, ◌⇒◌, RuleSet, rule}
use Rattle.rewriting.proofs.Lists.{get_or-flat_map}
use Rattle.layout.specs.Image.{kind, length_or_verdict, mark_byte, contents, body, image_of, read, valid}
use Rattle.layout.specs.Places.{left_at, right_at, right_side_of}
use Rattle.layout.specs.declared.RightSide.{RightSide}
use Rattle.layout.proofs.Image.{valid_encoding, length-contents, length_image, drop_image}

-- the bodies before rule i, one more, and those behind
bodies_next :
    (rs : List Rule) (i : ℕ) → i < length rs
    → length (flat_map body (take (suc i) rs)) ≡ length (flat_map body (take i rs)) + length (body (rule rs i))
unfolding flat_map rule
bodies_next [] i h = absurd (not-suc-le-zero h)
bodies_next (r ∷ rs) zero h = simp length-append (omega arith)
bodies_next (r ∷ rs) (suc i) h =
    let ih = bodies_next rs i (le_of_suc-le-suc h) in
    simp length-append (omega arith)

bodies_within :
    (rs : List Rule) (i : ℕ) → i < length rs
    → length (flat_map body (take i rs)) + length (body (rule rs i)) ≤ length (flat_map body rs)
unfolding flat_map rule
bodies_within [] i h = absurd (not-suc-le-zero h)
bodies_within (r ∷ rs) zero h = simp length-append (omega arith)
bodies_within (r ∷ rs) (suc i) h =
    let ih = bodies_within rs i (le_of_suc-le-suc h) in
    simp length-append (omega arith)

-- symbol j of the body of rule i, among all bodies
bodies_at :
    (rs : List Rule) (i j : ℕ) → i < length rs → j < length (body (rule rs i))
    → get_or (flat_map body rs) (length (flat_map body (take i rs)) + j) 0 ≡ get_or (body (rule rs i)) j 0
unfolding flat_map rule
bodies_at [] i j h k = absurd (not-suc-le-zero h)
bodies_at (r ∷ rs) zero j h k =
    let here : 0 + j ≡ j = omega arith in
    rw here (get_or-append (body r) (flat_map body rs) 0 j k)
bodies_at (r ∷ rs) (suc i) j h k =
    let on : length (body r ++ flat_map body (take i rs)) + j ≡ length (body r) + (length (flat_map body (take i rs)) + j) =
    simp length-append (omega arith)
    in
    rw (on, get_or-append-add) (bodies_at rs i j (le_of_suc-le-suc h) k)

-- The first body stands behind the contents, and each other behind the one before it.
pub left_first : (set : RuleSet) → left_at set 0 ≡ 4 + 4 * length set.rules
unfolding left_at flat_map
left_first set = omega arith

pub left_next :
    (set : RuleSet) (i : ℕ) → i < length set.rules
    → left_at set (suc i) ≡ left_at set i + length (body (rule set.rules i))
unfolding left_at
left_next set i h = omega (arith, bodies_next set.rules i h)

pub body_left : (r : Rule) → length (body r) ≡ length r.left + length (symbols_of r.right)
unfolding body
body_left r = length-append r.left (symbols_of r.right)

-- the contents lie within a valid image
pub contents_within : (b : List ℕ) → valid b ≡ true → 4 + 4 * length (read b).rules ≤ length b
contents_within b e = omega (arith, ap length (valid_encoding b e), length_image (read b))

-- the bodies are what follows the contents
pub bodies_behind :
    (b : List ℕ) → valid b ≡ true → length (flat_map body (read b).rules) ≡ length b - (4 + 4 * length (read b).rules)
bodies_behind b e = omega (arith, ap length (valid_encoding b e), length_image (read b))

-- and so do the 4 bytes of rule i
pub contents_inside : (b : List ℕ) → valid b ≡ true → (i : ℕ) → i < length (read b).rules → 7 + 4 * i < length b
contents_inside b e i h = omega (arith, contents_within b e)

-- A body lies within a valid image.
pub left_within :
    (b : List ℕ) → valid b ≡ true → (i : ℕ) → i < length (read b).rules
    → left_at (read b) i + length (body (rule (read b).rules i)) ≤ length b
unfolding left_at
left_within b e i h =
    omega (arith, ap length (valid_encoding b e), length_image (read b), bodies_within (read b).rules i h)

-- symbol j of the body of rule i
pub body-symbol :
    (b : List ℕ) → valid b ≡ true → (i j : ℕ) → i < length (read b).rules → j < length (body (rule (read b).rules i))
    → get_or b (left_at (read b) i + j) 0 ≡ get_or (body (rule (read b).rules i)) j 0
unfolding left_at
body-symbol b e i j h k = ap (λ (l : List ℕ). get_or l (start + before + j) 0) (sym (valid_encoding b e)) ∙ there
  where
    set : RuleSet
    set = read b

    start : ℕ
    start = 4 + 4 * length set.rules

    before : ℕ
    before = length (flat_map body (take i set.rules))

    there : get_or (image_of set) (start + before + j) 0 ≡ get_or (body (rule set.rules i)) j 0
    there =
        let group : start + before + j ≡ start + (before + j) = omega arith in
        ap (λ (n : ℕ). get_or (image_of set) n 0) group
        ∙ sym (get_or-drop start (image_of set) (before + j) 0)
        ∙ ap (λ (l : List ℕ). get_or l (before + j) 0) (drop_image set)
        ∙ bodies_at set.rules i j h k

-- Symbol j of a left side, and of a right side that is a string.
pub left_symbol :
    (b : List ℕ) → valid b ≡ true → (i j : ℕ) → i < length (read b).rules → j < length (rule (read b).rules i).left
    → get_or b (left_at (read b) i + j) 0 ≡ get_or (rule (read b).rules i).left j 0
unfolding body
left_symbol b e i j h k =
    let r : Rule = rule (read b).rules i in
    body-symbol b e i j h (omega (arith, body_left r)) ∙ get_or-append r.left (symbols_of r.right) 0 j k

pub right_symbol :
    (b : List ℕ) → valid b ≡ true → (i j : ℕ) → i < length (read b).rules
    → j < length (symbols_of (rule (read b).rules i).right)
    → get_or b (right_at (read b) i + j) 0 ≡ get_or (symbols_of (rule (read b).rules i).right) j 0
unfolding right_at body
right_symbol b e i j h k =
    let r : Rule = rule (read b).rules i in
    let group : left_at (read b) i + length r.left + j ≡ left_at (read b) i + (length r.left + j) = omega arith in
    ap (λ (n : ℕ). get_or b n 0) group
    ∙ body-symbol b e i (length r.left + j) h (omega (arith, body_left r))
    ∙ get_or-append-add r.left (symbols_of r.right) j 0

-- byte a of the contents of rule i
pub contents_byte :
    (b : List ℕ) → valid b ≡ true → (i a : ℕ) → i < length (read b).rules → a < 4
    → get_or b (4 + (i * 4 + a)) 0 ≡ get_or (contents (rule (read b).rules i)) a 0
unfolding image_of contents rule
contents_byte b e i a h k =
    let set : RuleSet = read b in
    let within : i * 4 + a < length (flat_map contents set.rules) = omega (arith, length-contents set.rules) in
    ap (λ (l : List ℕ). get_or l (4 + (i * 4 + a)) 0) (sym (valid_encoding b e))
    ∙ get_or-append-add (set.symbols ∷ length set.rules ∷ set.verdicts ∷ set.events ∷ [])
    (flat_map contents set.rules ++ flat_map body set.rules) (i * 4 + a) 0
    ∙ get_or-append (flat_map contents set.rules) (flat_map body set.rules) 0 (i * 4 + a) within
    ∙ get_or-flat_map contents 4 (λ r. refl) set.rules i a ([] ⇒ Put []) 0 h k

-- The contents of rule i: left length, kind, right length or verdict, mark.
module _ (b : List ℕ) (e : valid b ≡ true) (i : ℕ) (h : i < length (read b).rules) where
  pub contents_left : get_or b (4 + 4 * i) 0 ≡ length (rule (read b).rules i).left
  unfolding contents
  contents_left =
      let n : 4 + 4 * i ≡ 4 + (i * 4 + 0) = omega arith in
      ap (λ (m : ℕ). get_or b m 0) n ∙ contents_byte b e i 0 h (omega arith)

  pub contents-kind : get_or b (5 + 4 * i) 0 ≡ kind (rule (read b).rules i).right
  unfolding contents
  contents-kind =
      let n : 5 + 4 * i ≡ 4 + (i * 4 + 1) = omega arith in
      ap (λ (m : ℕ). get_or b m 0) n ∙ contents_byte b e i 1 h (omega arith)

  pub contents_right : get_or b (6 + 4 * i) 0 ≡ length_or_verdict (rule (read b).rules i).right
  unfolding contents
  contents_right =
      let n : 6 + 4 * i ≡ 4 + (i * 4 + 2) = omega arith in
      ap (λ (m : ℕ). get_or b m 0) n ∙ contents_byte b e i 2 h (omega arith)

  pub contents-mark : get_or b (7 + 4 * i) 0 ≡ mark_byte (rule (read b).rules i).marked
  unfolding contents
  contents-mark =
      let n : 7 + 4 * i ≡ 4 + (i * 4 + 3) = omega arith in
      ap (λ (m : ℕ). get_or b m 0) n ∙ contents_byte b e i 3 h (omega arith)

-- Byte 1 is the number of rules; the other three are read as they stand.
pub header_rules : (b : List ℕ) → valid b ≡ true → get_or b 1 0 ≡ length (read b).rules
unfolding image_of
header_rules b e = ap (λ (l : List ℕ). get_or l 1 0) (sym (valid_encoding b e))

pub header_symbols : (b : List ℕ) → get_or b 0 0 ≡ (read b).symbols
unfolding read
header_symbols b = refl

pub header_verdicts : (b : List ℕ) → get_or b 2 0 ≡ (read b).verdicts
unfolding read
header_verdicts b = refl

pub header_events : (b : List ℕ) → get_or b 3 0 ≡ (read b).events
unfolding read
header_events b = refl

-- A right side by its kind and its length or verdict.
pub right_close : (x : Right) → kind x ≡ 1 → right_side_of x ≡ RightSide.Close (length_or_verdict x)
unfolding kind length_or_verdict right_side_of
right_close (Put v) e = absurd (omega arith)
right_close (Close v) e = refl

pub right_put : (x : Right) → (kind x ≡ 1 → ⊥) → right_side_of x ≡ RightSide.Put (length_or_verdict x)
unfolding kind length_or_verdict right_side_of
right_put (Put v) e = refl
right_put (Close v) e = absurd (e refl)

-- how many symbols it puts in
pub put_length : (x : Right) (n : ℕ) → right_side_of x ≡ RightSide.Put n → length (symbols_of x) ≡ n
unfolding symbols_of right_side_of
put_length (Put v) n e = cc
put_length (Close v) n e = let z : ◌≡◌ {A = ℕ} 0 1 = cc in absurd (omega arith)

pub close_length : (x : Right) (n : ℕ) → right_side_of x ≡ RightSide.Close n → length (symbols_of x) ≡ 0
unfolding symbols_of right_side_of
close_length (Put v) n e = let z : ◌≡◌ {A = ℕ} 0 1 = cc in absurd (omega arith)
close_length (Close v) n e = refl
