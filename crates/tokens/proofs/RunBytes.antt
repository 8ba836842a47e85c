-- The bytes of a run and their classes: the loop over the bytes of a name.
-- Assumes nothing.
use Prim.Native.Nat.{ℕ, suc, ◌+◌, ◌-◌, ◌≤◌, ◌<◌}
use mathlib.Core.Path.{◌≡◌, refl, sym, ap, ◌∙◌}
use mathlib.Core.Bool.{Bool, true, false, and-false}
use Rattle.std.specs.Prelude.{Option, None}
use mathlib.Core.List.{List, [], ◌∷◌}
use native.Mathlib.Omega.{arith}
use native.Mathlib.Numerals.{add-one}
use lib.Dec.{eqb, ltb}
use Rattle.std.proofs.lemmas.Bool.{false≢true}
use lib.ListN.{length, get_or, take, drop, length-drop, drop_of_length-le, get_or-eq_default}
use lib.Seq.{drop-cons, drop-drop}
use borrow.Author.Rules.{part_to_end}
use borrow.Author.Tests.{ltb-true, ltb-false, eqb-true}
use Rattle.rewriting.specs.Lists.{all}
use Rattle.tokens.specs.declared.Kind.{Kind}
use Rattle.grammar.specs.Tokens.{separator, letter, digit, name_byte, unbroken, token_of}
use Rattle.tokens.specs.declared.bytes.Class.{Class}
use Rattle.tokens.specs.declared.bytes.Class.TheVariants as classes
use Rattle.tokens.specs.Classes.{class_of, name_pair}
use Rattle.tokens.specs.Scanned.{lead, kind_of, token_as, Named}
use Rattle.tokens.proofs.Classes.{class_separator, class_name, class_other, name-class}
use Rattle.rewriting.proofs.Lists.{and_left, and_right}
use Rattle.grammar.proofs.Runs.{unbroken_le, unbroken-take, rest_of, stop_of}
use Rattle.tokens.proofs.TokenOf.{name_of, told}

-- the byte at a place, and a space behind the last
byte_here : (t : List ℕ) (i : ℕ) → i < length t → get_or t i 0 ≡ get_or t i 32
byte_here t i h =
    let e : get_or t i 0 ∷ drop (suc i) t ≡ get_or t i 32 ∷ drop (suc i) t = sym (drop-cons t i 0 h) ∙ drop-cons t i 32 h in
    ap (λ (l : List ℕ). get_or l 0 0) e

-- Two bytes that may be in a name.
module _ (t : List ℕ) (i : ℕ) where
  pub pair_short : length t ≤ i + 1 → false ≡ name_pair t i
  unfolding name_pair name_byte letter digit
  pair_short h = rw (get_or-eq_default t 32 {n = i + 1} h) (sym (and-false (name_byte (get_or t i 32))))

  module _ (inside : i + 1 < length t) where
    pub pair_other : name_byte (get_or t i 0) ≡ false → false ≡ name_pair t i
    unfolding name_pair
    pair_other e = rw (← byte_here t i (omega arith), e)

    pub pair_second : name_byte (get_or t i 0) ≡ true → name_byte (get_or t (i + 1) 0) ≡ name_pair t i
    unfolding name_pair
    pair_second e = rw (← byte_here t i (omega arith), e, ← byte_here t (i + 1) inside)

  module _ (both : name_pair t i ≡ true) where
    pub pair_first_named : class_of (get_or t i 32) ≡ classes.Name
    unfolding name_pair
    pair_first_named = name-class (get_or t i 32) (and_left (name_byte (get_or t i 32)) (name_byte (get_or t (i + 1) 32)) both)

    pub pair_second_named : class_of (get_or t (i + 1) 32) ≡ classes.Name
    unfolding name_pair
    pair_second_named =
        name-class (get_or t (i + 1) 32) (and_right (name_byte (get_or t i 32)) (name_byte (get_or t (i + 1) 32)) both)

-- A separator ends a run; any other byte is in it.
module _ (text : List ℕ) (i : ℕ) where
  pub rest_none : separator (get_or text i 32) ≡ true → rest_of text i ≡ []
  unfolding unbroken
  rest_none e = go (ltb i (length text)) refl
    where
      go : (h : Bool) → ltb i (length text) ≡ h → rest_of text i ≡ []
      go true h = rw (drop-cons text i 32 (ltb-true i (length text) h), e)
      go false h = rw (drop_of_length-le text (ltb-false i (length text) h))

  pub rest_inside : separator (get_or text i 32) ≡ false → i < length text
  unfolding separator
  rest_inside e = go (ltb i (length text)) refl
    where
      go : (h : Bool) → ltb i (length text) ≡ h → i < length text
      go true h = ltb-true i (length text) h
      go false h =
          let space : get_or text i 32 ≡ 32 = get_or-eq_default text 32 {n = i} (ltb-false i (length text) h) in
          absurd (false≢true (sym (rw space at e)))

  pub rest_byte : separator (get_or text i 32) ≡ false → rest_of text i ≡ get_or text i 32 ∷ rest_of text (i + 1)
  unfolding unbroken
  rest_byte e = rw (add-one, drop-cons text i 32 (rest_inside e), e)

-- What stands before a name is in its run: the name is what is left of the run behind it.
abbrev Leads : List ℕ → Type 0
Leads t =
    (unbroken (drop (lead t) t) ≡ name_of (unbroken t)) × (length (unbroken t) ≡ lead t + length (unbroken (drop (lead t) t)))

leads_dash : (t : List ℕ) → Leads (45 ∷ t)
unfolding lead unbroken separator
leads_dash [] = (refl, refl)
leads_dash (y ∷ u) = arrow (eqb 62 y) refl
  where
    other : (h : Bool) → separator y ≡ h → eqb 62 y ≡ false → Leads (45 ∷ y ∷ u)
    other true e f = rw (f, e) (refl, omega arith)
    other false e f = rw (f, e, f) (refl, omega arith)

    arrow : (h : Bool) → eqb 62 y ≡ h → Leads (45 ∷ y ∷ u)
    arrow true e = rw (← eqb-true 62 y e) (refl, omega arith)
    arrow false e = other (separator y) refl e

leads : (t : List ℕ) → Leads t
unfolding lead unbroken separator
leads [] = (refl, refl)
leads (b ∷ t) = hash (eqb b 35) refl
  where
    other :
        (h : Bool) → separator b ≡ h → eqb b 35 ≡ false → eqb b 46 ≡ false → eqb b 94 ≡ false → eqb b 45 ≡ false
        → Leads (b ∷ t)
    other true e f g m k = rw (f, g, m, k, e) (refl, omega arith)
    other false e f g m k = rw (f, g, m, k, e, f, g, m, k) (refl, omega arith)

    dash : (h : Bool) → eqb b 45 ≡ h → eqb b 35 ≡ false → eqb b 46 ≡ false → eqb b 94 ≡ false → Leads (b ∷ t)
    dash true e f g m = rw (eqb-true b 45 e) (leads_dash t)
    dash false e f g m = other (separator b) refl f g m e

    mark : (h : Bool) → eqb b 94 ≡ h → eqb b 35 ≡ false → eqb b 46 ≡ false → Leads (b ∷ t)
    mark true e f g = rw (eqb-true b 94 e) (refl, omega arith)
    mark false e f g = dash (eqb b 45) refl f g e

    stop : (h : Bool) → eqb b 46 ≡ h → eqb b 35 ≡ false → Leads (b ∷ t)
    stop true e f = rw (eqb-true b 46 e) (refl, omega arith)
    stop false e f = mark (eqb b 94) refl f e

    hash : (h : Bool) → eqb b 35 ≡ h → Leads (b ∷ t)
    hash true e = rw (eqb-true b 35 e) (refl, omega arith)
    hash false e = stop (eqb b 46) refl e

-- The name of the run that begins at `start` begins at `from`.
pub record Leading (text : List ℕ) (start from : ℕ) : Type 0 where
  pub name : rest_of text from ≡ name_of (rest_of text start)
  pub stop : stop_of text start ≡ stop_of text from
  pub behind : start ≤ from
  pub within : from ≤ length text

-- as it is counted in the part that begins at `start`
pub leading :
    (text : List ℕ) (start n : ℕ) → start ≤ length text → n ≡ lead (take (length text - start) (drop start text))
    → Leading text start (start + n)
leading text start n inside found =
    let t : List ℕ = drop start text in
    let counted : n ≡ lead t = rw part_to_end at found in
    let rest : unbroken (drop (lead t) t) ≡ rest_of text (start + n) = rw counted (ap unbroken (drop-drop (lead t) start text)) in
    let size = (leads t).1 in
    record {
      name = sym rest ∙ (leads t).0;
      stop = omega (arith, counted, size, ap length rest);
      behind = omega arith;
      within = omega (arith, counted, size, unbroken_le t, length-drop start text);
    }

-- The bytes from `from` to `end` may be in a name: those behind decide.
pub record Scanning (text : List ℕ) (start from end : ℕ) : Type 0 where
  pub stop : stop_of text start ≡ stop_of text end
  pub passed : all name_byte (rest_of text from) ≡ all name_byte (rest_of text end)
  pub behind : from ≤ end
  pub within : end ≤ length text

pub scanning_first : {text : List ℕ} {start from : ℕ} → Leading text start from → Scanning text start from from
scanning_first l = record { stop = l.stop; passed = refl; behind = omega arith; within = l.within }

-- The next byte, by its class.
module _
    {text : List ℕ} {start from end : ℕ} {class : Class} (s : Scanning text start from end)
    (looked : class ≡ class_of (get_or text end 32)) where
  -- it may be in a name
  module _ (named : class ≡ classes.Name) where
    name : (separator (get_or text end 32) ≡ false) × (name_byte (get_or text end 32) ≡ true)
    name = class_name (get_or text end 32) (sym looked ∙ named)

    pub scanning_inside : end < length text
    scanning_inside = rest_inside text end name.0

    pub scanning_next : Scanning text start from (end + 1)
    scanning_next =
        let byte = rest_byte text end name.0 in
        record {
          stop = s.stop ∙ omega (arith, ap length byte);
          passed = s.passed ∙ rw (byte, name.1);
          behind = omega (arith, s.behind);
          within = omega (arith, scanning_inside);
        }

  -- a separator: here the run ends
  module _ (apart : class ≡ classes.Separator) where
    none_left : rest_of text end ≡ []
    none_left = rest_none text end (class_separator (get_or text end 32) (sym looked ∙ apart))

    pub scanning_stop : end ≡ stop_of text start
    scanning_stop = omega (arith, s.stop, ap length none_left)

    pub scanning_passed : all name_byte (rest_of text from) ≡ true
    scanning_passed = s.passed ∙ rw none_left

  -- neither
  pub scanning_breaks : class ≡ classes.Other → all name_byte (rest_of text from) ≡ false
  scanning_breaks other =
      let byte = class_other (get_or text end 32) (sym looked ∙ other) in
      s.passed ∙ rw (rest_byte text end byte.0, byte.1)

-- The next two bytes may be in a name.
module _ {text : List ℕ} {start from end : ℕ} (s : Scanning text start from end) (both : name_pair text end ≡ true) where
  one : Scanning text start from (end + 1)
  one = scanning_next s refl (pair_first_named text end both)

  pub pair_inside : end + 1 < length text
  pair_inside = scanning_inside one refl (pair_second_named text end both)

  pub pair_next : Scanning text start from (end + 2)
  pair_next =
      let two : end + 1 + 1 ≡ end + 2 = omega arith in
      rw two at (scanning_next one refl (pair_second_named text end both))

-- a part of a text, as a slice of it is handed on
abbrev pub bytes_of : List ℕ → ℕ → ℕ → List ℕ
bytes_of text i end = take (end - i) (drop i text)

bytes_rest : (text : List ℕ) (i end : ℕ) → end ≡ stop_of text i → bytes_of text i end ≡ rest_of text i
bytes_rest text i end e =
    let size : end - i ≡ length (rest_of text i) = omega (arith, e) in
    rw size (sym (unbroken-take (drop i text)))

module _ {text : List ℕ} {start from : ℕ} (l : Leading text start from) where
  -- a byte of the name may not be in one
  pub run_no_token : all name_byte (rest_of text from) ≡ false → token_of (rest_of text start) ≡ None
  run_no_token e =
      let by = (told (rest_of text start)).0 in
      rw (← l.name, e) at by

  -- all may: which token the run is, and that its name is a name
  module _ (end : ℕ) (stop : end ≡ stop_of text start) (k : Option Kind) (kind : k ≡ kind_of (bytes_of text start end))
      (passed : all name_byte (rest_of text from) ≡ true) where
    kind_rest : k ≡ kind_of (rest_of text start)
    kind_rest = kind ∙ ap kind_of (bytes_rest text start end stop)

    named : bytes_of text from end ≡ rest_of text from
    named = bytes_rest text from end (stop ∙ l.stop)

    pub run_token : token_of (rest_of text start) ≡ token_as k (bytes_of text from end)
    run_token =
        let by = (told (rest_of text start)).0 in
        rw (named, kind_rest) (rw (← l.name, passed) at by)

    pub run-named : Named k (bytes_of text from end)
    run-named =
        let by = (told (rest_of text start)).1 in
        rw (named, kind_rest) ((rw (← l.name) at by) passed)
