-- What the code writes when a text is good, and what it answers, are what `read_of` says.
-- Assumes nothing.
use Prim.Native.Nat.{ℕ, ◌+◌, ◌*◌, ◌≤◌, ◌<◌}
use mathlib.Core.Path.{◌≡◌, refl, sym, ap, ◌∙◌}
use Rattle.std.specs.Prelude.{Some, Result, Ok, Err, map}
use mathlib.Core.List.{List, [], ◌∷◌, ◌++◌, append-nil, flat_map}
use native.Mathlib.Omega.{arith}
use lib.ListN.{length, set, take, drop, length-append}
use lib.Seq.{sets-eq, paste, take-append_seam, drop-append-add, drop-drop, length-take-le, take_all}
use borrow.Author.Tests.{le-leb, lt-leb}
use Rattle.rewriting.specs.Lists.{over}
use Rattle.rewriting.specs.Rules.{symbols_of, Rule}
use Rattle.layout.specs.Image.{contents, body, image_of}
use Rattle.layout.specs.Refusals.{refusal}
use Rattle.layout.proofs.Image.{length-contents, length_image}
use Rattle.grammar.specs.declared.TextError.{TextError}
use Rattle.layout.specs.Refusals.{number}
use Rattle.grammar.specs.Grammar.{Place, Between, Reading, rule_set_of}
use Rattle.grammar.specs.Read.{ReadText, read_text, names_of, Outcome, read_checks, written, unless, read_of}
use Rattle.grammar.specs.Sound.{EventsKnown, Sound}
use Rattle.parser.specs.Held.{rule_at, bodies_of, Numbers, Keeps}
use Rattle.parser.specs.Reads.{FinishedIs, Small}
use Rattle.grammar.proofs.Sound.{place_sound}
use Rattle.parser.proofs.Keeping.{
  prefix-take,
  symbols_number,
  words_number,
  events_number,
  rules-number,
  bodies_number,
  symbol_bytes,
  word_bytes,
}
use Rattle.parser.proofs.Room.{old_bodies}

-- One more piece behind what is written over the beginning of an area.
pub over-paste : (p area s : List ℕ) (at n : ℕ) → at ≡ length p → n ≤ length s
    → paste (over p area) at s n ≡ over (p ++ take n s) area
unfolding over
over-paste p area s at n e fits =
    let first : take at (p ++ drop (length p) area) ≡ p = rw e (take-append_seam p (drop (length p) area)) in
    let size : length (p ++ take n s) ≡ length p + n = rw (length-append, length-take-le n s fits) in
    let behind : drop (at + n) (p ++ drop (length p) area) ≡ drop (length (p ++ take n s)) area =
    rw (e, size) (drop-append-add p (drop (length p) area) n ∙ drop-drop n (length p) area)
    in
    rw (first, behind)

pub over_front : (p area : List ℕ) (n : ℕ) → n ≡ length p → p ++ drop n area ≡ over p area
unfolding over
over_front p area n e = rw e

pub over_four : (area : List ℕ) (w x y z : ℕ) → 4 ≤ length area
    → set (set (set (set area 0 w) 1 x) 2 y) 3 z ≡ over (w ∷ x ∷ y ∷ z ∷ []) area
unfolding over
over_four area w x y z room = sets-eq (w ∷ x ∷ y ∷ z ∷ []) area 0 room

-- the contents of rules, one behind another
contents_flat : (rules : List Rule) → flat_map (λ (x : List ℕ). x) (map contents rules) ≡ flat_map contents rules
unfolding flat_map
contents_flat [] = refl
contents_flat (r ∷ rules) = ap (λ (v : List ℕ). contents r ++ v) (contents_flat rules)

-- The image.
module _ {s : Reading} {r : Numbers} {a b c : List (List ℕ)} {d : List ℕ} (sound : Sound s) (here : s.place ≡ Between)
    (k : Keeps s r a b c d) (image : List ℕ) (room : 1284 ≤ length image) where
  bodies_there : bodies_of s ≡ flat_map body s.rules
  unfolding rule_at body symbols_of
  bodies_there =
      ap (λ (p : Place). flat_map body s.rules ++ body (rule_at p)) here ∙ append-nil (flat_map body s.rules)

  known : EventsKnown s
  known = place_sound s sound here

  pub small : Small r
  small =
      record {
        symbols = omega (arith, symbols_number s k.numbers, sound.few_symbols);
        words = omega (arith, words_number s k.numbers, sound.few_words);
        events = omega (arith, events_number s k.numbers, known.1, sound.few_symbols);
        rules = omega (arith, rules-number s k.numbers, sound.few_rules);
        bodies =
            omega (arith, bodies_number s k.numbers, ap length bodies_there, old_bodies s sound, sound.few_rules);
      }

  pub image_size : 4 + 4 * r.rules + r.bodies ≡ length (image_of (rule_set_of s))
  unfolding rule_set_of
  image_size =
      omega (
        arith,
        length_image (rule_set_of s),
        rules-number s k.numbers,
        bodies_number s k.numbers,
        ap length bodies_there,
      )

  pub image_written :
      paste
      (paste
      (set (set (set (set image 0 r.symbols) 1 r.rules) 2 r.words) 3 r.events)
      4
      (flat_map (λ (x : List ℕ). x) (take r.rules c))
      (4 * r.rules))
      (4 + 4 * r.rules)
      (take r.bodies d)
      r.bodies
      ≡ over (image_of (rule_set_of s)) image
  unfolding image_of rule_set_of
  image_written =
      let head : List ℕ = r.symbols ∷ r.rules ∷ r.words ∷ r.events ∷ [] in
      let n : 4 * r.rules ≡ length (flat_map contents s.rules) =
      omega (arith, rules-number s k.numbers, length-contents s.rules)
      in
      let m : r.bodies ≡ length (bodies_of s) = bodies_number s k.numbers in
      let all_contents : flat_map (λ (x : List ℕ). x) (take r.rules c) ≡ flat_map contents s.rules =
      ap (λ (n : ℕ). flat_map (λ (x : List ℕ). x) (take n c)) (rules-number s k.numbers)
      ∙ ap (flat_map (λ (x : List ℕ). x)) k.contents_begin ∙ contents_flat s.rules
      in
      let all_bodies : take r.bodies d ≡ flat_map body s.rules =
      prefix-take (bodies_of s) d r.bodies m k.bodies_begin ∙ bodies_there
      in
      let size : length (flat_map body s.rules) ≡ r.bodies = omega (arith, m, ap length bodies_there) in
      let whole_contents : take (4 * r.rules) (flat_map contents s.rules) ≡ flat_map contents s.rules =
      take_all (4 * r.rules) (flat_map contents s.rules) (omega (arith, n))
      in
      let whole_bodies : take r.bodies (flat_map body s.rules) ≡ flat_map body s.rules =
      take_all r.bodies (flat_map body s.rules) (omega (arith, size))
      in
      let third : 4 + 4 * r.rules ≡ length (head ++ flat_map contents s.rules) = omega arith in
      rw (
        over_four image r.symbols r.rules r.words r.events (omega arith),
        all_contents,
        over-paste head image (flat_map contents s.rules) 4 (4 * r.rules) refl (omega (arith, n)),
        whole_contents,
        all_bodies,
        over-paste (head ++ flat_map contents s.rules) image (flat_map body s.rules) (4 + 4 * r.rules) r.bodies third
            (omega (arith, size)),
        whole_bodies,
      )
      (ap (λ (l : List ℕ). over l image) numbers_there)
    where
      numbers_there :
          (r.symbols ∷ r.rules ∷ r.words ∷ r.events ∷ []) ++ flat_map contents s.rules ++ flat_map body s.rules
          ≡ image_of (rule_set_of s)
      numbers_there =
          let p = symbols_number s k.numbers in
          let q = rules-number s k.numbers in
          let v = words_number s k.numbers in
          let w = events_number s k.numbers in
          cc

-- The name slots.
pub names_written : (symbols words names : List ℕ) → length symbols ≡ 800 → length words ≡ 400
    → paste (symbols ++ drop 800 names) 800 words 400 ≡ over (symbols ++ words) names
names_written symbols words names m n =
    let all_words : take 400 words ≡ words = take_all 400 words (omega arith) in
    rw (
      over_front symbols names 800 (sym m),
      over-paste symbols names words 800 400 (sym m) (omega arith),
      all_words,
    )

-- The answers.
module _ (text image names : List ℕ) where
  refused_with : (n : ℕ) → refusal (read_checks text image names) ≡ Some n
      → read_of text image names ≡ record { answer = Err (n, 0); image = image; names = names }
  unfolding read_of unless written
  refused_with n e = rw e

  pub refused_1 : 16384 < length text → read_of text image names ≡ record { answer = Err (1, 0); image = image; names = names }
  unfolding read_checks refusal
  refused_1 long = refused_with 1 (rw (lt-leb (length text) 16384 long))

  pub refused_image : length text ≤ 16384 → length image < 1284
      → read_of text image names ≡ record { answer = Err (2, 0); image = image; names = names }
  unfolding read_checks refusal
  refused_image fits short = refused_with 2 (rw (le-leb (length text) 16384 fits, lt-leb 1284 (length image) short))

  pub refused_names : length text ≤ 16384 → 1284 ≤ length image → length names < 1200
      → read_of text image names ≡ record { answer = Err (2, 0); image = image; names = names }
  unfolding read_checks refusal
  refused_names fits room short =
      refused_with 2 (rw (le-leb (length text) 16384 fits, le-leb 1284 (length image) room, lt-leb 1200 (length names) short))

  module _ (fits : length text ≤ 16384) (image_room : 1284 ≤ length image) (names_room : 1200 ≤ length names) where
    passed : read_of text image names ≡ written (read_text text) image names
    unfolding read_of read_checks refusal unless
    passed = rw (le-leb (length text) 16384 fits, le-leb 1284 (length image) image_room, le-leb 1200 (length names) names_room)

    pub text_bad : (r : Numbers) (a b c : List (List ℕ)) (d : List ℕ) (e : TextError) (answer : Result (Unit {0}) TextError)
        → answer ≡ Err e → FinishedIs (read_text text) answer r a b c d
        → read_of text image names ≡ record { answer = Err (number e.refusal, e.place); image = image; names = names }
    unfolding written
    text_bad r a b c d e answer told h = passed ∙ go (read_text text) (rw told at h)
      where
        go : (t : ReadText) → FinishedIs t (Err e) r a b c d
            → written t image names ≡ record { answer = Err (number e.refusal, e.place); image = image; names = names }
        go (Ok s) g = absurd g
        go (Err (m, at)) g = λ i. record { answer = Err (sym g.0 i, sym g.1 i); image = image; names = names }

    -- a good text, with what is kept of it
    pub record IsGood (r : Numbers) (a b c : List (List ℕ)) (d : List ℕ) : Type 0 where
      pub reading : Reading
      pub read_as : read_text text ≡ Ok reading
      pub sound : Sound reading
      pub complete : reading.place ≡ Between
      pub keeps : Keeps reading r a b c d

    pub text_good : (r : Numbers) (a b c : List (List ℕ)) (d : List ℕ) (answer : Result (Unit {0}) TextError) → answer ≡ Ok tt
        → FinishedIs (read_text text) answer r a b c d → IsGood r a b c d
    text_good r a b c d answer told h = go (read_text text) refl (rw told at h)
      where
        go : (t : ReadText) → read_text text ≡ t → FinishedIs t (Ok tt) r a b c d → IsGood r a b c d
        go (Ok s) e g = record { reading = s; read_as = e; sound = g.0; complete = g.1; keeps = g.2 }
        go (Err (m, at)) e g = absurd g

    pub good_outcome : {r : Numbers} {a b c : List (List ℕ)} {d : List ℕ} (g : IsGood r a b c d)
        → read_of text image names
        ≡ record {
          answer = Ok (length (image_of (rule_set_of g.reading)));
          image = over (image_of (rule_set_of g.reading)) image;
          names = over (names_of g.reading) names;
        }
    unfolding written
    good_outcome g = passed ∙ ap (λ (t : ReadText). written t image names) g.read_as

    pub good_names : {r : Numbers} {a b c : List (List ℕ)} {d : List ℕ} (g : IsGood r a b c d)
        → flat_map (λ (x : List ℕ). x) a ++ flat_map (λ (x : List ℕ). x) b ≡ names_of g.reading
    unfolding names_of
    good_names g =
        rw (symbol_bytes g.keeps, word_bytes g.keeps)

-- an outcome, part by part
pub parts : (o : Outcome) (answer : Result ℕ (ℕ × ℕ)) (image names : List ℕ)
    → o ≡ record { answer = answer; image = image; names = names } → (answer ≡ o.answer) × ((image ≡ o.image) × (names ≡ o.names))
parts o answer image names e =
    (sym (ap (λ (o : Outcome). o.answer) e), (sym (ap (λ (o : Outcome). o.image) e), sym (ap (λ (o : Outcome). o.names) e)))
