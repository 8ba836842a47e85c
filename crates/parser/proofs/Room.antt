-- Where the code writes, there is room: bounds of the numbers that it keeps of a sound reading.
-- Assumes nothing.
use Prim.Native.Nat.{ℕ, ◌+◌, ◌*◌, ◌≤◌, ◌<◌}
use mathlib.Core.Path.{◌≡◌, refl, sym, ap, ◌∙◌}
use mathlib.Core.Bool.{Bool}
use mathlib.Core.List.{List, [], ◌++◌, flat_map}
use native.Mathlib.Omega.{arith}
use lib.ListN.{length, length-append}
use Rattle.rewriting.specs.Rules.{Put, symbols_of}
use Rattle.rewriting.proofs.Ranges.{RuleRanges, rule_ranges}
use Rattle.layout.specs.Image.{body}
use Rattle.layout.proofs.Image.{length_bodies}
use Rattle.parser.specs.declared.Place.TheVariants as places
use Rattle.parser.specs.declared.Place as code
use Rattle.grammar.specs.Grammar.{Place, Between, Marked, Reading, rule_with, rule_set_of}
use Rattle.grammar.specs.Sound.{RuleBegun, Sound}
use Rattle.parser.specs.Held.{rule_at, place_of, side_of, Numbers, Held, LeadsTo, MayClose}
use Rattle.parser.proofs.Places.{place_at}
use Rattle.grammar.proofs.Sound.{place_sound}
use Rattle.parser.proofs.Keeping.{
  place_number,
  symbols_number,
  words_number,
  rules-number,
  bodies_at,
  side_at,
}

-- the bodies of the rules so far
pub old_bodies : (s : Reading) → Sound s → length (flat_map body s.rules) ≤ 16 * length s.rules
old_bodies s h = length_bodies (rule_set_of s) s.rules h.all_rules

module _ {r : Numbers} {a b c : List (List ℕ)} {d : List ℕ} (h : Held r a b c d) where
  place_told : (q : _) → r.place ≡ q → place_of h.reading.place ≡ q
  place_told q e = sym (place_number h.reading h.keeps.numbers) ∙ e

  pub few_symbols : r.symbols ≤ 32
  few_symbols = omega (arith, symbols_number h.reading h.keeps.numbers, h.sound.few_symbols)

  pub few_words : r.words ≤ 16
  few_words = omega (arith, words_number h.reading h.keeps.numbers, h.sound.few_words)

  -- a symbol more, of whichever side
  begun_room : (p : Place) → h.reading.place ≡ p → body (rule_at p) ≡ [] → r.rules < 64 → r.bodies < 1024
  begun_room p here empty few =
      let size : r.bodies ≡ length (flat_map body h.reading.rules) + 0 =
      bodies_at h.reading h.keeps.numbers here
      ∙ ap (λ (v : List ℕ). length (flat_map body h.reading.rules ++ v)) empty
      ∙ length-append (flat_map body h.reading.rules) []
      in
      omega (arith, rules-number h.reading h.keeps.numbers, old_bodies h.reading h.sound)

  pub first_room : r.place ≡ places.Between → r.rules < 64 → r.bodies < 1024
  unfolding rule_at body symbols_of
  first_room e few = begun_room Between (place_at places.Between h.reading.place (place_told places.Between e)) refl few

  pub marked_room : r.place ≡ places.Marked → r.rules < 64 → r.bodies < 1024
  unfolding rule_at body symbols_of
  marked_room e few = begun_room Marked (place_at places.Marked h.reading.place (place_told places.Marked e)) refl few

  pub left_room : r.place ≡ places.Left → r.side < 8 → r.bodies < 1024
  unfolding rule_at body symbols_of side_of
  left_room e few =
      let w = place_at places.Left h.reading.place (place_told places.Left e) in
      let m : Bool = w.0 in
      let l : List ℕ = w.1 in
      let begun : RuleBegun h.reading (rule_with m l (Put [])) = place_sound h.reading h.sound w.2 in
      let size : r.bodies ≡ length (flat_map body h.reading.rules) + length (l ++ []) =
      bodies_at h.reading h.keeps.numbers w.2 ∙ length-append (flat_map body h.reading.rules) (l ++ [])
      in
      omega (
        arith,
        rules-number h.reading h.keeps.numbers,
        old_bodies h.reading h.sound,
        begun.1,
        length-append l [],
        side_at h.reading h.keeps.numbers w.2,
      )

  pub right_room : r.place ≡ places.Right → r.side < 8 → r.bodies < 1024
  unfolding rule_at body symbols_of side_of
  right_room e few =
      let w = place_at places.Right h.reading.place (place_told places.Right e) in
      let m : Bool = w.0 in
      let l : List ℕ = w.1 in
      let v : List ℕ = w.2 in
      let begun : RuleBegun h.reading (rule_with m l (Put v)) = place_sound h.reading h.sound w.3 in
      let ranges : RuleRanges (rule_set_of h.reading) (rule_with m l (Put v)) =
      rule_ranges (rule_set_of h.reading) (rule_with m l (Put v)) begun.2
      in
      let size : r.bodies ≡ length (flat_map body h.reading.rules) + length (l ++ v) =
      bodies_at h.reading h.keeps.numbers w.3 ∙ length-append (flat_map body h.reading.rules) (l ++ v)
      in
      omega (
        arith,
        rules-number h.reading h.keeps.numbers,
        old_bodies h.reading h.sound,
        begun.1,
        ranges.short_left,
        length-append l v,
        side_at h.reading h.keeps.numbers w.3,
      )

  pub side_room : (q : code.Place) → LeadsTo r.place q → r.rules < 64 → r.side < 8 → r.bodies < 1024
  side_room q leads few low = go r.place refl leads
    where
      go : (p : code.Place) → r.place ≡ p → LeadsTo p q → r.bodies < 1024
      go places.First e l = absurd l
      go places.Events e l = absurd l
      go places.Between e l = first_room e few
      go places.Marked e l = marked_room e few
      go places.Left e l = left_room e low
      go places.Right e l = right_room e low
      go places.Ending e l = absurd l

  -- a rule begun is at most the last
  pub left_rules : r.place ≡ places.Left → r.rules < 64
  left_rules e =
      let w = place_at places.Left h.reading.place (place_told places.Left e) in
      let begun : RuleBegun h.reading (rule_with w.0 w.1 (Put [])) = place_sound h.reading h.sound w.2 in
      omega (arith, rules-number h.reading h.keeps.numbers, begun.1)

  pub right_rules : r.place ≡ places.Right → r.rules < 64
  right_rules e =
      let w = place_at places.Right h.reading.place (place_told places.Right e) in
      let begun : RuleBegun h.reading (rule_with w.0 w.1 (Put w.2)) = place_sound h.reading h.sound w.3 in
      omega (arith, rules-number h.reading h.keeps.numbers, begun.1)

  ending_rules : r.place ≡ places.Ending → r.rules < 64
  ending_rules e =
      let w = place_at places.Ending h.reading.place (place_told places.Ending e) in
      let begun : RuleBegun h.reading (rule_with w.0 w.1 w.2) = place_sound h.reading h.sound w.3 in
      omega (arith, rules-number h.reading h.keeps.numbers, begun.1)

  -- the contents of a rule more
  pub close_room : MayClose r.place r.side → r.rules < 64
  close_room may = go r.place refl may
    where
      go : (p : code.Place) → r.place ≡ p → MayClose p r.side → r.rules < 64
      go places.First e l = absurd l
      go places.Events e l = absurd l
      go places.Between e l = absurd l
      go places.Marked e l = absurd l
      go places.Left e l = absurd l
      go places.Right e l = right_rules e
      go places.Ending e l = ending_rules e
