-- How the code keeps a reading: numbers, two areas of name slots, the contents and the bodies of the rules.
use Rattle.std.specs.Prelude.{ℕ, ◌+◌, ◌≡◌, Bool, true, length, map, take}
use mathlib.Core.List.{List, [], ◌∷◌, ◌++◌, flat_map}
use Rattle.rewriting.specs.Lists.{prefix}
use Rattle.rewriting.specs.Rules.{Right, Put, Close, Rule, ◌⇒◌, at_start}
use Rattle.layout.specs.Image as Image
use Rattle.layout.specs.Image.{length_or_verdict, body}
use Rattle.parser.specs.declared.Place as code
use Rattle.parser.specs.declared.Place.TheVariants as places
use Rattle.parser.specs.declared.RightKind.{RightKind}
use Rattle.parser.specs.declared.RightKind.TheVariants as kinds
use Rattle.tokens.specs.Numbered.{slots_of}
use Rattle.grammar.specs.Grammar.{Place, First, Events, Between, Marked, InLeft, InRight, Ending, Reading, rule_with}
use Rattle.grammar.specs.Sound.{Sound}

-- the most rules, and the bytes that their bodies need: sixteen symbols for each
abbrev pub rules_most : ℕ
rules_most = 64

abbrev pub bodies_size : ℕ
bodies_size = 1024

-- the rule that a place is in, as far as it has been read
unfoldable pub rule_at : Place → Rule
rule_at First = [] ⇒ Put []
rule_at Events = [] ⇒ Put []
rule_at Between = [] ⇒ Put []
rule_at Marked = at_start ([] ⇒ Put [])
rule_at (InLeft m l) = rule_with m l (Put [])
rule_at (InRight m l v) = rule_with m l (Put v)
rule_at (Ending m l r) = rule_with m l r

-- the place as the code names it
unfoldable pub place_of : Place → code.Place
place_of First = places.First
place_of Events = places.Events
place_of Between = places.Between
place_of Marked = places.Marked
place_of (InLeft m l) = places.Left
place_of (InRight m l v) = places.Right
place_of (Ending m l r) = places.Ending

-- the length of the left side, once it is closed; and of the side that is open, or the verdict
unfoldable pub left_of : Place → ℕ
left_of First = 0
left_of Events = 0
left_of Between = 0
left_of Marked = 0
left_of (InLeft m l) = 0
left_of (InRight m l v) = length l
left_of (Ending m l r) = length l

unfoldable pub side_of : Place → ℕ
side_of First = 0
side_of Events = 0
side_of Between = 0
side_of Marked = 0
side_of (InLeft m l) = length l
side_of (InRight m l v) = length v
side_of (Ending m l r) = length_or_verdict r

-- the kind of a right side as the code names it
unfoldable pub kind_of : Right → RightKind
kind_of (Put v) = kinds.Put
kind_of (Close n) = kinds.Close

-- its byte in the contents
unfoldable pub byte_of : RightKind → ℕ
byte_of kinds.Put = 0
byte_of kinds.Close = 1

-- the bodies of the rules, and of the one begun
abbrev pub bodies_of : Reading → List ℕ
bodies_of s = flat_map body s.rules ++ body (rule_at s.place)

-- What the code keeps of a reading beside the areas: the place, how many symbols, words, events and rules there are, how many
-- bytes their bodies have, and of the rule begun the length of its left side, that of the side that is open or the verdict, what
-- its right side is, and whether it has the mark.
pub record Numbers : Type 0 where
  pub place : code.Place
  pub symbols : ℕ
  pub words : ℕ
  pub events : ℕ
  pub rules : ℕ
  pub bodies : ℕ
  pub left : ℕ
  pub side : ℕ
  pub kind : RightKind
  pub marked : Bool

-- the numbers of a reading
unfoldable pub numbers_of : Reading → Numbers
numbers_of s =
    record {
      place = place_of s.place;
      symbols = length s.symbols;
      words = length s.words;
      events = s.events;
      rules = length s.rules;
      bodies = length (bodies_of s);
      left = left_of s.place;
      side = side_of s.place;
      kind = kind_of (rule_at s.place).right;
      marked = (rule_at s.place).marked;
    }

-- The code keeps the reading s: its numbers, the slots of symbols and of words, contents and bodies.
pub record Keeps (s : Reading) (r : Numbers) (symbols words contents : List (List ℕ)) (bodies : List ℕ) : Type 0 where
  pub numbers : r ≡ numbers_of s
  pub symbol-slots : symbols ≡ slots_of 32 s.symbols
  pub word-slots : words ≡ slots_of 16 s.words
  pub contents_begin : take (length s.rules) contents ≡ map Image.contents s.rules
  pub contents_size_lem : length contents ≡ rules_most
  pub bodies_begin : prefix (bodies_of s) bodies ≡ true
  pub bodies_size_lem : length bodies ≡ bodies_size

-- some sound reading is kept so
pub record Held (r : Numbers) (symbols words contents : List (List ℕ)) (bodies : List ℕ) : Type 0 where
  pub reading : Reading
  pub sound : Sound reading
  pub keeps : Keeps reading r symbols words contents bodies

-- a rule's first name may stand at this place
abbrev pub MayBegin : code.Place → Type 0
MayBegin places.First = ⊥
MayBegin places.Events = ⊥
MayBegin places.Between = Unit {0}
MayBegin places.Marked = Unit {0}
MayBegin places.Left = ⊥
MayBegin places.Right = ⊥
MayBegin places.Ending = ⊥

-- behind a name of a side at this place stands the place q
abbrev pub LeadsTo : code.Place → code.Place → Type 0
LeadsTo places.First q = ⊥
LeadsTo places.Events q = ⊥
LeadsTo places.Between q = q ≡ places.Left
LeadsTo places.Marked q = q ≡ places.Left
LeadsTo places.Left q = q ≡ places.Left
LeadsTo places.Right q = q ≡ places.Right
LeadsTo places.Ending q = ⊥

-- a rule may end at this place, with so many symbols in the side that is open
abbrev pub MayClose : code.Place → ℕ → Type 0
MayClose places.First n = ⊥
MayClose places.Events n = ⊥
MayClose places.Between n = ⊥
MayClose places.Marked n = ⊥
MayClose places.Left n = ⊥
MayClose places.Right n = n ≡ 0 → ⊥
MayClose places.Ending n = Unit {0}

-- A side one symbol longer: behind the place p with this side, `to` gives the place that the code calls q.
pub record Lengthens (p : Place) (side : List ℕ) (to : List ℕ → Place) (q : code.Place) : Type 0 where
  pub size : side_of p ≡ length side
  pub left : (a : ℕ) → left_of (to (side ++ a ∷ [])) ≡ left_of p
  pub longer : (a : ℕ) → side_of (to (side ++ a ∷ [])) ≡ length side + 1
  pub kinds : (a : ℕ) → kind_of (rule_at (to (side ++ a ∷ []))).right ≡ kind_of (rule_at p).right
  pub marks : (a : ℕ) → (rule_at (to (side ++ a ∷ []))).marked ≡ (rule_at p).marked
  pub more : (a : ℕ) → body (rule_at (to (side ++ a ∷ []))) ≡ body (rule_at p) ++ a ∷ []
  pub called : (a : ℕ) → place_of (to (side ++ a ∷ [])) ≡ q

-- both sides of the rule begun are known: the code's numbers are those of its contents
pub record Closed (p : Place) : Type 0 where
  pub left : left_of p ≡ length (rule_at p).left
  pub right : side_of p ≡ length_or_verdict (rule_at p).right
