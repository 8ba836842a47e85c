-- The place that a `match` on the code's place tells.
-- Assumes nothing.
use Rattle.std.specs.Prelude.{Err}
use Prim.Native.Nat.{ℕ}
use mathlib.Core.Path.{◌≡◌, refl}
use mathlib.Core.Bool.{Bool, false}
use mathlib.Core.List.{List}
use Rattle.rewriting.specs.Rules.{Right}
use Rattle.parser.specs.declared.Place as code
use Rattle.parser.specs.declared.Place.TheVariants as places
use Rattle.grammar.specs.Grammar.{
  Place,
  First,
  Events,
  Between,
  Marked,
  InLeft,
  InRight,
  Ending,
  Reading,
  word,
  arrow,
  mark,
  stop,
  complete,
}
use Rattle.parser.specs.Held.{place_of}

-- the places that the code calls so
abbrev pub At : code.Place → Place → Type 0
At places.First p = p ≡ First
At places.Events p = p ≡ Events
At places.Between p = p ≡ Between
At places.Marked p = p ≡ Marked
At places.Left p = (m : Bool) × (l : List ℕ) × (p ≡ InLeft m l)
At places.Right p = (m : Bool) × (l : List ℕ) × (v : List ℕ) × (p ≡ InRight m l v)
At places.Ending p = (m : Bool) × (l : List ℕ) × (r : Right) × (p ≡ Ending m l r)

at_own : (p : Place) → At (place_of p) p
unfolding place_of
at_own First = refl
at_own Events = refl
at_own Between = refl
at_own Marked = refl
at_own (InLeft m l) = (m, l, refl)
at_own (InRight m l v) = (m, l, v, refl)
at_own (Ending m l r) = (m, l, r, refl)

pub place_at : (q : code.Place) (p : Place) → place_of p ≡ q → At q p
place_at q p e = rw (← e) (at_own p)

-- An arm for several variants: the place is none of those that the other arms take.

pub word_elsewhere : (s : Reading) (x : List ℕ) (p : Place) → (place_of p ≡ places.Right → ⊥)
    → word s x p ≡ Err 4
unfolding word place_of
word_elsewhere s x First h = refl
word_elsewhere s x Events h = refl
word_elsewhere s x Between h = refl
word_elsewhere s x Marked h = refl
word_elsewhere s x (InLeft m l) h = refl
word_elsewhere s x (InRight m l v) h = absurd (h refl)
word_elsewhere s x (Ending m l r) h = refl

pub arrow_elsewhere : (s : Reading) (p : Place) → (place_of p ≡ places.Left → ⊥)
    → arrow s p ≡ Err 4
unfolding arrow place_of
arrow_elsewhere s First h = refl
arrow_elsewhere s Events h = refl
arrow_elsewhere s Between h = refl
arrow_elsewhere s Marked h = refl
arrow_elsewhere s (InLeft m l) h = absurd (h refl)
arrow_elsewhere s (InRight m l v) h = refl
arrow_elsewhere s (Ending m l r) h = refl

pub mark_elsewhere : (s : Reading) (p : Place) → (place_of p ≡ places.Between → ⊥)
    → mark s p ≡ Err 4
unfolding mark place_of
mark_elsewhere s First h = refl
mark_elsewhere s Events h = refl
mark_elsewhere s Between h = absurd (h refl)
mark_elsewhere s Marked h = refl
mark_elsewhere s (InLeft m l) h = refl
mark_elsewhere s (InRight m l v) h = refl
mark_elsewhere s (Ending m l r) h = refl

pub stop_elsewhere : (s : Reading) (p : Place) → (place_of p ≡ places.Events → ⊥) → (place_of p ≡ places.Right → ⊥)
    → (place_of p ≡ places.Ending → ⊥)
    → stop s p ≡ Err 4
unfolding stop place_of
stop_elsewhere s First he hr hn = refl
stop_elsewhere s Events he hr hn = absurd (he refl)
stop_elsewhere s Between he hr hn = refl
stop_elsewhere s Marked he hr hn = refl
stop_elsewhere s (InLeft m l) he hr hn = refl
stop_elsewhere s (InRight m l v) he hr hn = absurd (hr refl)
stop_elsewhere s (Ending m l r) he hr hn = absurd (hn refl)

pub incomplete : (p : Place) → (place_of p ≡ places.Between → ⊥) → complete p ≡ false
unfolding complete place_of
incomplete First h = refl
incomplete Events h = refl
incomplete Between h = absurd (h refl)
incomplete Marked h = refl
incomplete (InLeft m l) h = refl
incomplete (InRight m l v) h = refl
incomplete (Ending m l r) h = refl
