-- What the reader makes of a token and of a text is what the definitions make of them.
use Rattle.std.specs.Prelude.{ℕ, ◌≤◌, ◌≡◌, Result, Ok, Err, List}
use Rattle.parser.specs.declared.Reader.{Reader}
use Rattle.grammar.specs.Grammar.{Between, Reading, Taken}
use Rattle.grammar.specs.declared.TextError.{TextError}
use Rattle.grammar.specs.Read.{ReadText}
use Rattle.layout.specs.declared.Refusal.{Refusal}
use Rattle.layout.specs.Refusals.{number}
use Rattle.grammar.specs.Sound.{Sound}
use Rattle.parser.specs.Held.{bodies_size, Numbers, Keeps}

-- the numbers of a reader
abbrev pub numbers_in : Reader → Numbers
numbers_in r =
    record {
      place = r.place;
      symbols = r.symbols.count;
      words = r.words.count;
      events = r.events;
      rules = r.rules;
      bodies = r.bodies;
      left = r.left;
      side = r.side;
      kind = r.kind;
      marked = r.marked;
    }

-- the reader keeps the reading s
abbrev pub KeptIn : Reading → Reader → Type 0
KeptIn s r = Keeps s (numbers_in r) r.symbols.slots r.words.slots r.contents r.body_bytes

-- the code's answer to a token is the definition's, with these numbers and areas then
abbrev pub TakenIs : Taken → Result (Unit {0}) Refusal → Numbers → List (List ℕ) → List (List ℕ) → List (List ℕ) → List ℕ → Type 0
TakenIs (Ok s) (Ok r) n symbols words contents bodies = Keeps s n symbols words contents bodies
TakenIs (Ok s) (Err m) n symbols words contents bodies = ⊥
TakenIs (Err i) (Ok r) n symbols words contents bodies = ⊥
TakenIs (Err i) (Err m) n symbols words contents bodies = number m ≡ i

-- From whatever reading is kept in the reader, the answer and the reader then are what f makes of it.
abbrev pub Takes : (Reading → Taken) → Reader → Result (Unit {0}) Refusal → Reader → Type 0
Takes f r answer r' =
    (s : Reading) → Sound s → KeptIn s r
    → TakenIs (f s) answer (numbers_in r') r'.symbols.slots r'.words.slots r'.contents r'.body_bytes

-- how the reading of a text ended, with these numbers and areas then
abbrev pub FinishedIs :
    ReadText → Result (Unit {0}) TextError → Numbers → List (List ℕ) → List (List ℕ) → List (List ℕ) → List ℕ → Type 0
FinishedIs (Ok s) (Ok r) n symbols words contents bodies =
    Sound s × (s.place ≡ Between) × Keeps s n symbols words contents bodies
FinishedIs (Ok s) (Err e) n symbols words contents bodies = ⊥
FinishedIs (Err (i, p)) (Ok r) n symbols words contents bodies = ⊥
FinishedIs (Err (i, p)) (Err e) n symbols words contents bodies = (number e.refusal ≡ i) × (e.place ≡ p)

-- From whatever reading is kept in the reader, the answer and the reader then are how f ends.
abbrev pub Finishes : (Reading → ReadText) → Reader → Result (Unit {0}) TextError → Reader → Type 0
Finishes f r answer r' =
    (s : Reading) → Sound s → KeptIn s r
    → FinishedIs (f s) answer (numbers_in r') r'.symbols.slots r'.words.slots r'.contents r'.body_bytes

-- the numbers of an image are bytes, and what it is made of is inside its areas
pub record Small (r : Numbers) : Type 0 where
  pub symbols : r.symbols ≤ 32
  pub words : r.words ≤ 16
  pub events : r.events ≤ 32
  pub rules : r.rules ≤ 64
  pub bodies : r.bodies ≤ bodies_size
