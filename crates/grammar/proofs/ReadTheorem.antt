-- `read_theorem`: the reader refuses by a number of document 01 and changes nothing lent, or it writes the image and the
-- names of a good text.
-- Assumes nothing.
use Prim.Native.Nat.{ℕ, suc, ◌+◌, ◌≤◌}
use mathlib.Core.Path.{◌≡◌, refl}
use mathlib.Core.Bool.{Bool, true, false, cond, ◌&&◌}
use Rattle.std.specs.Prelude.{Option, None, Some, Ok, Err}
use mathlib.Core.List.{List, [], ◌∷◌, Memᴰ}
use native.Mathlib.Omega.{arith}
use lib.Dec.{leb, ltb}
use lib.ListN.{length, take, drop}
use lib.Seq.{take-append_seam, drop-append_seam}
use borrow.Author.Tests.{leb-true}
use Rattle.rewriting.specs.Lists.{same, over}
use Rattle.rewriting.proofs.Lists.{and_left, and_right, length_over}
use Rattle.layout.specs.Image.{image_of}
use Rattle.layout.specs.Refusals.{refusal}
use Rattle.layout.proofs.Image.{read_image}
use Rattle.grammar.specs.Tokens.{Token, Name, Word, Arrow, Stop, Mark, token_of, separator, unbroken, runs_from, runs}
use Rattle.grammar.specs.Names.{number_of, Numbered, numbered}
use Rattle.grammar.specs.Grammar.{
  Place,
  First,
  Events,
  Between,
  Marked,
  InLeft,
  InRight,
  Ending,
  Reading,
  Taken,
  events_word,
  epsilon_word,
  begun,
  with_symbol,
  symbol,
  event,
  side_symbol,
  first_symbol,
  name,
  with_verdict,
  right_word,
  word,
  arrow,
  mark,
  close_events,
  close_rule,
  stop,
  after_token,
  after_run,
  complete,
  rule_set_of,
}
use Rattle.grammar.specs.Read.{
  ReadText,
  ended,
  or_broken,
  read_runs,
  read_text,
  names_of,
  read_checks,
  written,
  unless,
  read_of,
  refused_by,
  refusal_place,
  image_length,
  ReadEnded,
  ReadReads,
}
use Rattle.grammar.proofs.Sound.{cond_either, read-valid, read_image_short, read_length_names}

-- the numbers by which a text breaks
abbrev Broken : ℕ → Type 0
Broken n = Memᴰ n (3 ∷ 4 ∷ 5 ∷ 6 ∷ []) × (3 ≤ n)

by_3 : Broken 3
by_3 = (Memᴰ.head refl, omega arith)

by_4 : Broken 4
by_4 = (Memᴰ.tail (Memᴰ.head refl), omega arith)

by_5 : Broken 5
by_5 = (Memᴰ.tail (Memᴰ.tail (Memᴰ.head refl)), omega arith)

by_6 : Broken 6
by_6 = (Memᴰ.tail (Memᴰ.tail (Memᴰ.tail (Memᴰ.head refl))), omega arith)

-- What a token makes of a reading: where the text breaks, it does so by one of them.
abbrev BreaksBy : Taken → Type 0
BreaksBy (Ok s) = Unit {0}
BreaksBy (Err n) = Broken n

by_symbol : (s : Reading) (x : List ℕ) (to : ℕ → Place) → BreaksBy (symbol s x to)
unfolding symbol with_symbol
by_symbol s x to = go (numbered 32 s.symbols x)
  where
    go : (o : Option Numbered) → BreaksBy (with_symbol s to o)
    go None = by_5
    go (Some n) = tt

by_event : (s : Reading) (x : List ℕ) (o : Option ℕ) → BreaksBy (event s x o)
unfolding event
by_event s x None = by_symbol s x (λ i. Events)
by_event s x (Some i) = by_6

by_side : (s : Reading) (x side : List ℕ) (to : List ℕ → Place) → BreaksBy (side_symbol s x side to)
unfolding side_symbol
by_side s x side to = cond_either BreaksBy (ltb (length side) 8) _ _ (λ _. by_symbol s x _) (λ _. by_5)

by_first_symbol : (s : Reading) (x : List ℕ) (m : Bool) → BreaksBy (first_symbol s x m)
unfolding first_symbol
by_first_symbol s x m =
    cond_either BreaksBy (ltb (length s.rules) 64) _ _ (λ _. by_side s x [] (InLeft m)) (λ _. by_5)

by_name : (s : Reading) (x : List ℕ) (p : Place) → BreaksBy (name s x p)
unfolding name
by_name s x First = cond_either BreaksBy (same x events_word) _ _ (λ _. tt) (λ _. by_4)
by_name s x Events = by_event s x (number_of s.symbols x)
by_name s x Between = by_first_symbol s x false
by_name s x Marked = by_first_symbol s x true
by_name s x (InLeft m l) = by_side s x l (InLeft m)
by_name s x (InRight m l v) = by_side s x v (InRight m l)
by_name s x (Ending m l r) = by_4

by_verdict : (s : Reading) (m : Bool) (l : List ℕ) (o : Option Numbered) → BreaksBy (with_verdict s m l o)
unfolding with_verdict
by_verdict s m l None = by_5
by_verdict s m l (Some n) = tt

by_word : (s : Reading) (x : List ℕ) (p : Place) → BreaksBy (word s x p)
unfolding word right_word
by_word s x First = by_4
by_word s x Events = by_4
by_word s x Between = by_4
by_word s x Marked = by_4
by_word s x (InLeft m l) = by_4
by_word s x (InRight m l []) =
    cond_either BreaksBy (same x epsilon_word) _ _ (λ _. tt) (λ _. by_verdict s m l (numbered 16 s.words x))
by_word s x (InRight m l (a ∷ v)) = by_4
by_word s x (Ending m l r) = by_4

by_arrow : (s : Reading) (p : Place) → BreaksBy (arrow s p)
unfolding arrow
by_arrow s First = by_4
by_arrow s Events = by_4
by_arrow s Between = by_4
by_arrow s Marked = by_4
by_arrow s (InLeft m l) = tt
by_arrow s (InRight m l v) = by_4
by_arrow s (Ending m l r) = by_4

by_mark : (s : Reading) (p : Place) → BreaksBy (mark s p)
unfolding mark
by_mark s First = by_4
by_mark s Events = by_4
by_mark s Between = tt
by_mark s Marked = by_4
by_mark s (InLeft m l) = by_4
by_mark s (InRight m l v) = by_4
by_mark s (Ending m l r) = by_4

by_events : (s : Reading) (names : List (List ℕ)) → BreaksBy (close_events s names)
unfolding close_events
by_events s [] = by_4
by_events s (x ∷ names) = tt

by_stop : (s : Reading) (p : Place) → BreaksBy (stop s p)
unfolding stop close_rule
by_stop s First = by_4
by_stop s Events = by_events s s.symbols
by_stop s Between = by_4
by_stop s Marked = by_4
by_stop s (InLeft m l) = by_4
by_stop s (InRight m l []) = by_4
by_stop s (InRight m l (a ∷ v)) = tt
by_stop s (Ending m l r) = tt

by_run : (s : Reading) (o : Option Token) → BreaksBy (after_run s o)
unfolding after_run after_token
by_run s None = by_3
by_run s (Some (Name x)) = by_name s x s.place
by_run s (Some (Word x)) = by_word s x s.place
by_run s (Some Arrow) = by_arrow s s.place
by_run s (Some Stop) = by_stop s s.place
by_run s (Some Mark) = by_mark s s.place

-- A text that breaks does so by one of these numbers, inside the text or at its end.
abbrev BreaksAt : ℕ → ReadText → Type 0
BreaksAt size (Ok s) = Unit {0}
BreaksAt size (Err (n, place)) = Broken n × (place ≤ size)

by_runs :
    (size : ℕ) (s : Reading) (apart : Bool) (i : ℕ) (t : List ℕ) → i + length t ≤ size
    → BreaksAt size (read_runs size s (runs_from apart i t))
unfolding runs_from read_runs ended or_broken
by_runs size s apart i [] h = cond_either (BreaksAt size) (complete s.place) _ _ (λ _. tt) (λ _. (by_4, omega arith))
by_runs size s apart i (b ∷ t) h =
    separated (separator b) apart (λ s' apart'. by_runs size s' apart' (suc i) t (omega arith))
  where
    Rest : Type 0
    Rest = (s' : Reading) (apart' : Bool) → BreaksAt size (read_runs size s' (runs_from apart' (suc i) t))

    taken : (k : Taken) → BreaksBy k → Rest → BreaksAt size (or_broken i (λ s'. read_runs size s' (runs_from false (suc i) t)) k)
    taken (Ok s') by rest = rest s' false
    taken (Err n) by rest = (by, omega arith)

    separated : (c d : Bool) → Rest
        → BreaksAt size
        (read_runs size s
        (cond c (runs_from true (suc i) t)
        (cond d (record { place = i; bytes = unbroken (b ∷ t) } ∷ runs_from false (suc i) t) (runs_from false (suc i) t))))
    separated true d rest = rest s true
    separated false true rest = taken (after_run s (token_of (unbroken (b ∷ t)))) (by_run s (token_of (unbroken (b ∷ t)))) rest
    separated false false rest = rest s false

by_text : (text : List ℕ) → BreaksAt (length text) (read_text text)
unfolding read_text runs
by_text text = by_runs (length text) begun true 0 text (omega arith)

-- what is written stands at the beginning of an area, and the rest of it stays
module _ (v area : List ℕ) (n : ℕ) (size : length v ≡ n) where
  over_there : take n (over v area) ≡ v
  unfolding over
  over_there = rw (← size) (take-append_seam v (drop (length v) area))

  over_beyond : drop n (over v area) ≡ drop n area
  unfolding over
  over_beyond = rw (← size) (drop-append_seam v (drop (length v) area))

pub read_theorem : ReadReads
unfolding read_of read_checks refusal unless written refused_by refusal_place image_length
read_theorem text image names =
    go (leb (length text) 16384) (leb 1284 (length image) && leb 1200 (length names)) refl refl (read_text text) refl
    (by_text text)
  where
    refused : (n place : ℕ) → Memᴰ n (1 ∷ 2 ∷ 3 ∷ 4 ∷ 5 ∷ 6 ∷ []) → place ≤ length text → (n ≤ 2 → place ≡ 0)
        → ReadEnded text image names (written (Err (n, place)) image names)
    refused n place known inside zero =
        record {
          refused = λ k (p : Some n ≡ Some k).
              let q : n ≡ k = cc in
              rw (← q)
              (record {
                number-known = known;
                place_inside = inside;
                place_zero = zero;
                no_image = refl;
                image_stays = refl;
                names_stay = refl;
              });
          taken = λ (p : Some n ≡ None). let z : ◌≡◌ {A = ℕ} 0 1 = cc in absurd (omega arith);
          size = (refl, refl);
        }

    good : (s : Reading) → length text ≤ 16384 → 1284 ≤ length image → 1200 ≤ length names → read_text text ≡ Ok s
        → ReadEnded text image names (written (Ok s) image names)
    good s short image_room names_room e =
        let i : List ℕ = image_of (rule_set_of s) in
        let few = read_image_short text s e in
        let n = read_length_names text s e in
        record {
          refused = λ k (p : None ≡ Some k). let z : ◌≡◌ {A = ℕ} 0 1 = cc in absurd (omega arith);
          taken = λ _.
              record {
                short_text = short;
                reading = s;
                good_text = e;
                rules-valid = read-valid text s e;
                rules_back = read_image (rule_set_of s);
                image_told = refl;
                image_short = few;
                image_there = over_there i image (length i) refl;
                image_beyond = over_beyond i image (length i) refl;
                names_there = over_there (names_of s) names 1200 n;
                names_beyond = over_beyond (names_of s) names 1200 n;
              };
          size = (length_over i image (omega arith), length_over (names_of s) names (omega arith));
        }

    go : (a b : Bool) → leb (length text) 16384 ≡ a → (leb 1284 (length image) && leb 1200 (length names)) ≡ b
        → (r : ReadText) → read_text text ≡ r → BreaksAt (length text) r
        → ReadEnded text image names (written (unless (refusal ((a, 1) ∷ (b, 2) ∷ [])) r) image names)
    go false b p q r e h = refused 1 0 (Memᴰ.head refl) (omega arith) (λ _. refl)
    go true false p q r e h = refused 2 0 (Memᴰ.tail (Memᴰ.head refl)) (omega arith) (λ _. refl)
    go true true p q (Ok s) e h =
        good s (leb-true (length text) 16384 p)
        (leb-true 1284 (length image) (and_left (leb 1284 (length image)) (leb 1200 (length names)) q))
        (leb-true 1200 (length names) (and_right (leb 1284 (length image)) (leb 1200 (length names)) q))
        e
    go true true p q (Err (n, place)) e h =
        refused n place (Memᴰ.tail (Memᴰ.tail h.0.0)) h.1 (λ (le : n ≤ 2). absurd (omega (arith, h.0.1)))
