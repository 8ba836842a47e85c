-- The loop over the tokens: the whole reading is the rest of the reading from here.
-- Assumes nothing.
use Prim.Native.Nat.{ℕ, ◌≤◌}
use mathlib.Core.Path.{◌≡◌, refl, ap, ◌∙◌}
use mathlib.Core.Bool.{Bool, true, false, cond}
use Rattle.std.specs.Prelude.{Option, None, Result, Ok, Err}
use mathlib.Core.List.{List, []}
use native.Mathlib.Omega.{arith}
use lib.ListN.{length, drop}
use Rattle.grammar.specs.Tokens.{Token, token_of, runs_from, runs}
use Rattle.grammar.specs.Grammar.{Between, Reading, Taken, after_run, complete}
use Rattle.grammar.specs.declared.TextError.{TextError}
use Rattle.layout.specs.declared.Refusal.{Refusal}
use Rattle.grammar.specs.Read.{ReadText, ended, or_broken, read_runs}
use Rattle.grammar.specs.Sound.{Sound}
use Rattle.parser.specs.Held.{Numbers, Keeps}
use Rattle.parser.specs.Reads.{TakenIs, FinishedIs}
use Rattle.grammar.proofs.Runs.{rest_of, Next}
use Rattle.grammar.proofs.Sound.{sound_run}

-- what is no refusal
pub not_refused : (r : Result (Unit {0}) Refusal) → ((m : Refusal) → r ≡ Err m → ⊥) → r ≡ Ok tt
not_refused (Ok x) h = refl
not_refused (Err m) h = absurd (h m refl)

-- The end of the text.
module _ {s : Reading} {r : Numbers} {a b c : List (List ℕ)} {d : List ℕ} (size : ℕ) (sound : Sound s) (k : Keeps s r a b c d)
  where
    pub ended_good : s.place ≡ Between → FinishedIs (ended size s) (Ok tt) r a b c d
    unfolding ended complete
    ended_good here =
        let e : ended size s ≡ Ok s = ap (λ (b : Bool). cond {A = ReadText} b (Ok s) (Err (4, size))) (ap complete here) in
        rw e (sound, here, k)

    pub ended_early : complete s.place ≡ false
        → FinishedIs (ended size s) (Err (record { refusal = Refusal.Misplaced; place = size })) r a b c d
    unfolding ended
    ended_early e = rw e (refl, refl)

-- what is read before the place `at` is kept, and the rest decides the whole
pub record Going
    (whole : ReadText) (text : List ℕ) (r : Numbers) (symbols words contents : List (List ℕ)) (bodies : List ℕ) (at : ℕ)
    : Type 0 where
  pub reading : Reading
  pub sound : Sound reading
  pub keeps : Keeps reading r symbols words contents bodies
  pub inside : at ≤ length text
  pub rest : whole ≡ read_runs (length text) reading (runs_from true at (drop at text))

pub going_first :
    (text : List ℕ) (s : Reading) (r : Numbers) (a b c : List (List ℕ)) (d : List ℕ) → Sound s → Keeps s r a b c d
    → Going (read_runs (length text) s (runs text)) text r a b c d 0
unfolding runs
going_first text s r a b c d sound k =
    record { reading = s; sound = sound; keeps = k; inside = omega arith; rest = refl }

module _ {whole : ReadText} {text : List ℕ} {r : Numbers} {a b c : List (List ℕ)} {d : List ℕ} {at : ℕ}
    (g : Going whole text r a b c d at) where
  -- no run is left
  pub going_ended :
      (answer : Result (Unit {0}) TextError) → runs_from true at (drop at text) ≡ []
      → FinishedIs (ended (length text) g.reading) answer r a b c d → FinishedIs whole answer r a b c d
  unfolding read_runs
  going_ended answer e h =
      rw (g.rest ∙ ap (read_runs (length text) g.reading) e) h

  module _ {start end : ℕ} (n : Next text at start end) where
    -- the run decides, or the rest behind it
    step :
        whole
        ≡ or_broken start (λ s. read_runs (length text) s (runs_from true end (drop end text)))
        (after_run g.reading (token_of (rest_of text start)))
    unfolding read_runs
    step = g.rest ∙ ap (read_runs (length text) g.reading) n.these

    pub no_token : token_of (rest_of text start) ≡ None
        → FinishedIs whole (Err (record { refusal = Refusal.NoToken; place = start })) r a b c d
    unfolding or_broken after_run
    no_token e =
        let broken : whole ≡ Err (3, start) =
        step
        ∙ ap
        (λ (o : Option Token).
        or_broken start (λ s. read_runs (length text) s (runs_from true end (drop end text))) (after_run g.reading o))
        e
        in
        rw broken (refl, refl)

    module _ (r' : Numbers) (a' b' c' : List (List ℕ)) (d' : List ℕ) (answer : Result (Unit {0}) Refusal) (o : Option Token)
        (same : token_of (rest_of text start) ≡ o)
        (is : TakenIs (after_run g.reading o) answer r' a' b' c' d') where
      after : (t : Taken) → after_run g.reading o ≡ t
          → whole ≡ or_broken start (λ s. read_runs (length text) s (runs_from true end (drop end text))) t
      after t e =
          step
          ∙ ap
          (λ (t : Taken). or_broken start (λ s. read_runs (length text) s (runs_from true end (drop end text))) t)
          (ap (after_run g.reading) same ∙ e)

      pub broken : (m : Refusal) → answer ≡ Err m
          → FinishedIs whole (Err (record { refusal = m; place = start })) r' a' b' c' d'
      unfolding or_broken
      broken m told = go (after_run g.reading o) refl (rw told at is)
        where
          go : (t : Taken) → after_run g.reading o ≡ t → TakenIs t (Err m) r' a' b' c' d'
              → FinishedIs whole (Err (record { refusal = m; place = start })) r' a' b' c' d'
          go (Ok s) e h = absurd h
          go (Err i) e h = rw (after (Err i) e) (h, refl)

      pub going_on : answer ≡ Ok tt → Going whole text r' a' b' c' d' end
      unfolding or_broken
      going_on told = go (after_run g.reading o) refl (rw told at is)
        where
          go : (t : Taken) → after_run g.reading o ≡ t → TakenIs t (Ok tt) r' a' b' c' d' → Going whole text r' a' b' c' d' end
          go (Ok s) e h =
              record {
                reading = s;
                sound = sound_run g.reading (rest_of text start) g.sound s (ap (after_run g.reading) same ∙ e);
                keeps = h;
                inside = n.within;
                rest = after (Ok s) e;
              }
          go (Err i) e h = absurd h
