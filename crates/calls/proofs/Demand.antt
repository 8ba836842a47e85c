-- What play gives back, by what its two checks say, and demand 3 of a list that was played.
-- Assumes nothing.
use Prim.Native.Nat.{ℕ}
use mathlib.Core.Path.{◌≡◌, refl, sym, ap, subst, ◌∙◌}
use mathlib.Core.Bool.{Bool, true, false, cond}
use Rattle.std.specs.Prelude.{None, Some}
use mathlib.Core.List.{List}
use native.Mathlib.Omega.{arith}
use Rattle.rewriting.specs.Lists.{prefix}
use Rattle.layout.specs.Image.{read, valid}
use Rattle.layout.specs.Refusals.{refusal}
use Rattle.layout.specs.Table.{table_of}
use Rattle.machine.specs.State.{empty}
use Rattle.machine.specs.Run.{no_counts}
use Rattle.machine.specs.Areas.{Monitor, head_of}
use Rattle.machine.specs.Calls.{Call, Fresh, sized, fresh_of, freshened}
use Rattle.machine.specs.Lent.{monitor_in}
use Rattle.monitor.specs.Lent.{lent}
use Rattle.machine.specs.Play.{Log, no_calls, play}
use Rattle.machine.specs.Promise.{Agrees, Kept, Promise}
use Rattle.machine.proofs.ListTheorem.{list_theorem}
use Rattle.calls.specs.declared.Played.{Played}
use Rattle.calls.specs.Encoding.{encodes, decoded_calls}
use Rattle.calls.specs.Played.{PlayEnded, played_from, logged, play_checks, play_ended, play_of, gave_back, DemandThreeOf}

module _ (capacity : ℕ) (image table bytes words numbers : List ℕ) where
  -- 30
  pub not_a_list : encodes numbers ≡ false
      → record { refused = Some 30; monitor = monitor_in (head_of empty) bytes words; accepted = 0; counts = no_counts }
      ≡ play_of capacity image table bytes words numbers
  unfolding play_of play_ended play_checks refusal
  not_a_list e = rw e

  module _ (list : encodes numbers ≡ true) (f : Fresh) (is : f ≡ fresh_of capacity bytes words) where
    -- 10, from fresh
    pub not-fresh : (n : ℕ) → f.refused ≡ Some n
        → record {
          refused = Some n;
          monitor = monitor_in (head_of empty) f.monitor.bytes f.monitor.words;
          accepted = 0;
          counts = no_counts;
        }
        ≡ play_of capacity image table bytes words numbers
    unfolding play_of play_ended play_checks fresh_of freshened refusal
    not-fresh n e = rw list (rw is (go (sized capacity bytes words) (ap (λ (x : Fresh). x.refused) (sym is) ∙ e)))
      where
        go : (b : Bool) → (freshened capacity bytes words (cond b None (Some 10))).refused ≡ Some n
            → record {
              refused = Some n;
              monitor = monitor_in (head_of empty) (freshened capacity bytes words (cond b None (Some 10))).monitor.bytes
                  (freshened capacity bytes words (cond b None (Some 10))).monitor.words;
              accepted = 0;
              counts = no_counts;
            }
            ≡ play_ended (cond b None (Some 10)) bytes words
            (play capacity image table (no_calls (freshened capacity bytes words (cond b None (Some 10))).monitor)
            (decoded_calls numbers))
        go true p = let z : ◌≡◌ {A = ℕ} 0 1 = cc in absurd (omega arith)
        go false p = rw p

    -- none: the list is played
    pub is_played : f.refused ≡ None
        → logged (play capacity image table (no_calls f.monitor) (decoded_calls numbers))
        ≡ play_of capacity image table bytes words numbers
    unfolding play_of play_ended play_checks fresh_of freshened refusal
    is_played e = rw list (rw is (go (sized capacity bytes words) (ap (λ (x : Fresh). x.refused) (sym is) ∙ e)))
      where
        go : (b : Bool) → (freshened capacity bytes words (cond b None (Some 10))).refused ≡ None
            → logged
            (play capacity image table (no_calls (freshened capacity bytes words (cond b None (Some 10))).monitor)
            (decoded_calls numbers))
            ≡ play_ended (cond b None (Some 10)) bytes words
            (play capacity image table (no_calls (freshened capacity bytes words (cond b None (Some 10))).monitor)
            (decoded_calls numbers))
        go true p = refl
        go false p = let z : ◌≡◌ {A = ℕ} 0 1 = cc in absurd (omega arith)

-- a promise for a valid image and its table is kept
kept : {capacity : ℕ} {image table : List ℕ} {m : Monitor} {calls : List Call} (v t : Bool) → v ≡ true → t ≡ true
    → Promise v t capacity image table m calls → Kept capacity image table m calls
kept true true p q k = k
kept true false p q k = let z : ◌≡◌ {A = ℕ} 0 1 = cc in absurd (omega arith)
kept false t p q k = let z : ◌≡◌ {A = ℕ} 0 1 = cc in absurd (omega arith)

pub demand :
    (capacity : ℕ) (image table bytes words : List ℕ) (calls : List Call) (r : Played) (bytes' words' : List ℕ) (f : Fresh)
    → f ≡ fresh_of capacity bytes words → f.refused ≡ None
    → played_from r bytes' words' ≡ logged (play capacity image table (no_calls f.monitor) calls)
    → DemandThreeOf capacity image table bytes words calls r bytes' words'
unfolding logged
demand capacity image table bytes words calls r bytes' words' f is fresh gives =
    record {
      log = g;
      logs = refl;
      given_back = back;
      accepted = ap (λ (x : PlayEnded). x.accepted) (sym e);
      agrees =
          λ v t.
          subst (λ (x : Log). Agrees (read image).rules x) back
          (kept (valid image) (prefix (table_of (read image)) table) v t promise).agrees;
      promise = promise;
    }
  where
    g : Log
    g = play capacity image table (no_calls (fresh_of capacity bytes words).monitor) calls

    promise :
        Promise (valid image) (prefix (table_of (read image)) table) capacity image table
        (fresh_of capacity bytes words).monitor calls
    promise = list_theorem capacity image table bytes words calls (ap (λ (x : Fresh). x.refused) (sym is) ∙ fresh)

    e : played_from r bytes' words' ≡ logged g
    e =
        gives
        ∙ ap (λ (x : Fresh). logged (play capacity image table (no_calls x.monitor) calls)) is

    monitor : g.monitor ≡ lent r.head bytes' words'
    monitor = ap (λ (x : PlayEnded). x.monitor) (sym e)

    counts : g.counts ≡ r.counts
    counts = ap (λ (x : PlayEnded). x.counts) (sym e)

    back : g ≡ gave_back g r bytes' words'
    back = λ i. record { monitor = monitor i; events = g.events; answers = g.answers; counts = counts i }
