-- Laws of compile: what it answers, and what it leaves in the area.
-- Assumes nothing.
use Prim.Native.Nat.{ℕ, ◌≤◌, ◌<◌}
use mathlib.Core.Path.{◌≡◌, refl}
use mathlib.Core.Bool.{true, false}
use Rattle.std.specs.Prelude.{Option, None, Some, Ok, Err}
use mathlib.Core.List.{List, [], ◌∷◌, ◌++◌, map}
use native.Mathlib.Omega.{arith}
use lib.ListN.{length, drop}
use lib.Seq.{take-append_seam, drop-append_seam}
use borrow.Author.Tests.{leb-true, lt-leb, le-leb}
use Rattle.rewriting.proofs.Lists.{length_over}
use Rattle.rewriting.specs.Lists.{over}
use Rattle.layout.specs.Image.{read, valid}
use Rattle.layout.specs.Refusals.{Check, refusal, refused_by}
use Rattle.layout.proofs.Refusals.{refusal_passed, refusal_rest, refusal-number}
use Rattle.layout.specs.Table.{table_of}
use Rattle.layout.specs.Compile.{compile_checks, compiled, compile_of, word_count, CompileEnded, CompileCompiles}

-- a refusal leaves the area
pub compile_refused : (image area : List ℕ) (n : ℕ) → refusal (compile_checks image area) ≡ Some n
    → compile_of image area ≡ record { answer = Err n; area = area }
unfolding compile_of compiled
compile_refused image area n e = rw e

-- what is not refused is a rule image whose table fits the area
pub accepted_valid : (image area : List ℕ) → refusal (compile_checks image area) ≡ None → valid image ≡ true
unfolding compile_checks
accepted_valid image area e = refusal_passed _ _ _ e

pub accepted_fits :
    (image area : List ℕ) → refusal (compile_checks image area) ≡ None → length (table_of (read image)) ≤ length area
unfolding compile_checks
accepted_fits image area e = leb-true _ _ (refusal_passed _ _ _ (refusal_rest _ _ _ e))

-- otherwise the table is written over the beginning of the area, and its number of words answered
pub compile_accepted : (image area : List ℕ) → refusal (compile_checks image area) ≡ None
    → compile_of image area ≡ record { answer = Ok (length (table_of (read image))); area = over (table_of (read image)) area }
unfolding compile_of compiled
compile_accepted image area e = rw e

-- the checks of compile have the numbers that document 01 gives them
check_numbers : (image area : List ℕ) → map (λ (c : Check). c.1) (compile_checks image area) ≡ 7 ∷ 8 ∷ []
unfolding compile_checks
check_numbers image area = refl

pub compile_theorem : CompileCompiles
unfolding compile_of compiled refused_by word_count over
compile_theorem image area = go (refusal (compile_checks image area)) refl
  where
    table : List ℕ
    table = table_of (read image)

    numbers : map (λ (c : Check). c.1) (compile_checks image area) ≡ 7 ∷ 8 ∷ []
    numbers = check_numbers image area

    go : (o : Option ℕ) → refusal (compile_checks image area) ≡ o → CompileEnded image area (compiled o table area)
    go (Some n) e =
        record {
          refused = λ k (p : Some n ≡ Some k).
              let q : n ≡ k = cc in
              (rw (← q) (rw numbers at (refusal-number (compile_checks image area) n e)), refl, refl);
          taken = λ (p : Some n ≡ None). let z : ◌≡◌ {A = ℕ} 0 1 = cc in absurd (omega arith);
          size = refl;
        }
    go None e =
        record {
          refused = λ k (p : None ≡ Some k). let z : ◌≡◌ {A = ℕ} 0 1 = cc in absurd (omega arith);
          taken = λ _. (
            accepted_valid image area e,
            refl,
            take-append_seam table (drop (length table) area),
            drop-append_seam table (drop (length table) area),
          );
          size = length_over table area (accepted_fits image area e);
        }

refusal_seven : (image area : List ℕ) → valid image ≡ false → refusal (compile_checks image area) ≡ Some 7
unfolding compile_checks refusal
refusal_seven image area e = rw e

refusal_eight :
    (image area : List ℕ) → valid image ≡ true → length area < length (table_of (read image))
    → refusal (compile_checks image area) ≡ Some 8
unfolding compile_checks refusal
refusal_eight image area e short = rw (e, lt-leb (length (table_of (read image))) (length area) short)

refusal-none :
    (image area : List ℕ) → valid image ≡ true → length (table_of (read image)) ≤ length area
    → refusal (compile_checks image area) ≡ None
unfolding compile_checks refusal
refusal-none image area e fits = rw (e, le-leb (length (table_of (read image))) (length area) fits)

-- Each of the three ways, by what the code found.
module _ (image area : List ℕ) where
  pub compile_seven : valid image ≡ false → (Err 7 ≡ (compile_of image area).answer) × (area ≡ (compile_of image area).area)
  compile_seven e = let c = compile_refused image area 7 (refusal_seven image area e) in (rw c, rw c)

  pub compile_eight : valid image ≡ true → length area < length (table_of (read image))
      → (Err 8 ≡ (compile_of image area).answer) × (area ≡ (compile_of image area).area)
  compile_eight e short = let c = compile_refused image area 8 (refusal_eight image area e short) in (rw c, rw c)

  pub compile_words :
      valid image ≡ true → length (table_of (read image)) ≤ length area → (words : ℕ) → words ≡ length (table_of (read image))
      → (table : List ℕ) → table ≡ table_of (read image)
      → (Ok words ≡ (compile_of image area).answer) × (table ++ drop words area ≡ (compile_of image area).area)
  unfolding over
  compile_words e fits words n table t =
      let c = compile_accepted image area (refusal-none image area e fits) in
      (rw (c, n), rw (c, n, t))
