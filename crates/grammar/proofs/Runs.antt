-- The runs of a text, one by one: the next run after a place, or none.
-- Assumes nothing.
use Prim.Native.Nat.{ℕ, suc, ◌+◌, ◌-◌, ◌≤◌, ◌<◌}
use mathlib.Core.Path.{◌≡◌, refl, sym, ap, ◌∙◌}
use mathlib.Core.Bool.{Bool, true, false}
use mathlib.Core.List.{List, [], ◌∷◌}
use native.Mathlib.Nat.{le_of_suc-le-suc, not-suc-le-zero}
use native.Mathlib.Omega.{arith}
use lib.Dec.{ltb}
use lib.ListN.{length, take, drop, length-drop}
use lib.Seq.{drop-drop}
use borrow.Author.Rules.{part_to_end}
use borrow.Author.Tests.{ltb-true, ltb-false}
use Rattle.std.specs.declared.ops.Range.{Range}
use Rattle.grammar.specs.Tokens.{separator, Run, unbroken, runs_from, runs}
use Rattle.grammar.specs.FirstRun.{gap, first_run}

pub gap_le : (t : List ℕ) → gap t ≤ length t
unfolding gap
gap_le [] = omega arith
gap_le (b ∷ t) = go (separator b) refl (gap_le t)
  where
    go : (s : Bool) → separator b ≡ s → gap t ≤ length t → gap (b ∷ t) ≤ length (b ∷ t)
    go true e ih = rw e (omega arith)
    go false e ih = rw e (omega arith)

pub unbroken_le : (t : List ℕ) → length (unbroken t) ≤ length t
unfolding unbroken
unbroken_le [] = omega arith
unbroken_le (b ∷ t) = go (separator b) refl (unbroken_le t)
  where
    go : (s : Bool) → separator b ≡ s → length (unbroken t) ≤ length t → length (unbroken (b ∷ t)) ≤ length (b ∷ t)
    go true e ih = rw e (omega arith)
    go false e ih = rw e (omega arith)

pub unbroken-take : (t : List ℕ) → unbroken t ≡ take (length (unbroken t)) t
unfolding unbroken
unbroken-take [] = refl
unbroken-take (b ∷ t) = go (separator b) refl (unbroken-take t)
  where
    go :
        (s : Bool) → separator b ≡ s → unbroken t ≡ take (length (unbroken t)) t
        → unbroken (b ∷ t) ≡ take (length (unbroken (b ∷ t))) (b ∷ t)
    go true e ih = rw e
    go false e ih = rw e (ap (λ (l : List ℕ). b ∷ l) ih)

-- Behind the separators, a run begins; or the text ends.
pub run-some : (t : List ℕ) → gap t < length t → 1 ≤ length (unbroken (drop (gap t) t))
unfolding gap unbroken
run-some [] h = absurd (not-suc-le-zero h)
run-some (b ∷ t) h = go (separator b) refl (run-some t)
  where
    go :
        (s : Bool) → separator b ≡ s → (gap t < length t → 1 ≤ length (unbroken (drop (gap t) t)))
        → 1 ≤ length (unbroken (drop (gap (b ∷ t)) (b ∷ t)))
    go true e ih = rw e (ih (le_of_suc-le-suc (rw e at h)))
    go false e ih = rw (e, e) (omega arith)

pub run_end : (t : List ℕ) → gap t + length (unbroken (drop (gap t) t)) ≤ length t
run_end t = omega (arith, gap_le t, unbroken_le (drop (gap t) t), length-drop (gap t) t)

pub runs_none : (i : ℕ) (t : List ℕ) → gap t ≡ length t → runs_from true i t ≡ []
unfolding gap runs_from
runs_none i [] h = refl
runs_none i (b ∷ t) h = go (separator b) refl (runs_none (suc i) t)
  where
    go :
        (s : Bool) → separator b ≡ s → (gap t ≡ length t → runs_from true (suc i) t ≡ [])
        → runs_from true i (b ∷ t) ≡ []
    go true e ih = let m : suc (gap t) ≡ suc (length t) = rw e at h in rw e (ih (omega arith))
    go false e ih = let m : 0 ≡ suc (length t) = rw e at h in absurd (omega arith)

-- inside a run, none begins before it has ended
runs_inside :
    (i : ℕ) (t : List ℕ)
    → runs_from false i t ≡ runs_from true (i + length (unbroken t)) (drop (length (unbroken t)) t)
unfolding unbroken runs_from
runs_inside i [] = refl
runs_inside i (b ∷ t) = go (separator b) refl (runs_inside (suc i) t)
  where
    go :
        (s : Bool) → separator b ≡ s
        → runs_from false (suc i) t ≡ runs_from true (suc i + length (unbroken t)) (drop (length (unbroken t)) t)
        → runs_from false i (b ∷ t)
        ≡ runs_from true (i + length (unbroken (b ∷ t))) (drop (length (unbroken (b ∷ t))) (b ∷ t))
    go true e ih = let z : i + 0 ≡ i = omega arith in rw (e, z, e)
    go false e ih =
        let z : suc i + length (unbroken t) ≡ i + suc (length (unbroken t)) = omega arith in
        rw e (ih ∙ rw z)

-- the run that begins first in t, whose first byte has the place i
abbrev pub run_at : ℕ → List ℕ → Run
run_at i t = record { place = i + gap t; bytes = unbroken (drop (gap t) t) }

-- where it ends
abbrev pub end_of : List ℕ → ℕ
end_of t = gap t + length (unbroken (drop (gap t) t))

-- The next run, and those that begin behind it.
pub runs-next :
    (i : ℕ) (t : List ℕ) → gap t < length t → runs_from true i t ≡ run_at i t ∷ runs_from true (i + end_of t) (drop (end_of t) t)
unfolding gap unbroken runs_from
runs-next i [] h = absurd (not-suc-le-zero h)
runs-next i (b ∷ t) h = go (separator b) refl (runs-next (suc i) t)
  where
    go :
        (s : Bool) → separator b ≡ s
        → (gap t < length t
        → runs_from true (suc i) t ≡ run_at (suc i) t ∷ runs_from true (suc i + end_of t) (drop (end_of t) t))
        → runs_from true i (b ∷ t)
        ≡ run_at i (b ∷ t) ∷ runs_from true (i + end_of (b ∷ t)) (drop (end_of (b ∷ t)) (b ∷ t))
    go true e ih =
        let n : ℕ = length (unbroken (drop (gap t) t)) in
        let p : suc (gap t) + n ≡ suc (gap t + n) = omega arith in
        let q : i + suc (gap t) ≡ suc i + gap t = omega arith in
        let r : i + suc (gap t + n) ≡ suc i + (gap t + n) = omega arith in
        let m : suc (gap t) < suc (length t) = rw e at h in
        rw (e, p, q, r) (ih (omega arith))
    go false e ih =
        let n : ℕ = length (unbroken t) in
        let p : 0 + suc n ≡ suc n = omega arith in
        let q : i + 0 ≡ i = omega arith in
        let r : i + suc n ≡ suc i + n = omega arith in
        rw (e, e, p, q, r) (ap (λ (rs : List Run). record { place = i; bytes = b ∷ unbroken t } ∷ rs) (runs_inside (suc i) t))

-- What `first_run` has counted: the separators, then the bytes behind them, which it is handed as a part of the whole.
pub run_from : (t : List ℕ) (start : ℕ) → start ≡ gap t → start ≤ length t
run_from t start s = omega (arith, s, gap_le t)

module _
    (t : List ℕ) (start size : ℕ) (s : start ≡ gap t)
    (n : size ≡ length (unbroken (take (length t - start) (drop start t)))) where
  sized : size ≡ length (unbroken (drop (gap t) t))
  sized = n ∙ rw (part_to_end, s)

  pub run_to : start + size ≤ length t
  run_to = omega (arith, s, sized, run_end t)

  pub run_first : ◌≡◌ {A = Range ℕ} (record { start = start; end = start + size }) (first_run t)
  unfolding first_run
  run_first = λ i. record { start = s i; end = s i + sized i }

-- The name reader finds the first of the runs of a part, or that there is none.
pub first_none : (t : List ℕ) → (first_run t).start ≡ (first_run t).end → runs t ≡ []
unfolding first_run runs
first_none t e = go (ltb (gap t) (length t)) refl
  where
    go : (b : Bool) → ltb (gap t) (length t) ≡ b → runs t ≡ []
    go true more = absurd (omega (arith, e, run-some t (ltb-true (gap t) (length t) more)))
    go false more = runs_none 0 t (omega (arith, ltb-false (gap t) (length t) more, gap_le t))

pub first_some : (t : List ℕ) → (first_run t).start < (first_run t).end
    → runs t
    ≡ record { place = (first_run t).start; bytes = unbroken (drop (first_run t).start t) }
    ∷ runs_from true (first_run t).end (drop (first_run t).end t)
unfolding first_run runs
first_some t h =
    let here : 0 + gap t ≡ gap t = omega arith in
    let last : 0 + end_of t ≡ end_of t = omega arith in
    rw (here, last) at (runs-next 0 t (omega (arith, h, unbroken_le (drop (gap t) t), length-drop (gap t) t)))

-- what is left of a run at the place i, and where it ends
abbrev pub rest_of : List ℕ → ℕ → List ℕ
rest_of text i = unbroken (drop i text)

abbrev pub stop_of : List ℕ → ℕ → ℕ
stop_of text i = i + length (rest_of text i)

-- The next run of a text from the place `at` on goes from `start` to `end`.
pub record Next (text : List ℕ) (at start end : ℕ) : Type 0 where
  pub after : at ≤ start
  pub some : start < end
  pub within : end ≤ length text
  pub stop : end ≡ stop_of text start
  pub these :
      runs_from true at (drop at text)
      ≡ record { place = start; bytes = rest_of text start } ∷ runs_from true end (drop end text)

-- The separators from the place `at` on are counted, in the part that begins there: behind them the run begins.
module _ (text : List ℕ) (at : ℕ) (inside : at ≤ length text) (n : ℕ)
    (found : n ≡ gap (take (length text - at) (drop at text))) where
  counted : n ≡ gap (drop at text)
  counted = rw part_to_end at found

  pub start_within : at + n ≤ length text
  start_within = omega (arith, counted, gap_le (drop at text), length-drop at text)

  pub next-none : length text ≤ at + n → runs_from true at (drop at text) ≡ []
  next-none h = runs_none at (drop at text) (omega (arith, counted, gap_le (drop at text), length-drop at text))

  pub next-run : at + n < length text → (end : ℕ) → end ≡ stop_of text (at + n) → Next text at (at + n) end
  next-run more end stop =
      let t : List ℕ = drop at text in
      let here : gap t < length t = omega (arith, counted, length-drop at text) in
      let rest : unbroken (drop (gap t) t) ≡ rest_of text (at + n) =
      rw (counted) (ap unbroken (drop-drop (gap t) at text))
      in
      let last : at + end_of t ≡ end = omega (arith, counted, stop, ap length rest) in
      let behind : drop (end_of t) t ≡ drop end text = drop-drop (end_of t) at text ∙ ap (λ (k : ℕ). drop k text) last in
      record {
        after = omega arith;
        some = omega (arith, stop, ap length rest, run-some t here);
        within = omega (arith, last, run_end t, length-drop at text);
        stop = stop;
        these =
            runs-next at t here
            ∙ (λ j.
            record { place = at + sym counted j; bytes = rest j }
            ∷ runs_from true (last j) (behind j));
      }
