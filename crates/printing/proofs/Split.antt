-- Laws of an input's two parts: the rule text before the first `%`, the events behind it.
-- Assumes nothing.
use Prim.Native.Nat.{ℕ, suc, ◌+◌, ◌-◌, ◌≤◌, ◌<◌}
use mathlib.Core.Path.{◌≡◌, refl, sym, ap}
use mathlib.Core.Bool.{Bool, true, false}
use mathlib.Core.List.{List, [], ◌∷◌}
use native.Mathlib.Omega.{arith}
use native.Mathlib.Nat.{not-suc-le-zero}
use lib.Dec.{eqb}
use lib.ListN.{length, take, drop}
use Rattle.printing.specs.Watch.{percent, rule_part, event_part}
use Rattle.printing.specs.Turns.{events_at}

pub rule_part_le : (t : List ℕ) → length (rule_part t) ≤ length t
unfolding rule_part
rule_part_le [] = omega arith
rule_part_le (b ∷ t) = go (eqb b percent) refl (rule_part_le t)
  where
    go : (p : Bool) → eqb b percent ≡ p → length (rule_part t) ≤ length t → length (rule_part (b ∷ t)) ≤ length (b ∷ t)
    go true e ih = rw e (omega arith)
    go false e ih = rw e (omega arith)

pub rule_part-take : (t : List ℕ) → rule_part t ≡ take (length (rule_part t)) t
unfolding rule_part
rule_part-take [] = refl
rule_part-take (b ∷ t) = go (eqb b percent) refl (rule_part-take t)
  where
    go :
        (p : Bool) → eqb b percent ≡ p → rule_part t ≡ take (length (rule_part t)) t
        → rule_part (b ∷ t) ≡ take (length (rule_part (b ∷ t))) (b ∷ t)
    go true e ih = rw e
    go false e ih = rw e (ap (λ (l : List ℕ). b ∷ l) ih)

pub event_part_le : (t : List ℕ) → length (event_part t) ≤ length t
unfolding event_part
event_part_le [] = omega arith
event_part_le (b ∷ t) = go (eqb b percent) refl (event_part_le t)
  where
    go : (p : Bool) → eqb b percent ≡ p → length (event_part t) ≤ length t → length (event_part (b ∷ t)) ≤ length (b ∷ t)
    go true e ih = rw e (omega arith)
    go false e ih = rw e (omega arith)

-- Where there is a `%`, it stands between the two parts.
pub parts_some : (t : List ℕ) → length (rule_part t) < length t → length t ≡ length (rule_part t) + 1 + length (event_part t)
unfolding rule_part event_part
parts_some [] h = absurd (not-suc-le-zero h)
parts_some (b ∷ t) h = go (eqb b percent) refl (parts_some t)
  where
    go :
        (p : Bool) → eqb b percent ≡ p
        → (length (rule_part t) < length t → length t ≡ length (rule_part t) + 1 + length (event_part t))
        → length (b ∷ t) ≡ length (rule_part (b ∷ t)) + 1 + length (event_part (b ∷ t))
    go true e ih = rw e (omega arith)
    go false e ih =
        let m : suc (length (rule_part t)) < suc (length t) = rw e at h in
        rw e (omega (arith, ih (omega arith)))

-- Without one there are no events.
pub parts_none : (t : List ℕ) → length (rule_part t) ≡ length t → length (event_part t) ≡ 0
unfolding rule_part event_part
parts_none [] h = refl
parts_none (b ∷ t) h = go (eqb b percent) refl (parts_none t)
  where
    go :
        (p : Bool) → eqb b percent ≡ p → (length (rule_part t) ≡ length t → length (event_part t) ≡ 0)
        → length (event_part (b ∷ t)) ≡ 0
    go true e ih = let m : 0 ≡ suc (length t) = rw e at h in absurd (omega arith)
    go false e ih = let m : suc (length (rule_part t)) ≡ suc (length t) = rw e at h in rw e (ih (omega arith))

-- where the events begin: behind the `%`, or at the end
pub events_at_lem : (input : List ℕ) → length (rule_part input) < length input → events_at input ≡ length (rule_part input) + 1
unfolding events_at
events_at_lem input h = omega (arith, parts_some input h)

pub events_at_end : (input : List ℕ) → length (rule_part input) ≡ length input → events_at input ≡ length input
unfolding events_at
events_at_end input h = omega (arith, parts_none input h)

pub events_at_le : (input : List ℕ) → events_at input ≤ length input
unfolding events_at
events_at_le input = omega arith

-- What begins there is the event part.
pub drop_events : (input : List ℕ) → drop (events_at input) input ≡ event_part input
unfolding event_part events_at
drop_events [] = refl
drop_events (b ∷ t) = go (eqb b percent) refl (drop_events t)
  where
    go : (p : Bool) → eqb b percent ≡ p → drop (events_at t) t ≡ event_part t
        → drop (events_at (b ∷ t)) (b ∷ t) ≡ event_part (b ∷ t)
    go true e ih = let one : suc (length t) - length t ≡ 1 = omega arith in rw (e, one)
    go false e ih =
        let on : suc (length t) - length (event_part t) ≡ suc (length t - length (event_part t)) =
        omega (arith, event_part_le t)
        in
        rw (e, on) ih

-- the rule text, as the code takes it from the input
pub rule-text : (input : List ℕ) (end : ℕ) → end ≡ length (rule_part input) → take end input ≡ rule_part input
rule-text input end e = rw e (sym (rule_part-take input))
