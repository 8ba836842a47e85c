-- Counts add up in any grouping.
-- Assumes nothing.
use mathlib.Core.Path.{◌≡◌}
use native.Mathlib.Nat.{zero-add, add-zero, add_assoc}
use Rattle.machine.specs.declared.Counts.{Counts}
use Rattle.machine.specs.Run.{no_counts, plus}

pub none-plus : (c : Counts) → plus no_counts c ≡ c
unfolding plus no_counts
none-plus c =
    λ i. record { steps = zero-add c.steps i; rewrites = zero-add c.rewrites i; put = zero-add c.put i }

pub plus_none : (c : Counts) → plus c no_counts ≡ c
unfolding plus no_counts
plus_none c =
    λ i. record { steps = add-zero c.steps i; rewrites = add-zero c.rewrites i; put = add-zero c.put i }

pub plus_assoc : (c d e : Counts) → plus (plus c d) e ≡ plus c (plus d e)
unfolding plus
plus_assoc c d e =
    λ i.
    record {
      steps = add_assoc c.steps d.steps e.steps i;
      rewrites = add_assoc c.rewrites d.rewrites e.rewrites i;
      put = add_assoc c.put d.put e.put i;
    }
