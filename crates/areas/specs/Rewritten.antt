-- What a rewrite gives back, with the areas at its exit.
use Rattle.std.specs.Prelude.{ℕ, true, false, List, Option, None, Some}
use Rattle.machine.specs.Lent.{monitor_with, Tried}
use Rattle.areas.specs.declared.Rewritten.{Rewritten}

-- Where it was not made, the monitor has the head's numbers as they were.
abbrev pub rewritten_from : ℕ → ℕ → Option Rewritten → List ℕ → List ℕ → Tried
rewritten_from settled waiting None bytes words =
    record { taken = false; monitor = monitor_with settled waiting None 0 bytes words; rewrites = 0; put = 0 }
rewritten_from settled waiting (Some r) bytes words =
    record { taken = true; monitor = monitor_with r.settled r.waiting r.verdict r.rule bytes words; rewrites = 1; put = r.put }
