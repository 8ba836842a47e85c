-- What a monitor holds, as strings of symbols, and one step of it.
use Rattle.std.specs.Prelude.{ℕ, List, [], ◌∷◌, ◌++◌, length, Option, None, Some}
use Rattle.rewriting.specs.Rules.{Right, Put, Close, Rule, rule}
use Rattle.rewriting.specs.Occurrences.{cut}
use Rattle.layout.specs.States.{after, next, matching}

-- "settled count a, waiting count w .., verdict or none, and that verdict's rule (0 with none)": here the settled and the
-- waiting symbols themselves. How they are held in a head and two areas is in Areas.antt.
pub record State : Type 0 where
  pub settled : List ℕ
  pub waiting : List ℕ
  pub verdict : Option ℕ
  pub rule : ℕ

-- a state with no verdict
unfoldable pub active : List ℕ → List ℕ → State
active settled waiting = record { settled = settled; waiting = waiting; verdict = None; rule = 0 }

-- "Fresh sets both counts to 0, no verdict"
unfoldable pub empty : State
empty = active [] []

-- what one step leads to, whether it matched (0 or 1 rewrites), and how many symbols it put back
pub record Step : Type 0 where
  pub to : State
  pub rewrites : ℕ
  pub put : ℕ

-- "those of r put back before the waiting ones, or the verdict is set and nothing put back": rule i's right side, where
-- s stays settled and q waits
unfoldable pub replace : List ℕ → List ℕ → ℕ → Right → Step
replace s q i (Put v) = record { to = active s (v ++ q); rewrites = 1; put = length v }
replace s q i (Close v) =
    record { to = record { settled = s; waiting = q; verdict = Some v; rule = i }; rewrites = 1; put = 0 }

-- "If that state matches rule l → r, the symbols of l are taken off": p is settled with the symbol just taken, q waits
unfoldable pub settle : List Rule → List ℕ → List ℕ → Option ℕ → Step
settle rules p q None = record { to = active p q; rewrites = 0; put = 0 }
settle rules p q (Some i) = replace (cut rules p i) q i (rule rules i).right

-- "One step takes the first waiting symbol onto the settled string and finds its state from the word before it (state 0
-- at the start).": s is settled, a waits first, q waits behind it. The word before it is the number of the state after s
-- (`word_at`, proofs/Areas.antt).
unfoldable pub step : List Rule → List ℕ → ℕ → List ℕ → Step
step rules s a q = settle rules (s ++ a ∷ []) q (matching rules (next rules (after rules s) a))
