-- A call's run: the four tests in their order, the steps between them, and the counts.
use Rattle.std.specs.Prelude.{ℕ, zero, suc, ◌+◌, Bool, cond, List, [], ◌∷◌, leb, length, Option, None, Some}
use Rattle.rewriting.specs.Rules.{Rule}
use Rattle.machine.specs.declared.Answer.{Answer}
use Rattle.machine.specs.declared.Counts.{Counts}
use Rattle.machine.specs.State.{State, Step, step}

-- no steps, no rewrites, nothing put back
unfoldable pub no_counts : Counts
no_counts = record { steps = 0; rewrites = 0; put = 0 }

-- the counts of one and then another
unfoldable pub plus : Counts → Counts → Counts
plus c d = record { steps = c.steps + d.steps; rewrites = c.rewrites + d.rewrites; put = c.put + d.put }

-- "Steps, rewrites and symbols put back are counted for the call and returned. A verdict is one rewrite.": the counts of
-- one step
unfoldable pub counts_of : Step → Counts
counts_of t = record { steps = 1; rewrites = t.rewrites; put = t.put }

-- the answer of a run, its counts, and the state that it ends in
pub record Run : Type 0 where
  pub answer : Answer
  pub counts : Counts
  pub state : State

-- a run that ends at s without a step
unfoldable pub ended : Answer → State → Run
ended answer s = record { answer = answer; counts = no_counts; state = s }

-- the step t and then the run r
unfoldable pub counted : Step → Run → Run
counted t r = record { answer = r.answer; counts = plus (counts_of t) r.counts; state = r.state }

-- "A step after which a + w would pass 2,048 is not taken." The 2,048 is the capacity.
unfoldable pub fits : ℕ → State → Bool
fits capacity s = leb (length s.settled + length s.waiting) capacity

-- the step t is taken and the run goes on with `rest`, unless t does not fit
unfoldable pub proceed : ℕ → State → Step → (State → Run) → Run
proceed capacity s t rest = cond (fits capacity t.to) (counted t (rest t.to)) (ended Answer.Full s)

-- "a verdict stands, answer Verdict; w = 0, answer Quiet; fuel steps taken, answer Spent; the next step doesn't fit,
-- answer Full": the tests at state s, by its verdict, its waiting symbols, and the run with one unit of fuel less, if there is
-- one
unfoldable pub tests : List Rule → ℕ → State → Option ℕ → List ℕ → Option (State → Run) → Run
tests rules capacity s (Some v) waiting rest = ended (Answer.Verdict v) s
tests rules capacity s None [] rest = ended Answer.Quiet s
tests rules capacity s None (a ∷ q) None = ended Answer.Spent s
tests rules capacity s None (a ∷ q) (Some rest) = proceed capacity s (step rules s.settled a q) rest

-- "A call runs steps by this order of tests, before the first and after each"
unfoldable pub run : List Rule → ℕ → ℕ → State → Run
run rules capacity zero s = tests rules capacity s s.verdict s.waiting None
run rules capacity (suc fuel) s = tests rules capacity s s.verdict s.waiting (Some (run rules capacity fuel))
