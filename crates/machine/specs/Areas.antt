-- A monitor as its owner keeps it: a head, an area of bytes and an area of words. Document 01's 2,048 is the capacity here.
use Rattle.std.specs.Prelude.{ℕ, ◌+◌, ◌-◌, Bool, true, false, ◌&&◌, eqb, leb, ltb, Option, None, Some}
use Rattle.std.specs.Prelude.{List, [], ◌∷◌, ◌++◌, map, length, take, drop, replicate}
use Rattle.rewriting.specs.Lists.{all, same, below}
use Rattle.rewriting.specs.Rules.{Right, Put, Close, Rule, RuleSet, rule}
use Rattle.layout.specs.States.{states, number, after, next, matching}
use Rattle.machine.specs.State.{State}

-- document 01's capacity
abbrev pub document_capacity : ℕ
document_capacity = 2048

-- the head: "settled count a, waiting count w .., verdict or none, and that verdict's rule (0 with none)"
pub record Head : Type 0 where
  pub settled : ℕ
  pub waiting : ℕ
  pub verdict : Option ℕ
  pub rule : ℕ

-- "Its head is a value .. Its areas are 2,048 bytes and 2,048 words."
pub record Monitor : Type 0 where
  pub head : Head
  pub bytes : List ℕ
  pub words : List ℕ

-- "settled count a, waiting count w .., verdict or none, and that verdict's rule"
unfoldable pub head_of : State → Head
head_of s =
    record { settled = length s.settled; waiting = length s.waiting; verdict = s.verdict; rule = s.rule }

-- an area that begins with s and ends with q. "All other bytes and words are 0."
unfoldable pub area_of : ℕ → List ℕ → List ℕ → List ℕ
area_of capacity s q = s ++ (replicate (capacity - (length s + length q)) 0 ++ q)

-- "Settled symbols are bytes 0..a−1; waiting symbols are the last w bytes"
unfoldable pub bytes_of : ℕ → State → List ℕ
bytes_of capacity s = area_of capacity s.settled s.waiting

-- the states after each symbol of p, from state q
unfoldable pub states_after : List Rule → List ℕ → List ℕ → List (List ℕ)
states_after rules q [] = []
states_after rules q (a ∷ p) = next rules q a ∷ states_after rules (next rules q a) p

-- "word i below a is the table's state after i + 1 settled symbols"
unfoldable pub words_of : List Rule → ℕ → State → List ℕ
words_of rules capacity s = area_of capacity (map (number (states rules)) (states_after rules (after rules []) s.settled)) []

-- "the areas are exactly as described here": the monitor that holds the state s
unfoldable pub monitor_of : List Rule → ℕ → State → Monitor
monitor_of rules capacity s =
    record { head = head_of s; bytes = bytes_of capacity s; words = words_of rules capacity s }

-- the state that a monitor is read as
unfoldable pub state_of : Monitor → State
state_of m =
    record {
      settled = take m.head.settled m.bytes;
      waiting = drop (length m.bytes - m.head.waiting) m.bytes;
      verdict = m.head.verdict;
      rule = m.head.rule;
    }

-- Refusal 11 is "head and areas are not as described, or a settled state has a match, or the verdict isn't that of its
-- rule". The tests that follow are what it demands.

-- the match word is 0
unfoldable pub no_match : Option ℕ → Bool
no_match None = true
no_match (Some i) = false

-- no settled state has a match
unfoldable pub unmatched : List Rule → List ℕ → Bool
unmatched rules s = all (λ q. no_match (matching rules q)) (states_after rules (after rules []) s)

-- the right side closes with verdict v
unfoldable pub closes_with : ℕ → Right → Bool
closes_with v (Put u) = false
closes_with v (Close u) = eqb v u

-- the verdict is that of its rule; with none the rule is 0
unfoldable pub stands_by : List Rule → Option ℕ → ℕ → Bool
stands_by rules None i = eqb i 0
stands_by rules (Some v) i = ltb i (length rules) && closes_with v (rule rules i).right

-- the monitor m holds the state s as described, and s may be held: "a + w at most 2,048", "Every symbol held is below S.",
-- the bytes, the words, no settled match, the verdict that of its rule
unfoldable pub holds : RuleSet → ℕ → Monitor → State → Bool
holds set capacity m s =
    leb (m.head.settled + m.head.waiting) capacity
    && below set.symbols (s.settled ++ s.waiting)
    && same (bytes_of capacity s) m.bytes
    && same (words_of set.rules capacity s) m.words
    && unmatched set.rules s.settled
    && stands_by set.rules s.verdict s.rule

-- what 11 demands: the monitor holds, as described, the state that it is read as
unfoldable pub described : RuleSet → ℕ → Monitor → Bool
described set capacity m = holds set capacity m (state_of m)
