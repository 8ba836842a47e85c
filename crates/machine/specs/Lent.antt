-- How the code speaks of these definitions: what it is lent, what it gives back, and what its functions read and keep.
use Rattle.std.specs.Prelude.{ℕ, zero, suc, ◌+◌, ◌*◌, ◌-◌, ◌<◌, ◌≡◌, Bool, true, false, not, cond, eqb, ltb}
use Rattle.std.specs.Prelude.{List, [], ◌∷◌, map, length, get_or, set, drop, Option, None, Some}
use Rattle.std.proofs.Math.Seq.{paste}
use Rattle.rewriting.specs.Lists.{below}
use Rattle.rewriting.specs.Rules.{Rule, RuleSet}
use Rattle.layout.specs.Image.{read}
use Rattle.layout.specs.Places.{right_at}
use Rattle.layout.specs.Refusals.{refusal}
use Rattle.layout.specs.States.{states, number, after, next, matching}
use Rattle.machine.specs.Areas.{Head, Monitor, states_after, monitor_of, unmatched}
use Rattle.machine.specs.State.{State, Step, step}
use Rattle.machine.specs.Run.{fits}
use Rattle.machine.specs.Calls.{Call, Offer, GoOn, lent_checks}

-- the monitor of this head and these areas
abbrev pub monitor_in : Head → List ℕ → List ℕ → Monitor
monitor_in head bytes words = record { head = head; bytes = bytes; words = words }

-- the same, of the head with these fields
abbrev pub monitor_with : ℕ → ℕ → Option ℕ → ℕ → List ℕ → List ℕ → Monitor
monitor_with settled waiting verdict rule bytes words =
    monitor_in (record { settled = settled; waiting = waiting; verdict = verdict; rule = rule }) bytes words

-- none of the refusals 7, 9, 10 and 11 is called for
abbrev pub Passed : ℕ → List ℕ → List ℕ → Monitor → Type 0
Passed capacity image table m = refusal (lent_checks capacity image table m) ≡ None

-- where the rows of a table begin, and how many words each has
abbrev pub rows_in : List ℕ → ℕ
rows_in table = 2 + get_or table 0 0

abbrev pub width_in : List ℕ → ℕ
width_in table = get_or table 1 0

-- the next state of q on symbol a, and the match word of q
abbrev pub next_in : List ℕ → ℕ → ℕ → ℕ
next_in table q a = get_or table (rows_in table + q * width_in table + a) 0

abbrev pub match_in : List ℕ → ℕ → ℕ
match_in table q = get_or table (2 + q) 0

-- "the word before it (state 0 at the start)", where n symbols are settled
abbrev pub word_before : List ℕ → ℕ → ℕ
word_before words zero = 0
word_before words (suc i) = get_or words i 0

-- these are settled symbols and their words
pub record Settled (set : RuleSet) (symbols words : List ℕ) : Type 0 where
  pub symbols_below : below set.symbols symbols ≡ true
  pub words_right : words ≡ map (number (states set.rules)) (states_after set.rules (after set.rules []) symbols)
  pub no_match_lem : unmatched set.rules symbols ≡ true

-- where each rule's right symbols begin in the image
abbrev pub Starts : List ℕ → List ℕ → Type 0
Starts image starts =
    (i : ℕ) → i < length (read image).rules → (i < length starts) × (get_or starts i 0 ≡ right_at (read image) i)

-- the next step of a state in which a symbol waits
unfoldable pub step_waiting : List Rule → State → List ℕ → Step
step_waiting rules s [] = record { to = s; rewrites = 0; put = 0 }
step_waiting rules s (a ∷ q) = step rules s.settled a q

abbrev pub step_of : List Rule → State → Step
step_of rules s = step_waiting rules s s.waiting

-- a symbol waits, and with it the settled string's state matches as m says
abbrev pub Matches : List Rule → State → Option ℕ → Type 0
Matches rules s m =
    (a : ℕ) × (q : List ℕ) × (s.waiting ≡ a ∷ q) × (matching rules (next rules (after rules s.settled) a) ≡ m)

-- "A step after which a + w would pass 2,048 is not taken.": whether the step t is taken, the monitor after it, its
-- rewrites and the number of symbols that it put back
pub record Tried : Type 0 where
  pub taken : Bool
  pub monitor : Monitor
  pub rewrites : ℕ
  pub put : ℕ

unfoldable pub tried : List Rule → ℕ → Monitor → Step → Tried
tried rules capacity m t =
    cond (fits capacity t.to)
    (record { taken = true; monitor = monitor_of rules capacity t.to; rewrites = t.rewrites; put = t.put })
    (record { taken = false; monitor = m; rewrites = 0; put = 0 })

-- an offer of the event, or a go-on
unfoldable pub offer_or_go_on : Option ℕ → ℕ → Call
offer_or_go_on (Some event) fuel = Offer event fuel
offer_or_go_on None fuel = GoOn fuel

-- the event of an offer is one of so many, ..
abbrev pub event_allowed : Option ℕ → ℕ → Bool
event_allowed (Some event) events = ltb event events
event_allowed None events = true

-- .. and there is room for it, where so many symbols are held
abbrev pub event_fits : Option ℕ → ℕ → ℕ → Bool
event_fits (Some event) capacity size = not (eqb size capacity)
event_fits None capacity size = true

-- "the event becomes the last waiting symbol": those before it, from place `from` on, are moved to the left
abbrev pub appended : ℕ → ℕ → ℕ → List ℕ → List ℕ
appended capacity event from bytes = set (paste bytes (from - 1) (drop from bytes) (capacity - from)) (capacity - 1) event

-- The head and the bytes that a call which is not refused runs from: for an offer one symbol more waits.
abbrev pub waiting_with : Option ℕ → ℕ → ℕ
waiting_with (Some event) waiting = waiting + 1
waiting_with None waiting = waiting

abbrev pub taken : Option ℕ → Head → Head
taken offered head =
    record { settled = head.settled; waiting = waiting_with offered head.waiting; verdict = None; rule = 0 }

abbrev pub bytes_with : Option ℕ → ℕ → ℕ → List ℕ → List ℕ
bytes_with (Some event) capacity waiting bytes = appended capacity event (capacity - waiting) bytes
bytes_with None capacity waiting bytes = bytes
