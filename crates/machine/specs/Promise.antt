-- What is promised: demand 1 of every call, demand 3 of every list of calls, what fresh does, and that a batch is its offers
-- one after another. The theorems are `call_theorem`, `list_theorem`, `fresh_theorem` and `batch_theorem`, in
-- proofs/CallTheorem.antt, ListTheorem.antt, FreshTheorem.antt and BatchTheorem.antt.
use Rattle.std.specs.Prelude.{ℕ, ◌+◌, ◌*◌, ◌^◌, ◌≤◌, ◌<◌, ◌≡◌, Bool, true, false, ◌↔◌, ◌⊎◌}
use Rattle.std.specs.Prelude.{length, get_or, take, replicate, None, Some, Ok, Err}
use mathlib.Core.List.{List, [], ◌∷◌, ◌++◌, map, Memᴰ}
use Rattle.rewriting.specs.Lists.{prefix, over}
use Rattle.rewriting.specs.Rules.{Rule, RuleSet}
use Rattle.rewriting.specs.Occurrences.{Occurrence, Occurs}
use Rattle.rewriting.specs.Rewriter.{fed, rewrites}
use Rattle.layout.specs.Image.{read, valid}
use Rattle.layout.specs.Refusals.{refusal, refused_by}
use Rattle.layout.specs.Table.{table_of}
use Rattle.machine.specs.declared.Answer.{Answer}
use Rattle.machine.specs.declared.Counts.{Counts}
use Rattle.machine.specs.State.{State, empty, step}
use Rattle.machine.specs.Run.{no_counts, fits}
use Rattle.machine.specs.Areas.{Monitor, head_of, monitor_of, state_of}
use Rattle.machine.specs.Calls.{Fresh, fresh_of, Call, Offer, GoOn, fuel_of, lent_checks, call_checks}
use Rattle.machine.specs.Calls.{Outcome, refusal_of, decided, call_of, answer_number}
use Rattle.machine.specs.Batch.{Batched, batch_of}
use Rattle.machine.specs.Play.{string_of, Log, no_calls, play, offers_of}

-- Where a run of so much fuel stopped, with these counts, in state s, by its answer: document 01's four tests in their order.
abbrev pub Stopped : List Rule → ℕ → ℕ → Counts → State → Answer → Type 0
Stopped rules capacity fuel counts s (Answer.Verdict v) = s.verdict ≡ Some v
Stopped rules capacity fuel counts s Answer.Quiet = (s.verdict ≡ None) × (s.waiting ≡ [])
Stopped rules capacity fuel counts s Answer.Spent =
    (s.verdict ≡ None) × (0 < length s.waiting) × (counts.steps ≡ fuel)
Stopped rules capacity fuel counts s Answer.Full =
    (s.verdict ≡ None)
    × (counts.steps < fuel)
    × ((a : ℕ) × (q : List ℕ) × (s.waiting ≡ a ∷ q) × (fits capacity (step rules s.settled a q).to ≡ false))

-- the refusals that document 01 has for a call
abbrev pub refusals_of : Call → List ℕ
refusals_of (Offer event fuel) = 7 ∷ 9 ∷ 10 ∷ 11 ∷ 12 ∷ 13 ∷ 14 ∷ 15 ∷ []
refusals_of (GoOn fuel) = 7 ∷ 9 ∷ 10 ∷ 11 ∷ 13 ∷ 14 ∷ []

-- Demand 1, of every call c on whatever monitor m and with whatever image and table, and its outcome o.
pub record Ended (rules : List Rule) (capacity : ℕ) (m : Monitor) (c : Call) (o : Outcome) : Type 0 where
  -- It takes at most the steps that it was given; its rewrites are among them, and put back at most 8 symbols each.
  pub steps : o.counts.steps ≤ fuel_of c
  pub rewrites : o.counts.rewrites ≤ o.counts.steps
  pub put : o.counts.put ≤ 8 * o.counts.rewrites
  -- It is refused with a number that document 01 has for it, and then nothing lent is changed, ..
  pub refused : (n : ℕ) → refused_by o.answer ≡ Some n → Memᴰ n (refusals_of c) × (o ≡ refusal_of n m)
  -- .. or it stopped where its answer says.
  pub stopped : (a : Answer) → o.answer ≡ Ok a → Stopped rules capacity (fuel_of c) o.counts (state_of o.monitor) a

abbrev pub DemandOne : Type 0
DemandOne =
    (capacity : ℕ) (image table : List ℕ) (m : Monitor) (c : Call)
    → Ended (read image).rules capacity m c (call_of capacity image table m c)

-- What is promised of the log g of a list of calls, beside the plain rewriter.
pub record Agrees (rules : List Rule) (g : Log) : Type 0 where
  -- String and verdict are the plain rewriter's on the accepted events after exactly the reported rewrites, each of
  -- which it makes; the symbols put back are those that these rewrites put in.
  pub rewriter :
      rewrites rules g.counts.rewrites (fed g.events)
      ≡ Some (record { string = string_of g.monitor; verdict = g.monitor.head.verdict; put = g.counts.put })
  -- steps + waiting = accepted + put back
  pub balance : g.counts.steps + g.monitor.head.waiting ≡ length g.events + g.counts.put
  -- steps ≤ accepted + 8 × rewrites
  pub bound : g.counts.steps ≤ length g.events + 8 * g.counts.rewrites

-- What is promised of one call c of the list, made on the monitor m, and of its outcome o.
pub record Answered (set : RuleSet) (capacity : ℕ) (m : Monitor) (c : Call) (o : Outcome) : Type 0 where
  -- It is refused just where document 01 says, by 12, 13, 14 or 15; an accepted one has the answer and the counts of its
  -- run, and leaves the state that its run ends in.
  pub reply : o ≡ decided set capacity m (call_checks set capacity m.head c) c
  -- Demand 1: it stopped where its answer says, or is refused and changes nothing lent.
  pub ended : Ended set.rules capacity m c o
  -- An accepted one is quiet exactly when nothing waits and no verdict stands, ..
  pub quiet : o.answer ≡ Ok Answer.Quiet
      ↔ ((refused_by o.answer ≡ None) × (o.monitor.head.waiting ≡ 0) × (o.monitor.head.verdict ≡ None))
  -- .. and then no left side occurs anywhere in the string.
  pub rests : o.answer ≡ Ok Answer.Quiet → (x : Occurrence) → Occurs set.rules (string_of o.monitor) x → ⊥

-- What is promised of a list of calls that begins with the monitor m, for an image that is valid and its table.
pub record Kept (capacity : ℕ) (image table : List ℕ) (m : Monitor) (calls : List Call) : Type 0 where
  pub agrees : Agrees (read image).rules (play capacity image table (no_calls m) calls)
  -- The monitor stays as described: the checks behind 7, 9, 10 and 11 pass, and none of these refusals ever comes.
  pub passes : refusal (lent_checks capacity image table (play capacity image table (no_calls m) calls).monitor) ≡ None
  pub each : (earlier : List Call) (c : Call) (later : List Call) → calls ≡ earlier ++ c ∷ later →
      let m' : Monitor = (play capacity image table (no_calls m) earlier).monitor in
      Answered (read image) capacity m' c (call_of capacity image table m' c)

-- Every call of the list is refused with n, and nothing changes.
pub record AllRefused (n capacity : ℕ) (image table : List ℕ) (m : Monitor) (calls : List Call) : Type 0 where
  pub nothing : play capacity image table (no_calls m) calls
      ≡ record { monitor = m; events = []; answers = replicate (length calls) (Err n); counts = no_counts }
  pub each : (earlier : List Call) (c : Call) (later : List Call) → calls ≡ earlier ++ c ∷ later →
      call_of capacity image table (play capacity image table (no_calls m) earlier).monitor c ≡ refusal_of n m

-- by whether the image is valid, and whether the table begins with the words that compile gives for it
abbrev pub Promise : Bool → Bool → ℕ → List ℕ → List ℕ → Monitor → List Call → Type 0
Promise false right capacity image table m calls = AllRefused 7 capacity image table m calls
Promise true false capacity image table m calls = AllRefused 9 capacity image table m calls
Promise true true capacity image table m calls = Kept capacity image table m calls

-- Demand 3, for every image and table, every capacity, and every list of calls from "the head and areas left by a fresh
-- that was not refused"
abbrev pub DemandThree : Type 0
DemandThree =
    (capacity : ℕ) (image table bytes words : List ℕ) (calls : List Call)
    → (fresh_of capacity bytes words).refused ≡ None
    → Promise (valid image) (prefix (table_of (read image)) table) capacity image table
    (fresh_of capacity bytes words).monitor calls

-- What is promised of fresh: it takes areas of the capacity's length and no others; then the monitor holds the empty state,
-- whatever the rules; else it is 10, and the areas are as they were.
pub record Began (capacity : ℕ) (bytes words : List ℕ) (f : Fresh) : Type 0 where
  pub takes : f.refused ≡ None ↔ ((length bytes ≡ capacity) × (length words ≡ capacity))
  pub taken : f.refused ≡ None → (rules : List Rule) → f.monitor ≡ monitor_of rules capacity empty
  pub refused : (n : ℕ) → f.refused ≡ Some n
      → (n ≡ 10) × (f.monitor ≡ record { head = head_of empty; bytes = bytes; words = words })

abbrev pub FreshBegins : Type 0
FreshBegins = (capacity : ℕ) (bytes words : List ℕ) → Began capacity bytes words (fresh_of capacity bytes words)

-- The batch b is the list of calls with the log g: it leaves that monitor, accepted those events and has those sums; the
-- answers are written, a byte each, and later answer bytes stay.
pub record Sums (events answers : List ℕ) (g : Log) (b : Batched) : Type 0 where
  pub monitor : g.monitor ≡ b.monitor
  pub accepted : g.events ≡ take b.accepted events
  pub counts : g.counts ≡ b.counts
  pub written : over (map answer_number g.answers) answers ≡ b.answers

-- What is promised of a batch that is not refused: it is the offers one after another.
pub record OneByOne (capacity : ℕ) (image table : List ℕ) (m : Monitor) (events : List ℕ) (fuel : ℕ) (answers : List ℕ)
    (b : Batched) : Type 0 where
  pub few : b.accepted ≤ length events
  pub played : Sums events answers (play capacity image table (no_calls m) (offers_of (take b.accepted events) fuel)) b
  -- All are accepted; or the next one is refused, with 12, 14 or 15.
  pub stops : ((b.stop ≡ 0) × (b.accepted ≡ length events))
      ⊎ ((b.accepted < length events)
      × Memᴰ b.stop (12 ∷ 14 ∷ 15 ∷ [])
      × (call_of capacity image table b.monitor (Offer (get_or events b.accepted 0) fuel)
      ≡ refusal_of b.stop b.monitor))
  -- "summed counts in 64 bits": they fit.
  pub steps : b.counts.steps < 2 ^ 64
  pub rewrites : b.counts.rewrites < 2 ^ 64
  pub put : b.counts.put < 2 ^ 64

-- What is promised of every batch, on whatever monitor m and with whatever image and table.
pub record BatchEnded (capacity : ℕ) (image table : List ℕ) (m : Monitor) (events : List ℕ) (fuel : ℕ) (answers : List ℕ)
    (b : Batched) : Type 0 where
  pub refused : (n : ℕ) → b.refused ≡ Some n
      → Memᴰ n (7 ∷ 9 ∷ 10 ∷ 11 ∷ 13 ∷ 16 ∷ [])
      × (b ≡ record { refused = Some n; stop = 0; accepted = 0; counts = no_counts; answers = answers; monitor = m })
  pub taken : b.refused ≡ None → OneByOne capacity image table m events fuel answers b

abbrev pub BatchIsOffers : Type 0
BatchIsOffers =
    (capacity : ℕ) (image table : List ℕ) (m : Monitor) (events : List ℕ) (fuel : ℕ) (answers : List ℕ)
    → BatchEnded capacity image table m events fuel answers (batch_of capacity image table m events fuel answers)
