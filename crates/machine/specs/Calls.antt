-- Fresh, offer and go on, as functions of all that is lent to them: the refusals in their order, what comes back, and
-- every area at exit.
use Rattle.std.specs.Prelude.{ℕ, ◌+◌, Bool, not, ◌&&◌, List, [], ◌∷◌, ◌++◌, eqb, leb, ltb, length, replicate}
use Rattle.std.specs.Prelude.{Option, None, Some, is_none, Result, Ok, Err}
use Rattle.rewriting.specs.Rules.{RuleSet}
use Rattle.layout.specs.Image.{read}
use Rattle.layout.specs.Refusals.{Check, refusal}
use Rattle.layout.specs.TableCheck.{table_checks}
use Rattle.machine.specs.Areas.{Head, Monitor, monitor_of, state_of, head_of, described}
use Rattle.machine.specs.declared.Answer.{Answer}
use Rattle.machine.specs.declared.Counts.{Counts}
use Rattle.machine.specs.State.{State, empty}
use Rattle.machine.specs.Run.{Run, no_counts, run}

-- what 10 demands: "10, an area of another length"
unfoldable pub sized : ℕ → List ℕ → List ℕ → Bool
sized capacity bytes words = eqb (length bytes) capacity && eqb (length words) capacity

-- what fresh answers, and the monitor that it leaves
pub record Fresh : Type 0 where
  pub refused : Option ℕ
  pub monitor : Monitor

-- "it is given no head, so beside 10 it returns the empty one"
unfoldable pub freshened : ℕ → List ℕ → List ℕ → Option ℕ → Fresh
freshened capacity bytes words (Some n) =
    record { refused = Some n; monitor = record { head = head_of empty; bytes = bytes; words = words } }
freshened capacity bytes words None =
    record {
      refused = None;
      monitor = record { head = head_of empty; bytes = replicate capacity 0; words = replicate capacity 0 };
    }

-- "Fresh sets both counts to 0, no verdict, areas all 0. It refuses 10, an area of another length"
unfoldable pub fresh_of : ℕ → List ℕ → List ℕ → Fresh
fresh_of capacity bytes words = freshened capacity bytes words (refusal ((sized capacity bytes words, 10) ∷ []))

-- "Offer (event, fuel)" and "Go on (fuel)"
pub data Call : Type 0 where
  Offer : ℕ → ℕ → Call
  GoOn : ℕ → Call

unfoldable pub fuel_of : Call → ℕ
fuel_of (Offer event fuel) = fuel
fuel_of (GoOn fuel) = fuel

-- "7; 9, the table does not begin with the words that compile gives for this image; 10; 11, head and areas are not as
-- described, or a settled state has a match, or the verdict isn't that of its rule"
unfoldable pub lent_checks : ℕ → List ℕ → List ℕ → Monitor → List Check
lent_checks capacity image table m =
    table_checks image table
    ++ (sized capacity m.bytes m.words, 10)
    ∷ (described (read image) capacity m, 11)
    ∷ []

-- "13, fuel above 65,535"
abbrev pub fuel_most : ℕ
fuel_most = 65535

unfoldable pub fuel_check : ℕ → Check
fuel_check fuel = (leb fuel fuel_most, 13)

-- "14, a verdict stands"
unfoldable pub verdict_check : Head → Check
verdict_check head = (is_none head.verdict, 14)

-- Behind those of lent_checks, offer refuses "12, not an event; 13 ..; 14 ..; 15, a + w is 2,048", and go on "13, 14".
unfoldable pub call_checks : RuleSet → ℕ → Head → Call → List Check
call_checks set capacity head (Offer event fuel) =
    (ltb event set.events, 12)
    ∷ fuel_check fuel
    ∷ verdict_check head
    ∷ (not (eqb (head.settled + head.waiting) capacity), 15)
    ∷ []
call_checks set capacity head (GoOn fuel) = fuel_check fuel ∷ verdict_check head ∷ []

-- the state that the call runs from: "the event becomes the last waiting symbol"
unfoldable pub offered : State → Call → State
offered s (Offer event fuel) =
    record { settled = s.settled; waiting = s.waiting ++ event ∷ []; verdict = s.verdict; rule = s.rule }
offered s (GoOn fuel) = s

-- what a call answers and counts, and the monitor that it leaves: "The head comes back beside the answer"
pub record Outcome : Type 0 where
  pub answer : Result Answer ℕ
  pub counts : Counts
  pub monitor : Monitor

-- "Every refusal returns its number, the head as given, any counts 0, and changes nothing lent."
abbrev pub refusal_of : ℕ → Monitor → Outcome
refusal_of n m = record { answer = Err n; counts = no_counts; monitor = m }

-- a refusal, or what the run r leads to
unfoldable pub outcome : RuleSet → ℕ → Monitor → Option ℕ → Run → Outcome
outcome set capacity m (Some n) r = refusal_of n m
outcome set capacity m None r =
    record { answer = Ok r.answer; counts = r.counts; monitor = monitor_of set.rules capacity r.state }

-- the call is refused by the first of the checks that fails. "Otherwise .. the call runs."
unfoldable pub decided : RuleSet → ℕ → Monitor → List Check → Call → Outcome
decided set capacity m checks c =
    outcome set capacity m (refusal checks) (run set.rules capacity (fuel_of c) (offered (state_of m) c))

-- Offer refuses, in order, 7, 9, 10, 11, 12, 13, 14 and 15; go on 7, 9, 10, 11, 13 and 14.
unfoldable pub call_of : ℕ → List ℕ → List ℕ → Monitor → Call → Outcome
call_of capacity image table m c =
    decided (read image) capacity m
    (lent_checks capacity image table m ++ call_checks (read image) capacity m.head c)
    c

-- the two, each by its name
unfoldable pub offer_of : ℕ → List ℕ → List ℕ → Monitor → ℕ → ℕ → Outcome
offer_of capacity image table m event fuel = call_of capacity image table m (Offer event fuel)

unfoldable pub go_on_of : ℕ → List ℕ → List ℕ → Monitor → ℕ → Outcome
go_on_of capacity image table m fuel = call_of capacity image table m (GoOn fuel)

-- "0 Quiet, 1 Spent, 2 Full, 16 + verdict". A refusal is told by `refused_by`, and has 0 here.
unfoldable pub answer_number : Result Answer ℕ → ℕ
answer_number (Ok Answer.Quiet) = 0
answer_number (Ok Answer.Spent) = 1
answer_number (Ok Answer.Full) = 2
answer_number (Ok (Answer.Verdict v)) = 16 + v
answer_number (Err n) = 0
