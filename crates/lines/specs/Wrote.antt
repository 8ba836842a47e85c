-- How the functions that write a line speak of it, and what they ask of an outcome.
use Rattle.std.specs.Prelude.{ℕ, ◌+◌, ◌≤◌, ◌<◌, ◌≡◌, true, List, [], ◌++◌, length, take, drop}
use Rattle.rewriting.specs.Lists.{below}
use Rattle.machine.specs.declared.Answer.{Answer}
use Rattle.machine.specs.Calls.{Outcome}
use Rattle.machine.specs.Play.{string_of}
use Rattle.machine.specs.Areas.{document_capacity}
use Rattle.lines.specs.declared.Line.{Line}

-- a line that is being written: its bytes so far, and the rest of its area, as it was
pub record Written : Type 0 where
  pub bytes : List ℕ
  pub behind : List ℕ

-- the area: the bytes that are written, and those behind them
abbrev pub area : Written → List ℕ
area l = l.bytes ++ l.behind

-- nothing is written, whatever the area holds
abbrev pub empty : List ℕ → Written
empty l = record { bytes = []; behind = l }

-- x is written behind what was there, and what is behind x stays as it was
abbrev pub with : List ℕ → Written → Written
with x l = record { bytes = l.bytes ++ x; behind = drop (length x) l.behind }

-- that, and there was room for it
pub record Writes (x : List ℕ) (old new : Written) : Type 0 where
  pub line : new ≡ with x old
  pub room : length x ≤ length old.behind

-- what is written in a line as the code has it, and its area
abbrev pub written_in : {N : ℕ} → Line N → Written
written_in l = record { bytes = take l.written l.area.now; behind = drop l.written l.area.now }

abbrev pub area_in : {N : ℕ} → Line N → List ℕ
area_in l = l.area.now

-- both lines write into the same array: the reference that was lent is still there
abbrev pub SameArea : {N : ℕ} → Line N → Line N → Type 0
SameArea old new = new.area.ghost_name ≡ old.area.ghost_name

-- `Writes` of such lines, and the area is still the one that was lent
pub record WritesIn {N : ℕ} (x : List ℕ) (old new : Line N) : Type 0 where
  pub line : written_in new ≡ with x (written_in old)
  pub room : length x ≤ length (written_in old).behind
  pub same : SameArea old new

-- a verdict has a slot
abbrev pub HasSlot : Answer → Type 0
HasSlot Answer.Quiet = Unit {0}
HasSlot Answer.Spent = Unit {0}
HasSlot Answer.Full = Unit {0}
HasSlot (Answer.Verdict v) = v < 16

-- what an outcome keeps to where it is no refusal
pub record Small (o : Outcome) : Type 0 where
  pub steps : o.counts.steps ≤ 1000
  pub rewrites : o.counts.rewrites ≤ 1000
  pub string : o.monitor.head.settled + o.monitor.head.waiting ≤ document_capacity
  pub slots : below 48 (string_of o.monitor) ≡ true
