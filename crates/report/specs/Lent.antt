-- How the code speaks of the definitions of the crate printing: its walk, and what it gives back.
use Rattle.std.specs.Prelude.{ℕ, List, length, Option, None, Some}
use Rattle.monitor.specs.Lent.{head_in}
use Rattle.printing.specs.Watch.{Watch}
use Rattle.printing.specs.Turns as Turns
use Rattle.printing.specs.Turns.{Begun, Message, Events, Turn, watch_in}
use Rattle.lines.specs.declared.Line.{Line}
use Rattle.lines.specs.Wrote.{Written, area, written_in, area_in}
use Rattle.report.specs.declared.RuleAreas.{RuleAreas}
use Rattle.report.specs.declared.Walk.{Walk}

-- the walk, as the definitions have it
abbrev pub walk_in : Walk → Turns.Walk
walk_in walk = record { head = head_in walk.head; at = walk.at; image = walk.image; table = walk.table }

-- what `begin` answers, with the line that it leaves: where there are no events to offer, that is a message
abbrev pub begun_in : Option Walk → Written → Begun
begun_in None line = Message (length line.bytes)
begun_in (Some walk) line = Events (walk_in walk)

-- what `next` works with
abbrev pub watched : Walk → RuleAreas → List ℕ → List ℕ → Watch
watched walk r bytes words = watch_in (walk_in walk) r.image.now r.table.now r.names.now bytes words

-- the walk behind a line: where no name is left, the one from before
abbrev pub walk_behind : Walk → Option Walk → Walk
walk_behind walk None = walk
walk_behind walk (Some next) = next

-- what `next` answers, and the areas and the line that it leaves
abbrev pub turn_from : Walk → Option Walk → List ℕ → List ℕ → Written → Turn
turn_from walk r bytes words line =
    record {
      walk = walk_in (walk_behind walk r);
      length = length line.bytes;
      bytes = bytes;
      words = words;
      buffer = area line;
    }

-- that, with the line as the code has it
abbrev pub turn_in : {N : ℕ} → Walk → Option Walk → List ℕ → List ℕ → Line N → Turn
turn_in walk r bytes words line =
    record {
      walk = walk_in (walk_behind walk r);
      length = length (written_in line).bytes;
      bytes = bytes;
      words = words;
      buffer = area_in line;
    }
