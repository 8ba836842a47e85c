-- `begin` and `next`, as functions of all that is lent to them; and that what they write, line after line, is what `watch`
-- prints.
use Rattle.std.specs.Prelude.{ℕ, zero, suc, ◌+◌, ◌*◌, ◌-◌, ◌≤◌, ◌<◌, ◌≡◌, cond, List, [], ◌∷◌, ◌++◌, leb, length, take, drop, Ok}
use Rattle.std.specs.Prelude.{Err}
use Rattle.rewriting.specs.Lists.{over}
use Rattle.layout.specs.Image.{image_of}
use Rattle.layout.specs.Table.{table_of}
use Rattle.machine.specs.Areas.{document_capacity, Head, Monitor}
use Rattle.machine.specs.Lent.{monitor_in}
use Rattle.grammar.specs.Tokens.{unbroken}
use Rattle.grammar.specs.FirstRun.{gap}
use Rattle.grammar.specs.Grammar.{Reading, rule_set_of}
use Rattle.grammar.specs.Read.{ReadText, names_of}
use Rattle.printing.specs.Lines.{refused_line, too_long_line}
use Rattle.printing.specs.Watch.{input_most, rule_part, event_part, Watch, holding, fresh_monitor, offered_name, line_for}
use Rattle.printing.specs.Watch.{rule_text_read, printed}
use Rattle.grammar.specs.Names.{names_size}

-- The most bytes that a line has: a name of 24 bytes, `#` and 24 bytes, two numbers of four digits, each with a space behind
-- it, and 2,048 names of 24 bytes, each with a comma or the line's end behind it.
abbrev pub line_most : ℕ
line_most = 25 + 26 + 5 + 5 + document_capacity * 25

-- a line, where the next name is looked for in the input, and the monitor then
pub record Next : Type 0 where
  pub line : List ℕ
  pub at : ℕ
  pub monitor : Monitor

-- no name is left: nothing is written
unfoldable pub nothing : Watch → ℕ → Next
nothing w at = record { line = []; at = at; monitor = w.monitor }

-- the name x is offered, and ends before the place `end`
unfoldable pub offering : Watch → ℕ → List ℕ → Next
offering w end x = record { line = line_for w x; at = end; monitor = (offered_name w x).monitor }

unfoldable pub named : Watch → ℕ → ℕ → List ℕ → Next
named w at end [] = nothing w at
named w at end (b ∷ x) = offering w end (b ∷ x)

-- the first name of a part of the input that begins at this place
unfoldable pub first_named : Watch → ℕ → List ℕ → Next
first_named w at part =
    named w at (at + (gap part + length (unbroken (drop (gap part) part)))) (unbroken (drop (gap part) part))

-- The next line of whatever input, from whatever place. An input that is too long has no names.
unfoldable pub next_of : Watch → List ℕ → ℕ → Next
next_of w input at = cond (leb (length input) input_most) (first_named w at (drop at input)) (nothing w at)

-- The walk over the event names: the monitor's head, where in the input the next name is looked for, and how long the image and
-- the table are.
pub record Walk : Type 0 where
  pub head : Head
  pub at : ℕ
  pub image : ℕ
  pub table : ℕ

-- what `next` answers, and the areas that it leaves: its line stands at the beginning of the buffer
pub record Turn : Type 0 where
  pub walk : Walk
  pub length : ℕ
  pub bytes : List ℕ
  pub words : List ℕ
  pub buffer : List ℕ

unfoldable pub turn_of : Walk → Next → List ℕ → Turn
turn_of walk n buffer =
    record {
      walk = record { head = n.monitor.head; at = n.at; image = walk.image; table = walk.table };
      length = length n.line;
      bytes = n.monitor.bytes;
      words = n.monitor.words;
      buffer = over n.line buffer;
    }

-- image, table, names and monitor, as they are lent
abbrev pub watch_with : Walk → List ℕ → List ℕ → List ℕ → List ℕ → List ℕ → Watch
watch_with walk image table names bytes words =
    record { image = image; table = table; names = names; monitor = monitor_in walk.head bytes words }

-- the image and the table are the first parts of their areas
abbrev pub watch_in : Walk → List ℕ → List ℕ → List ℕ → List ℕ → List ℕ → Watch
watch_in walk image table names bytes words = watch_with walk (take walk.image image) (take walk.table table) names bytes words

-- what is lent to `begin`
pub record Areas : Type 0 where
  pub image : List ℕ
  pub names : List ℕ
  pub table : List ℕ
  pub bytes : List ℕ
  pub words : List ℕ
  pub line : List ℕ

abbrev pub areas : List ℕ → List ℕ → List ℕ → List ℕ → List ℕ → List ℕ → Areas
areas image names table bytes words line =
    record { image = image; names = names; table = table; bytes = bytes; words = words; line = line }

-- how an input begins: with a message of so many bytes and nothing else, or with events to offer
pub data Begun : Type 0 where
  Message : ℕ → Begun
  Events : Walk → Begun

-- what it answers, and the areas as it leaves them
pub record Begins : Type 0 where
  pub answer : Begun
  pub areas : Areas

abbrev pub begins_from : Begun → Areas → Begins
begins_from answer l = record { answer = answer; areas = l }

-- a message is inside the buffer
abbrev pub Inside : Begun → Type 0
Inside (Message n) = n ≤ line_most
Inside (Events walk) = Unit {0}

-- nothing but a message is written
unfoldable pub message : List ℕ → Areas → Begins
message m l =
    record {
      answer = Message (length m);
      areas =
          record {
            image = l.image;
            names = l.names;
            table = l.table;
            bytes = l.bytes;
            words = l.words;
            line = over m l.line;
          };
    }

-- where the event part begins; without a `%` at the end of the input
unfoldable pub events_at : List ℕ → ℕ
events_at input = length input - length (event_part input)

-- image, table and names of a good text, and a fresh monitor
unfoldable pub started : Reading → ℕ → Areas → Begins
started s at l =
    record {
      answer =
          Events
          (record {
            head = fresh_monitor.head;
            at = at;
            image = length (image_of (rule_set_of s));
            table = length (table_of (rule_set_of s));
          });
      areas =
          record {
            image = over (image_of (rule_set_of s)) l.image;
            names = over (names_of s) l.names;
            table = over (table_of (rule_set_of s)) l.table;
            bytes = fresh_monitor.bytes;
            words = fresh_monitor.words;
            line = l.line;
          };
    }

unfoldable pub begin_read : ReadText → ℕ → Areas → Begins
begin_read (Err (n, place)) at l = message (refused_line n place) l
begin_read (Ok s) at l = started s at l

unfoldable pub begin_of : List ℕ → Areas → Begins
begin_of input l =
    cond (leb (length input) input_most) (begin_read (rule_text_read (rule_part input)) (events_at input) l)
    (message too_long_line l)

-- a line and then the rest, unless it is empty
unfoldable pub then_rest : (Next → List ℕ) → Next → List ℕ → List ℕ
then_rest rest n [] = []
then_rest rest n (b ∷ line) = b ∷ line ++ rest n

-- What is written by asking for the next line over and over, up to the first that is empty, k times at most.
unfoldable pub lines_from : ℕ → Watch → List ℕ → ℕ → List ℕ
lines_from zero w input at = []
lines_from (suc k) w input at =
    then_rest (λ n. lines_from k (holding w n.monitor) input n.at) (next_of w input at) (next_of w input at).line

-- a message, or the lines of the events
unfoldable pub written_by : ℕ → List ℕ → Begun → Areas → List ℕ
written_by k input (Message n) l = take n l.line
written_by k input (Events walk) l =
    lines_from k (watch_in walk l.image l.table l.names l.bytes l.words) input walk.at

-- What `begin`, and then `next` until it writes nothing, give for an input is what `watch` prints for it, whatever the areas
-- held: `watch_theorem` (proofs/WatchTheorem.antt). The names have just their 48 slots.
abbrev pub WatchPrints : Type 0
WatchPrints =
    (input : List ℕ) (l : Areas) → length l.names ≡ names_size → (k : ℕ) → length input < k
    → written_by k input (begin_of input l).answer (begin_of input l).areas ≡ printed input
