-- What `watch` prints for an input: `printed`.
use Rattle.std.specs.Prelude.{ℕ, cond, List, [], ◌∷◌, ◌++◌, eqb, leb, length, replicate, Option, None, Some, Ok, Err}
use Rattle.layout.specs.Image.{image_of}
use Rattle.layout.specs.Refusals.{refusal}
use Rattle.layout.specs.Table.{table_of}
use Rattle.machine.specs.State.{empty}
use Rattle.machine.specs.Areas.{Monitor, document_capacity, head_of}
use Rattle.machine.specs.Calls.{Outcome, refusal_of, offer_of}
use Rattle.grammar.specs.Tokens.{Run, runs}
use Rattle.grammar.specs.Grammar.{Reading, rule_set_of}
use Rattle.grammar.specs.Read.{ReadText, text_most, read_text, names_of, unless}
use Rattle.grammar.specs.Lookup.{symbol_named}
use Rattle.printing.specs.Lines.{event_line, refused_line, too_long_line}

-- `%`
abbrev pub percent : ℕ
percent = 37

-- "The rule text ends before the first `%` (without one it is the whole input, and no event is offered); the event names
-- are those after the first `%`"
unfoldable pub rule_part : List ℕ → List ℕ
rule_part [] = []
rule_part (b ∷ t) = cond (eqb b percent) [] (b ∷ rule_part t)

unfoldable pub event_part : List ℕ → List ℕ
event_part [] = []
event_part (b ∷ t) = cond (eqb b percent) t (event_part t)

-- What `watch` works with: a rule image, its table, the names' slots, a monitor.
pub record Watch : Type 0 where
  pub image : List ℕ
  pub table : List ℕ
  pub names : List ℕ
  pub monitor : Monitor

-- "Fresh sets both counts to 0, no verdict, areas all 0."
unfoldable pub fresh_monitor : Monitor
fresh_monitor =
    record {
      head = head_of empty;
      bytes = replicate document_capacity 0;
      words = replicate document_capacity 0;
    }

-- those of a good text, and a fresh monitor
unfoldable pub begun : Reading → Watch
begun s =
    record {
      image = image_of (rule_set_of s);
      table = table_of (rule_set_of s);
      names = names_of s;
      monitor = fresh_monitor;
    }

-- the same with another monitor
unfoldable pub holding : Watch → Monitor → Watch
holding w m = record { image = w.image; table = w.table; names = w.names; monitor = m }

-- "each name is offered with fuel 1,000"; "an unknown name is 12"
unfoldable pub offered : Watch → Option ℕ → Outcome
offered w None = refusal_of 12 w.monitor
offered w (Some a) = offer_of document_capacity w.image w.table w.monitor a 1000

unfoldable pub offered_name : Watch → List ℕ → Outcome
offered_name w x = offered w (symbol_named w.names x)

-- the line for a name
unfoldable pub line_for : Watch → List ℕ → List ℕ
line_for w x = event_line w.names x (offered_name w x)

-- "one line each"
unfoldable pub event_lines : Watch → List Run → List ℕ
event_lines w [] = []
event_lines w (r ∷ names) = line_for w r.bytes ++ event_lines (holding w (offered_name w r.bytes).monitor) names

-- what the rule text is read as; "1, over 16,384 bytes"
unfoldable pub rule_text_read : List ℕ → ReadText
rule_text_read text = unless (refusal ((leb (length text) text_most, 1) ∷ [])) (read_text text)

-- "A refused text prints `rules refused`, number, place. Then each name is offered"
unfoldable pub reported : ReadText → List ℕ → List ℕ
reported (Err (n, place)) events = refused_line n place
reported (Ok s) events = event_lines (begun s) (runs events)

-- "at most 20,480 bytes of standard input"
abbrev pub input_most : ℕ
input_most = 20480

-- "It reads at most 20,480 bytes of standard input, else prints `input too long`."
unfoldable pub printed : List ℕ → List ℕ
printed input =
    cond (leb (length input) input_most) (reported (rule_text_read (rule_part input)) (event_part input)) too_long_line
