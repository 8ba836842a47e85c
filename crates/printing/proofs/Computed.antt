-- What `watch` prints for document 01's sample, and for inputs at the edges, computed.
-- Assumes nothing.
use Prim.Native.String.{String}
use Prim.Native.Nat.{ℕ, zero, suc}
use mathlib.Core.Path.{◌≡◌, refl, ◌∙◌}
use mathlib.Core.Bool.{true}
use mathlib.Core.List.{List, [], ◌++◌, flat_map}
use lib.Dec.{ltb}
use lib.ListN.{length, replicate, length-replicate}
use borrow.Author.Tests.{ltb-true}
use Rattle.rewriting.specs.Rules.{symbols_of, rule, right_in_range, rule_in_range, in_range}
use Rattle.rewriting.specs.Occurrences.{lowest, spanning, tie, ending}
use Rattle.layout.specs.Image.{kind, length_or_verdict, mark_byte, contents, body, image_of, read_right, read_rule, read_rules}
use Rattle.layout.specs.Image.{read, valid}
use Rattle.layout.specs.Refusals.{refusal}
use Rattle.layout.specs.States as States
use Rattle.layout.specs.Table.{table_most, match_word, row, table_of}
use Rattle.machine.specs.State.{empty, active, replace, settle, step}
use Rattle.machine.specs.Run as Run
use Rattle.machine.specs.Areas.{head_of, area_of, bytes_of, states_after, words_of, monitor_of, state_of, no_match, unmatched}
use Rattle.machine.specs.Areas.{closes_with, stands_by, holds, described}
use Rattle.machine.specs.Calls as Calls
use Rattle.machine.specs.Play.{string_of}
use Rattle.grammar.specs.Tokens.{separator, letter, digit, name_byte, is_name, token_of, unbroken, runs_from, runs}
use Rattle.grammar.specs.Names.{number_of, or_new, numbered, slot, slots}
use Rattle.grammar.specs.Grammar as Grammar
use Rattle.grammar.specs.Read as Read
use Rattle.grammar.specs.Lookup.{slot_at, symbol_named}
use Rattle.printing.specs.Lines as Lines
use Rattle.printing.specs.Lines.{decimal}
use Rattle.printing.specs.Watch as Watch
use Rattle.printing.specs.Watch.{printed}
use Rattle.printing.specs.Turns.{Areas, areas, begin_of, line_most, written_by}
use Rattle.printing.specs.Ascii.{bytes}
use Rattle.printing.specs.Sample.{sample_input, sample_output}
use Rattle.printing.proofs.WatchTheorem.{watch_theorem}

-- Three names of no fact: `unfolding reads` opens every definition that it names at once, and so do the others.

-- the reader of texts and names
reads : Unit {0}
unfolding
    bytes separator letter digit name_byte is_name token_of unbroken runs_from runs number_of or_new numbered slot slots slot_at
    symbol_named
    Grammar.begun Grammar.placed Grammar.with_symbol Grammar.symbol Grammar.event Grammar.side_symbol Grammar.first_symbol
    Grammar.name
    Grammar.with_verdict Grammar.right_word Grammar.word Grammar.arrow Grammar.mark Grammar.close_events Grammar.close_rule
    Grammar.stop
    Grammar.after_token Grammar.after_run Grammar.complete Grammar.rule_set_of Read.ended Read.or_broken Read.read_runs
    Read.read_text Read.names_of Read.unless
reads = tt

-- image, table and monitor
runs_on : Unit {0}
unfolding
    flat_map rule right_in_range rule_in_range in_range lowest spanning tie ending kind length_or_verdict mark_byte symbols_of
    contents body image_of
    read_right read_rule read_rules read valid refusal States.pattern States.is_prefix States.state States.next States.starts
    States.symbols_in
    States.matching States.prefixes States.known States.numbered States.has_mark States.first_states States.states States.number
    match_word row table_of empty active replace settle step Run.no_counts Run.plus Run.counts_of Run.ended Run.counted Run.fits
    Run.proceed Run.tests Run.run head_of area_of bytes_of states_after words_of monitor_of state_of no_match unmatched
    closes_with stands_by
    holds described Calls.sized Calls.fuel_of Calls.lent_checks Calls.fuel_check Calls.verdict_check Calls.call_checks
    Calls.offered
    Calls.outcome Calls.decided Calls.call_of Calls.offer_of string_of
runs_on = tt

-- the lines
prints : Unit {0}
unfolding
    Lines.digits Lines.decimal Lines.name_in Lines.joined Lines.answer_word Lines.counted Lines.told Lines.event_line
    Lines.refused_line
    Lines.too_long_line Watch.rule_part Watch.event_part Watch.fresh_monitor Watch.begun Watch.holding Watch.offered
    Watch.offered_name
    Watch.line_for Watch.event_lines Watch.rule_text_read Watch.reported Watch.printed
prints = tt

-- The sample of document 01.
pub sample-printed : printed sample_input ≡ sample_output
unfolding reads runs_on prints
sample-printed = refl

-- "Numbers are in base ten."
pub decimals :
    (decimal 0 ≡ bytes "0")
    × (decimal 9 ≡ bytes "9")
    × (decimal 10 ≡ bytes "10")
    × (decimal 109 ≡ bytes "109")
    × (decimal 1000 ≡ bytes "1000")
    × (decimal 16384 ≡ bytes "16384")
unfolding reads prints
decimals = (refl, refl, refl, refl, refl, refl)

-- For the first text, the second is printed.
abbrev pub Prints : String → String → Type 0
Prints input output = printed (bytes input) ≡ bytes output

-- "A refused text prints `rules refused`, number, place.", and no event is offered
pub text_refused :
    Prints "events ring." "rules refused 3 7\n"
    × Prints "" "rules refused 4 0\n"
    × Prints "% a" "rules refused 4 0\n"
    × Prints "events a . a -> % a" "rules refused 4 16\n"
    × Prints "events a b a . % a" "rules refused 6 11\n"
unfolding reads runs_on prints
text_refused = (refl, refl, refl, refl, refl)

-- "without one it is the whole input, and no event is offered"
pub no_events : Prints "events a ." "" × Prints "events a . %" "" × Prints "events a . % \n" ""
unfolding reads runs_on prints
no_events = (refl, refl, refl)

-- "after the first `%`, by the same separators": it may touch what is around it, and a later one is a byte like others
pub separated :
    Prints "events a b .%a" "a quiet 1 0 a\n"
    × Prints "events a b . % a\tb\r\na\n" "a quiet 1 0 a\nb quiet 1 0 a,b\na quiet 1 0 a,b,a\n"
    × Prints "events a b . % a % b%" "a quiet 1 0 a\n% refused 12\nb% refused 12\n"
unfolding reads runs_on prints
separated = (refl, refl, refl)

-- "an unknown name is 12", and so is a symbol that is no event; a name of 24 bytes may be known, one of 25 is not
pub name_unknown :
    Prints "events a . a -> b . % c b a" "c refused 12\nb refused 12\na quiet 2 1 b\n"
    × Prints "events abcdefghijklmnopqrstuvwx . % abcdefghijklmnopqrstuvwx abcdefghijklmnopqrstuvwxy"
    "abcdefghijklmnopqrstuvwx quiet 1 0 abcdefghijklmnopqrstuvwx\nabcdefghijklmnopqrstuvwxy refused 12\n"
unfolding reads runs_on prints
name_unknown = (refl, refl)

-- "`#` with the verdict's name"; then each event is refused, by "14, a verdict stands"
pub verdict_printed :
    Prints "events a b . b a -> #stop . % a b a b c" "a quiet 1 0 a\nb quiet 1 0 a,b\na #stop 1 1 a\nb refused 14\nc refused 12\n"
unfolding reads runs_on prints
verdict_printed = refl

-- document 02, No. 1: `^ take` fails where nothing stands before it
pub mark-printed :
    Prints "events lock take . ^ take -> #fail . lock take -> held . % lock take take"
    "lock quiet 1 0 lock\ntake quiet 2 1 held\ntake quiet 1 0 held,take\n"
    × Prints "events lock take . ^ take -> #fail . % take" "take #fail 1 1 -\n"
unfolding reads runs_on prints
mark-printed = (refl, refl)

-- "offered with fuel 1,000"; the waiting symbols stand behind the settled ones
pub spent_printed :
    Prints "events a b . a -> a . % b a b" "b quiet 1 0 b\na spent 1000 1000 b,a\nb spent 1000 1000 b,a,b\n"
unfolding reads runs_on prints
spent_printed = refl

-- n times the same
unfoldable pub times : ℕ → List ℕ → List ℕ
times zero part = []
times (suc n) part = part ++ times n part

-- 2,045 symbols, and the next step would make them 2,052
pub full_printed :
    printed (bytes "events a . a -> a a a a a a a a . % a") ≡ bytes "a full 292 292 a" ++ times 2044 (bytes ",a") ++ bytes "\n"
unfolding reads runs_on prints times
full_printed = refl

-- "at most 20,480 bytes of standard input, else prints `input too long`"; "1, over 16,384 bytes". The last has 20,480 bytes.
pub input_long :
    (printed (replicate 20481 32) ≡ bytes "input too long\n")
    × (printed (replicate 20480 32) ≡ bytes "rules refused 1 0\n")
    × (printed (replicate 16385 32 ++ bytes "%") ≡ bytes "rules refused 1 0\n")
    × (printed (replicate 16384 32 ++ bytes "%") ≡ bytes "rules refused 4 16384\n")
    × (printed (bytes "events a .%" ++ replicate 20468 32 ++ bytes "a") ≡ bytes "a quiet 1 0 a\n")
unfolding reads runs_on prints
input_long = (refl, refl, refl, refl, refl)

-- Areas as the program has them, and what `begin` and `next` write for the sample with them: a case of `watch_theorem`.
abbrev zeros : Areas
zeros =
    areas (replicate 1284 0) (replicate 1200 0) (replicate table_most 0) (replicate 2048 0) (replicate 2048 0)
    (replicate line_most 0)

sample_short : ltb (length sample_input) 200 ≡ true
unfolding bytes
sample_short = refl

pub sample-written :
    written_by 200 sample_input (begin_of sample_input zeros).answer (begin_of sample_input zeros).areas ≡ sample_output
sample-written =
    watch_theorem sample_input zeros (length-replicate {A = ℕ} 1200 0) 200 (ltb-true (length sample_input) 200 sample_short)
    ∙ sample-printed
