-- The sample's text as it is read, and texts at the edges of the grammar, computed.
-- Assumes nothing.
use Rattle.std.specs.Prelude.{Ok, Err}
use Prim.Native.Char.{code}
use Prim.Native.String.{String, [] as no_text, ◌∷◌ as ◌then◌}
use Prim.Native.Nat.{ℕ, zero, suc}
use mathlib.Core.Path.{◌≡◌, refl}
use mathlib.Core.List.{List, [], ◌∷◌, ◌++◌, flat_map}
use lib.ListN.{length, take, drop, replicate}
use Rattle.rewriting.specs.Lists.{over}
use Rattle.rewriting.specs.Rules.{Put, Close, ◌⇒◌, at_start, symbols_of}
use Rattle.rewriting.specs.Sample.{sample}
use Rattle.layout.specs.Image.{kind, length_or_verdict, mark_byte, contents, body, image_of}
use Rattle.layout.specs.Refusals.{refusal}
use Rattle.grammar.specs.Tokens.{separator, letter, digit, name_byte, is_name, token_of, unbroken, runs_from, runs}
use Rattle.grammar.specs.Names.{number_of, or_new, numbered, slot, slots}
use Rattle.grammar.specs.Grammar.{
  Between,
  Reading,
  begun,
  placed,
  with_symbol,
  symbol,
  event,
  side_symbol,
  first_symbol,
  name,
  with_verdict,
  right_word,
  word,
  arrow,
  mark,
  close_events,
  close_rule,
  stop,
  after_token,
  after_run,
  complete,
  rule_set_of,
}
use Rattle.grammar.specs.Read.{ReadText, ended, or_broken, read_runs, read_text, names_of, read_checks, written, unless, read_of}

-- the bytes of a text in ASCII
unfoldable pub bytes : String → List ℕ
bytes no_text = []
bytes (c then s) = code c ∷ bytes s

-- names no fact: `unfolding computes` opens every definition of the reader at once
computes : Unit {0}
unfolding
    bytes separator letter digit name_byte is_name token_of unbroken runs_from runs number_of or_new numbered
    begun placed with_symbol symbol event side_symbol first_symbol name with_verdict right_word word arrow mark close_events
    close_rule stop
    after_token after_run complete rule_set_of ended or_broken read_runs read_text
computes = tt

-- the same for the two areas
whole : Unit {0}
unfolding
    slot slots names_of image_of kind length_or_verdict mark_byte contents body symbols_of flat_map over refusal read_checks
    written unless read_of
whole = tt

-- The sample of document 01.
abbrev pub sample_text : List ℕ
sample_text = bytes "events lock take free . lock take -> held . held free -> #epsilon . take -> #fail ."

unfoldable pub sample_read : Reading
sample_read =
    record {
      symbols = bytes "lock" ∷ bytes "take" ∷ bytes "free" ∷ bytes "held" ∷ [];
      words = bytes "fail" ∷ bytes "succeed" ∷ [];
      events = 3;
      rules = (0 ∷ 1 ∷ [] ⇒ Put (3 ∷ [])) ∷ (3 ∷ 2 ∷ [] ⇒ Put []) ∷ (1 ∷ [] ⇒ Close 0) ∷ [];
      place = Between;
    }

pub sample-read : read_text sample_text ≡ Ok sample_read
unfolding computes sample_read
sample-read = refl

pub sample-rules : rule_set_of sample_read ≡ sample
unfolding computes sample_read sample
sample-rules = refl

pub sample_image :
    image_of (rule_set_of sample_read)
    ≡ 4 ∷ 3 ∷ 2 ∷ 3 ∷ 2 ∷ 0 ∷ 1 ∷ 0 ∷ 2 ∷ 0 ∷ 0 ∷ 0 ∷ 1 ∷ 1 ∷ 0 ∷ 0 ∷ 0 ∷ 1 ∷ 3 ∷ 3 ∷ 2 ∷ 1 ∷ []
unfolding computes sample_read image_of contents body kind length_or_verdict mark_byte symbols_of flat_map
sample_image = refl

-- its first name, and the first of its words
pub sample_names :
    (take 25 (names_of sample_read) ≡ 4 ∷ (bytes "lock" ++ replicate 20 0))
    × (take 25 (drop 800 (names_of sample_read)) ≡ 4 ∷ (bytes "fail" ++ replicate 20 0))
unfolding computes sample_read names_of slots slot flat_map
sample_names = (refl, refl)

-- No word is reserved: neither `events`, nor the words' names for symbols. Any separators will do.
pub events_event :
    read_text (bytes "events events . events -> events .")
    ≡ Ok
    (record {
      symbols = bytes "events" ∷ [];
      words = bytes "fail" ∷ bytes "succeed" ∷ [];
      events = 1;
      rules = (0 ∷ [] ⇒ Put (0 ∷ [])) ∷ [];
      place = Between;
    })
unfolding computes
events_event = refl

-- The text is refused so, with this place.
abbrev pub RefusedText : String → ℕ → ℕ → Type 0
RefusedText text n place = read_text (bytes text) ≡ Err (n, place)

-- The text is good, with so many symbols, words, events and rules.
unfoldable pub sizes : ReadText → List ℕ
sizes (Ok s) = length s.symbols ∷ length s.words ∷ s.events ∷ length s.rules ∷ []
sizes (Err (n, place)) = []

abbrev pub Sizes : List ℕ → ℕ → ℕ → ℕ → ℕ → Type 0
Sizes text symbols words events rules = sizes (read_text text) ≡ symbols ∷ words ∷ events ∷ rules ∷ []

-- A symbol may be called `fail`, a word `events`; `#fail`, `#succeed` and `#epsilon` are no new words. Any separators will
-- do, and more of them behind the last `.`.
pub plain_names :
    Sizes (bytes "events fail . fail -> #events .") 1 3 1 1
    × Sizes (bytes "events a . a -> #succeed . a -> #fail . a -> #epsilon . a -> #x . a -> #x .") 1 3 1 5
    × Sizes (bytes "\n events\ta\r\n.\n\n") 1 2 1 0
unfolding computes sizes
plain_names = (refl, refl, refl)

-- "3, not a token": a run of other bytes is one token or none, and only space, tab, CR and LF separate
pub text_no_token :
    RefusedText "events a." 3 7
    × RefusedText "events a . a->b ." 3 11
    × RefusedText "events a . a -> #fail." 3 16
    × RefusedText "events\u{b}a ." 3 0
    × RefusedText "events 1a ." 3 7
    × RefusedText "events _a ." 3 7
    × RefusedText "events a . # ." 3 11
    × RefusedText "events a . a -> ##a ." 3 16
unfolding computes
text_no_token = (refl, refl, refl, refl, refl, refl, refl, refl)

-- a name has at most 24 bytes, that of a `#` word too
pub text_long_name :
    Sizes (bytes "events abcdefghijklmnopqrstuvwx . a -> #abcdefghijklmnopqrstuvwx .") 2 3 1 1
    × RefusedText "events abcdefghijklmnopqrstuvwxy ." 3 7
    × RefusedText "events a . a -> #abcdefghijklmnopqrstuvwxy ." 3 16
unfolding computes sizes
text_long_name = (refl, refl, refl)

-- "4, .. or the text ended": the place is the text's length
pub text-ends :
    RefusedText "" 4 0
    × RefusedText "events" 4 6
    × RefusedText "events a " 4 9
    × RefusedText "events a . a" 4 12
    × RefusedText "events a . a -> #x\n" 4 19
unfolding computes
text-ends = (refl, refl, refl, refl, refl)

-- "4, not allowed here"
pub not_here :
    RefusedText "a" 4 0
    × RefusedText "#events a ." 4 0
    × RefusedText "events ." 4 7
    × RefusedText "events a #b ." 4 9
    × RefusedText "events a . ." 4 11
    × RefusedText "events a . -> a ." 4 11
    × RefusedText "events a . a . a" 4 13
    × RefusedText "events a . a -> ." 4 16
    × RefusedText "events a . a -> -> a ." 4 16
    × RefusedText "events a . a -> #x #y ." 4 19
    × RefusedText "events a . a -> a #x ." 4 18
    × RefusedText "events a . a -> #epsilon a ." 4 25
unfolding computes
not_here = (refl, refl, refl, refl, refl, refl, refl, refl, refl, refl, refl, refl)

-- A side has at most eight names; a `#` word in the ninth place is 4. The list of events is no side.
pub ninth_name :
    Sizes (bytes "events a . a a a a a a a a -> a a a a a a a a .") 1 2 1 1
    × RefusedText "events a . a a a a a a a a a -> a ." 5 27
    × RefusedText "events a . a -> a a a a a a a a a ." 5 32
    × RefusedText "events a . a -> a a a a a a a a #x ." 4 32
    × Sizes (bytes "events a b c d e f g h i .") 9 2 9 0
unfolding computes sizes
ninth_name = (refl, refl, refl, refl, refl)

-- "the 33rd symbol": a repeated event as the 33rd name is 6
pub text_symbol_33 :
    Sizes (bytes "events a b c d e f g h i j k l m n o p q r s t u v w x y z A B C D E F .") 32 2 32 0
    × RefusedText "events a b c d e f g h i j k l m n o p q r s t u v w x y z A B C D E F G ." 5 71
    × RefusedText "events a b c d e f g h i j k l m n o p q r s t u v w x y z A B C D E F a ." 6 71
    × RefusedText "events a b c d e f g h i j k l m n o p q r s t u v w x y z A B C D E F . G -> a ." 5 73
unfolding computes sizes
text_symbol_33 = (refl, refl, refl, refl)

-- "6, an event named twice"
pub text_event_twice : RefusedText "events a b a ." 6 11
unfolding computes
text_event_twice = refl

-- n times the same
unfoldable pub times : ℕ → List ℕ → List ℕ
times zero part = []
times (suc n) part = part ++ times n part

-- "the first name of rule 65": `->` or a `#` word there is 4
pub text_rule_65 :
    Sizes (bytes "events a . " ++ times 64 (bytes "a -> a . ")) 1 2 1 64
    × (read_text (bytes "events a . " ++ times 64 (bytes "a -> a . ") ++ bytes "a") ≡ Err (5, 587))
    × (read_text (bytes "events a . " ++ times 64 (bytes "a -> a . ") ++ bytes "->") ≡ Err (4, 587))
    × (read_text (bytes "events a . " ++ times 64 (bytes "a -> a . ") ++ bytes "#x") ≡ Err (4, 587))
unfolding computes sizes times
text_rule_65 = (refl, refl, refl, refl)

-- "the 15th other word"
abbrev fourteen : List ℕ
fourteen =
    bytes "events a . a -> #a . a -> #b . a -> #c . a -> #d . a -> #e . a -> #f . a -> #g . "
    ++ bytes "a -> #h . a -> #i . a -> #j . a -> #k . a -> #l . a -> #m . a -> #n . "

pub word_15 :
    Sizes (fourteen ++ bytes "a -> #a . a -> #fail .") 1 16 1 16
    × (read_text (fourteen ++ bytes "a -> #o .") ≡ Err (5, 156))
unfolding computes sizes
word_15 = (refl, refl)

-- Document 02, No. 1: `^` before a rule's names is no name, and sets the rule's fourth contents byte to 1.
abbrev pub mark_text : List ℕ
mark_text = bytes "events lock take free . lock take -> held . held free -> #epsilon . ^ take -> #fail . held take -> #fail ."

unfoldable pub mark_read : Reading
mark_read =
    record {
      symbols = bytes "lock" ∷ bytes "take" ∷ bytes "free" ∷ bytes "held" ∷ [];
      words = bytes "fail" ∷ bytes "succeed" ∷ [];
      events = 3;
      rules =
          (0 ∷ 1 ∷ [] ⇒ Put (3 ∷ [])) ∷ (3 ∷ 2 ∷ [] ⇒ Put []) ∷ at_start (1 ∷ [] ⇒ Close 0) ∷ (3 ∷ 1 ∷ [] ⇒ Close 0) ∷ [];
      place = Between;
    }

pub mark-read : read_text mark_text ≡ Ok mark_read
unfolding computes mark_read
mark-read = refl

-- "28 bytes"
pub mark_image :
    image_of (rule_set_of mark_read)
    ≡ 4 ∷ 4 ∷ 2 ∷ 3 ∷ 2 ∷ 0 ∷ 1 ∷ 0 ∷ 2 ∷ 0 ∷ 0 ∷ 0 ∷ 1 ∷ 1 ∷ 0 ∷ 1 ∷ 2 ∷ 1 ∷ 0 ∷ 0 ∷ 0 ∷ 1 ∷ 3 ∷ 3 ∷ 2 ∷ 1 ∷ 3 ∷ 1 ∷ []
unfolding computes whole mark_read
mark_image = refl

-- "before 1 to 8 names", with any right side; the ninth name is 5
pub mark_names :
    Sizes (bytes "events a . ^ a a a a a a a a -> a . ^ a -> #epsilon . ^ b -> #x .") 2 3 1 3
    × RefusedText "events a . ^ a a a a a a a a a -> a ." 5 29
unfolding computes sizes
mark_names = (refl, refl)

-- `^` and a name in one run are no token, nor are two `^`
pub mark_no_token :
    RefusedText "events a . ^a -> a ." 3 11
    × RefusedText "events a . a^ -> a ." 3 11
    × RefusedText "events a . ^^ a -> a ." 3 11
unfolding computes
mark_no_token = (refl, refl, refl)

-- "A misplaced `^` is refusal 4": first, among the events, behind `^` or a name, and in or behind a right side
pub mark_misplaced :
    RefusedText "^ events a ." 4 0
    × RefusedText "events ^ a ." 4 7
    × RefusedText "events a ^ ." 4 9
    × RefusedText "events a . ^ ^ a -> a ." 4 13
    × RefusedText "events a . a ^ -> a ." 4 13
    × RefusedText "events a . a a a a a a a a ^ -> a ." 4 27
    × RefusedText "events a . a -> ^ a ." 4 16
    × RefusedText "events a . a -> a ^ ." 4 18
    × RefusedText "events a . a -> #x ^ ." 4 19
unfolding computes
mark_misplaced = (refl, refl, refl, refl, refl, refl, refl, refl, refl)

-- behind `^` only a name may stand, and the text may not end
pub behind_mark :
    RefusedText "events a . ^ -> a ." 4 13
    × RefusedText "events a . ^ #x ." 4 13
    × RefusedText "events a . ^ ." 4 13
    × RefusedText "events a . ^" 4 12
    × RefusedText "events a . ^ " 4 13
unfolding computes
behind_mark = (refl, refl, refl, refl, refl)

-- where rule 65 would begin, `^` is taken, and the name behind it is its first
pub mark_65 :
    (read_text (bytes "events a . " ++ times 64 (bytes "a -> a . ") ++ bytes "^ a") ≡ Err (5, 589))
    × (read_text (bytes "events a . " ++ times 64 (bytes "a -> a . ") ++ bytes "^ ->") ≡ Err (4, 589))
    × (read_text (bytes "events a . " ++ times 64 (bytes "a -> a . ") ++ bytes "^") ≡ Err (4, 588))
unfolding computes times
mark_65 = (refl, refl, refl)

-- "It returns the image's length; bytes beyond either stay.": the sample into areas that are one byte longer than needed
pub sample-taken :
    ((read_of sample_text (replicate 1285 9) (replicate 1201 9)).answer ≡ Ok 22)
    × (drop 22 (read_of sample_text (replicate 1285 9) (replicate 1201 9)).image ≡ replicate 1263 9)
    × (drop 1200 (read_of sample_text (replicate 1285 9) (replicate 1201 9)).names ≡ 9 ∷ [])
unfolding computes whole
sample-taken = (refl, refl, refl)

-- a refused text, and both areas as they were
pub text_refused :
    read_of (bytes "events a b a .") (replicate 1284 9) (replicate 1200 9)
    ≡ record { answer = Err (6, 11); image = replicate 1284 9; names = replicate 1200 9 }
unfolding computes whole
text_refused = refl

-- "2, image area under 1,284 or name area under 1,200", also where the text breaks
pub area_short :
    ((read_of sample_text (replicate 1283 9) (replicate 1200 9)).answer ≡ Err (2, 0))
    × ((read_of sample_text (replicate 1284 9) (replicate 1199 9)).answer ≡ Err (2, 0))
    × ((read_of (bytes "events .") (replicate 1283 9) (replicate 1200 9)).answer ≡ Err (2, 0))
unfolding computes whole
area_short = (refl, refl, refl)

-- "1, over 16,384 bytes", before 2; 16,384 are read
pub long_text :
    ((read_of (replicate 16385 32) [] []).answer ≡ Err (1, 0))
    × ((read_of (replicate 16384 32) [] []).answer ≡ Err (2, 0))
    × ((read_of (replicate 16384 32) (replicate 1284 9) (replicate 1200 9)).answer ≡ Err (4, 16384))
unfolding computes whole
long_text = (refl, refl, refl)
