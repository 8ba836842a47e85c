-- The grammar: what has been read before a token, and what the token makes of it.
--
--     events NAME NAME ..  .
--     NAME NAME ..  ->  NAME NAME ..  .
--     NAME NAME ..  ->  #word  .
--     ^ NAME NAME ..  ->  ..  .
use Rattle.std.specs.Prelude.{ℕ, Bool, true, false, cond, List, [], ◌∷◌, ◌++◌, ltb, length, Option, None, Some, Result, Ok, Err}
use Rattle.rewriting.specs.Lists.{same}
use Rattle.rewriting.specs.Rules.{Right, Put, Close, Rule, RuleSet}
use Rattle.grammar.specs.Tokens.{Token, Name, Word, Arrow, Stop, Mark}
use Rattle.grammar.specs.Names.{number_of, Numbered, numbered}

-- Where in the grammar a token stands, with the symbols of the rule that it is in.
pub data Place : Type 0 where
  -- at the first token
  First : Place
  -- in the list of events
  Events : Place
  -- behind a `.`: before a rule, or at the end
  Between : Place
  -- behind `^`
  Marked : Place
  -- in a left side, with a mark or without, behind these symbols
  InLeft : Bool → List ℕ → Place
  -- behind this left side and `->`, and these symbols of a right side
  InRight : Bool → List ℕ → List ℕ → Place
  -- behind this left side, `->` and the `#` word of this right side
  Ending : Bool → List ℕ → Right → Place

-- What has been read: "names" with "their symbol" and words with their verdict "by first appearance", E, the rules.
pub record Reading : Type 0 where
  pub symbols : List (List ℕ)
  pub words : List (List ℕ)
  pub events : ℕ
  pub rules : List Rule
  pub place : Place

-- What a token makes of it: it goes on, or the text breaks here, by this refusal.
abbrev pub Taken : Type 0
Taken = Result Reading ℕ

-- `events`, `epsilon`, `fail`, `succeed`
abbrev pub events_word : List ℕ
events_word = 101 ∷ 118 ∷ 101 ∷ 110 ∷ 116 ∷ 115 ∷ []

abbrev pub epsilon_word : List ℕ
epsilon_word = 101 ∷ 112 ∷ 115 ∷ 105 ∷ 108 ∷ 111 ∷ 110 ∷ []

abbrev pub fail_word : List ℕ
fail_word = 102 ∷ 97 ∷ 105 ∷ 108 ∷ []

abbrev pub succeed_word : List ℕ
succeed_word = 115 ∷ 117 ∷ 99 ∷ 99 ∷ 101 ∷ 101 ∷ 100 ∷ []

-- "`#fail` and `#succeed` are verdicts 0 and 1"
unfoldable pub begun : Reading
begun = record { symbols = []; words = fail_word ∷ succeed_word ∷ []; events = 0; rules = []; place = First }

-- the same at another place
unfoldable pub placed : Reading → Place → Reading
placed s p = record { symbols = s.symbols; words = s.words; events = s.events; rules = s.rules; place = p }

-- "names their symbol likewise"; 5 is "the 33rd symbol". The place behind a name may depend on its symbol.
unfoldable pub with_symbol : Reading → (ℕ → Place) → Option Numbered → Taken
with_symbol s to None = Err 5
with_symbol s to (Some n) =
    Ok (record { symbols = n.names; words = s.words; events = s.events; rules = s.rules; place = to n.number })

unfoldable pub symbol : Reading → List ℕ → (ℕ → Place) → Taken
symbol s x to = with_symbol s to (numbered 32 s.symbols x)

-- "6, an event named twice"
unfoldable pub event : Reading → List ℕ → Option ℕ → Taken
event s x None = symbol s x (λ i. Events)
event s x (Some i) = Err 6

-- one more symbol of a side; 5 is "the ninth name of a side"
unfoldable pub side_symbol : Reading → List ℕ → List ℕ → (List ℕ → Place) → Taken
side_symbol s x side to = cond (ltb (length side) 8) (symbol s x (λ i. to (side ++ i ∷ []))) (Err 5)

-- the first name of a left side; 5 is "the first name of rule 65"
unfoldable pub first_symbol : Reading → List ℕ → Bool → Taken
first_symbol s x marked = cond (ltb (length s.rules) 64) (side_symbol s x [] (InLeft marked)) (Err 5)

-- A name.
unfoldable pub name : Reading → List ℕ → Place → Taken
name s x First = cond (same x events_word) (Ok (placed s Events)) (Err 4)
name s x Events = event s x (number_of s.symbols x)
name s x Between = first_symbol s x false
name s x Marked = first_symbol s x true
name s x (InLeft m l) = side_symbol s x l (InLeft m)
name s x (InRight m l v) = side_symbol s x v (InRight m l)
name s x (Ending m l r) = Err 4

-- "other words get 2 to 15 by first appearance"; 5 is "the 15th other word"
unfoldable pub with_verdict : Reading → Bool → List ℕ → Option Numbered → Taken
with_verdict s m l None = Err 5
with_verdict s m l (Some n) =
    Ok
    (record {
      symbols = s.symbols;
      words = n.names;
      events = s.events;
      rules = s.rules;
      place = Ending m l (Close n.number);
    })

-- "`#epsilon` is the empty string"
unfoldable pub right_word : Reading → List ℕ → Bool → List ℕ → Taken
right_word s x m l =
    cond (same x epsilon_word) (Ok (placed s (Ending m l (Put [])))) (with_verdict s m l (numbered 16 s.words x))

-- A `#` word: "then one or more names or a single `#` word"
unfoldable pub word : Reading → List ℕ → Place → Taken
word s x First = Err 4
word s x Events = Err 4
word s x Between = Err 4
word s x Marked = Err 4
word s x (InLeft m l) = Err 4
word s x (InRight m l []) = right_word s x m l
word s x (InRight m l (a ∷ v)) = Err 4
word s x (Ending m l r) = Err 4

-- "one or more names, `->`"
unfoldable pub arrow : Reading → Place → Taken
arrow s First = Err 4
arrow s Events = Err 4
arrow s Between = Err 4
arrow s Marked = Err 4
arrow s (InLeft m l) = Ok (placed s (InRight m l []))
arrow s (InRight m l v) = Err 4
arrow s (Ending m l r) = Err 4

-- "The token `^` may stand first in a left side, before 1 to 8 names. .. A misplaced `^` is refusal 4."
unfoldable pub mark : Reading → Place → Taken
mark s First = Err 4
mark s Events = Err 4
mark s Between = Ok (placed s Marked)
mark s Marked = Err 4
mark s (InLeft m l) = Err 4
mark s (InRight m l v) = Err 4
mark s (Ending m l r) = Err 4

-- the list of events is closed: "one or more names"
unfoldable pub close_events : Reading → List (List ℕ) → Taken
close_events s [] = Err 4
close_events s (x ∷ names) =
    Ok
    (record { symbols = s.symbols; words = s.words; events = length s.symbols; rules = s.rules; place = Between })

-- the rule with these sides, with a mark or without
abbrev pub rule_with : Bool → List ℕ → Right → Rule
rule_with m l r = record { marked = m; left = l; right = r }

-- one more rule
unfoldable pub close_rule : Reading → Rule → Taken
close_rule s r =
    Ok
    (record {
      symbols = s.symbols;
      words = s.words;
      events = s.events;
      rules = s.rules ++ r ∷ [];
      place = Between;
    })

-- a `.`
unfoldable pub stop : Reading → Place → Taken
stop s First = Err 4
stop s Events = close_events s s.symbols
stop s Between = Err 4
stop s Marked = Err 4
stop s (InLeft m l) = Err 4
stop s (InRight m l []) = Err 4
stop s (InRight m l (a ∷ v)) = close_rule s (rule_with m l (Put (a ∷ v)))
stop s (Ending m l r) = close_rule s (rule_with m l r)

unfoldable pub after_token : Reading → Token → Taken
after_token s (Name x) = name s x s.place
after_token s (Word x) = word s x s.place
after_token s Arrow = arrow s s.place
after_token s Stop = stop s s.place
after_token s Mark = mark s s.place

-- a run of bytes: "3, not a token"
unfoldable pub after_run : Reading → Option Token → Taken
after_run s None = Err 3
after_run s (Some t) = after_token s t

-- a text may end behind a `.`
unfoldable pub complete : Place → Bool
complete First = false
complete Events = false
complete Between = true
complete Marked = false
complete (InLeft m l) = false
complete (InRight m l v) = false
complete (Ending m l r) = false

-- "V is 2 + the other words."
unfoldable pub rule_set_of : Reading → RuleSet
rule_set_of s =
    record {
      symbols = length s.symbols;
      events = s.events;
      verdicts = length s.words;
      rules = s.rules;
    }
