-- The limits that everything read keeps to.
use Rattle.std.specs.Prelude.{◌≤◌, ◌<◌, ◌≡◌, true, [], length}
use Rattle.rewriting.specs.Lists.{all}
use Rattle.rewriting.specs.Rules.{Put, Rule, rule_in_range}
use Rattle.grammar.specs.Tokens.{is_name}
use Rattle.grammar.specs.Grammar.{Place, First, Events, Between, Marked, InLeft, InRight, Ending, Reading, rule_with, rule_set_of}

-- What every reading keeps. `read_sound` (proofs/Sound.antt) proves it of each that a text gives.

abbrev pub EventsKnown : Reading → Type 0
EventsKnown s = (1 ≤ s.events) × (s.events ≤ length s.symbols)

-- a rule begun: the symbols so far are in range, and there is room for it
abbrev pub RuleBegun : Reading → Rule → Type 0
RuleBegun s r = EventsKnown s × (length s.rules < 64) × (rule_in_range (rule_set_of s) r ≡ true)

abbrev pub SoundAt : Reading → Place → Type 0
SoundAt s First = Unit {0}
SoundAt s Events = Unit {0}
SoundAt s Between = EventsKnown s
SoundAt s Marked = EventsKnown s
SoundAt s (InLeft m l) = RuleBegun s (rule_with m l (Put []))
SoundAt s (InRight m l v) = RuleBegun s (rule_with m l (Put v))
SoundAt s (Ending m l r) = RuleBegun s (rule_with m l r)

pub record Sound (s : Reading) : Type 0 where
  pub symbols_named : all is_name s.symbols ≡ true
  pub few_symbols : length s.symbols ≤ 32
  pub words_named : all is_name s.words ≡ true
  pub some_words : 2 ≤ length s.words
  pub few_words : length s.words ≤ 16
  pub few_rules : length s.rules ≤ 64
  pub all_rules : all (rule_in_range (rule_set_of s)) s.rules ≡ true
  pub here : SoundAt s s.place
