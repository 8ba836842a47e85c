-- Document 01's sample, computed: its states, its table, and compile at the edges of its refusals.
-- Assumes nothing.
use Prim.Native.Nat.{ℕ}
use mathlib.Core.Path.{◌≡◌, refl}
use Rattle.std.specs.Prelude.{Some, Ok, Err}
use mathlib.Core.List.{List, [], ◌∷◌, ◌++◌, flat_map}
use lib.ListN.{length, replicate}
use Rattle.rewriting.specs.Lists.{over}
use Rattle.rewriting.specs.Rules.{Put, Close, Rule, ◌⇒◌, at_start}
use Rattle.rewriting.specs.Occurrences.{lowest, spanning, tie, ending}
use Rattle.rewriting.specs.Sample.{sample}
use Rattle.layout.specs.Image.{image_of}
use Rattle.layout.specs.Refusals.{refusal}
use Rattle.layout.proofs.Image.{read_image}
use Rattle.layout.proofs.ImageComputed.{sample-valid, longer_refused}
use Rattle.layout.specs.States.{
  mark,
  pattern,
  is_prefix,
  state,
  next,
  starts,
  symbols_in,
  matching,
  prefixes,
  known,
  numbered,
  has_mark,
  first_states,
  states,
  number,
}
use Rattle.layout.specs.Table.{match_word, row, table_of}
use Rattle.layout.specs.Compile.{compile_checks, compiled, compile_of}

-- the six states: the empty string; lock, lock take; held, held free; take
pub sample-states : states sample.rules ≡ [] ∷ (0 ∷ []) ∷ (0 ∷ 1 ∷ []) ∷ (3 ∷ []) ∷ (3 ∷ 2 ∷ []) ∷ (1 ∷ []) ∷ []
unfolding sample states first_states has_mark numbered pattern prefixes known flat_map
sample-states = refl

-- the table: 6 states, 4 symbols; six match words; six rows
abbrev pub sample_table : List ℕ
sample_table =
    6 ∷ 4
    ∷ 0 ∷ 0 ∷ 1 ∷ 0 ∷ 2 ∷ 3
    ∷ 1 ∷ 5 ∷ 0 ∷ 3
    ∷ 1 ∷ 2 ∷ 0 ∷ 3
    ∷ 1 ∷ 5 ∷ 0 ∷ 3
    ∷ 1 ∷ 5 ∷ 4 ∷ 3
    ∷ 1 ∷ 5 ∷ 0 ∷ 3
    ∷ 1 ∷ 5 ∷ 0 ∷ 3
    ∷ []

pub sample_table_lem : table_of sample ≡ sample_table
unfolding
    sample table_of match_word row states first_states has_mark numbered pattern prefixes known number next matching starts
    symbols_in state is_prefix lowest spanning tie ending flat_map
sample_table_lem = refl

pub sample_words : length (table_of sample) ≡ 32
sample_words = rw sample_table_lem

-- compile of it into 32 words
pub sample-compiled : compile_of (image_of sample) (replicate 32 9) ≡ record { answer = Ok 32; area = sample_table }
unfolding compile_of compile_checks compiled refusal over
sample-compiled = rw (sample-valid, read_image sample, sample_table_lem)

-- into 33 words: the last word stays
pub sample_beyond : compile_of (image_of sample) (replicate 33 9) ≡ record { answer = Ok 32; area = sample_table ++ 9 ∷ [] }
unfolding compile_of compile_checks compiled refusal over
sample_beyond = rw (sample-valid, read_image sample, sample_table_lem)

-- into 31 words: refused, and nothing is written
pub sample_too_short : compile_of (image_of sample) (replicate 31 9) ≡ record { answer = Err 8; area = replicate 31 9 }
unfolding compile_of compile_checks compiled refusal
sample_too_short = rw (sample-valid, read_image sample, sample_table_lem)

-- a broken image is refused by 7 whatever the area, and so also where 8 would refuse it
pub broken_refused : (area : List ℕ) → compile_of (image_of sample ++ 0 ∷ []) area ≡ record { answer = Err 7; area = area }
unfolding compile_of compile_checks compiled refusal
broken_refused area = rw (longer_refused 0)

-- two left sides with a common prefix, which has one number
pub common_prefix : states ((0 ∷ 1 ∷ [] ⇒ Put []) ∷ (0 ∷ 2 ∷ [] ⇒ Put []) ∷ []) ≡ [] ∷ (0 ∷ []) ∷ (0 ∷ 1 ∷ []) ∷ (0 ∷ 2 ∷ []) ∷ []
unfolding states first_states has_mark numbered pattern prefixes known flat_map
common_prefix = refl

-- C5: the state b a a is no left side, and matches a a, which ends it
pub inner_match : matching ((1 ∷ 0 ∷ 0 ∷ 2 ∷ [] ⇒ Close 0) ∷ (0 ∷ 0 ∷ [] ⇒ Put []) ∷ []) (1 ∷ 0 ∷ 0 ∷ []) ≡ Some 1
unfolding matching starts symbols_in ending tie spanning lowest
inner_match = refl

-- a marked rule behind another: `lock take -> held . ^ take -> #fail .`
abbrev marked_rules : List Rule
marked_rules = (0 ∷ 1 ∷ [] ⇒ Put (2 ∷ [])) ∷ at_start (1 ∷ [] ⇒ Close 0) ∷ []

-- the mark alone, the empty string; lock, lock take; the mark and take
pub marked_states : states marked_rules ≡ (mark ∷ []) ∷ [] ∷ (0 ∷ []) ∷ (0 ∷ 1 ∷ []) ∷ (mark ∷ 1 ∷ []) ∷ []
unfolding states first_states has_mark numbered pattern prefixes known flat_map
marked_states = refl

-- only the row of the mark leads to state 4, and what begins nothing leads to state 1
pub marked_table : table_of (record { symbols = 3; events = 2; verdicts = 2; rules = marked_rules })
    ≡ 5 ∷ 3
    ∷ 0 ∷ 0 ∷ 0 ∷ 1 ∷ 2
    ∷ 2 ∷ 4 ∷ 1
    ∷ 2 ∷ 1 ∷ 1
    ∷ 2 ∷ 3 ∷ 1
    ∷ 2 ∷ 1 ∷ 1
    ∷ 2 ∷ 1 ∷ 1
    ∷ []
unfolding
    table_of match_word row states first_states has_mark numbered pattern prefixes known number next matching starts symbols_in
    state is_prefix
    lowest spanning tie ending flat_map
marked_table = refl

-- of `^ take` and `take`, which end together on the same span, the first
pub marked_match : matching ((1 ∷ [] ⇒ Close 1) ∷ at_start (1 ∷ [] ⇒ Close 0) ∷ []) (mark ∷ 1 ∷ []) ≡ Some 1
unfolding matching starts symbols_in ending tie spanning lowest
marked_match = refl

-- no rules: the empty string is the one state
pub empty-states : states [] ≡ [] ∷ []
unfolding states first_states has_mark numbered flat_map
empty-states = refl

pub empty_table : table_of (record { symbols = 1; events = 1; verdicts = 2; rules = [] }) ≡ 1 ∷ 1 ∷ 0 ∷ 0 ∷ []
unfolding table_of match_word row states first_states has_mark numbered number next matching starts symbols_in state is_prefix
    lowest ending flat_map
empty_table = refl
