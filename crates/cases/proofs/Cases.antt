-- The worked cases of document 01 and its edges, computed from the definitions.
-- Assumes nothing.
use mathlib.Core.Path.{◌≡◌, refl}
use mathlib.Core.List.{[], ◌∷◌, map, flat_map}
use Rattle.std.specs.Prelude.{None, Some}
use Rattle.std.specs.Option.{option_or}
use Rattle.rewriting.specs.Lists.{over}
use Rattle.rewriting.specs.Rules.{symbols_of, rule, right_in_range, rule_in_range, in_range}
use Rattle.rewriting.specs.Occurrences.{lowest, spanning, tie, ending}
use Rattle.rewriting.specs.Sample.{sample}
use Rattle.layout.specs.Image.{kind, length_or_verdict, mark_byte, contents, body, image_of, read_right, read_rule, read_rules}
use Rattle.layout.specs.Image.{read, valid}
use Rattle.layout.specs.Refusals.{refusal, refused_by}
use Rattle.layout.specs.States.{
  pattern,
  is_prefix,
  state,
  next,
  starts,
  symbols_in,
  matching,
  prefixes,
  known,
  numbered,
  has_mark,
  first_states,
  states,
  number,
}
use Rattle.layout.specs.Table.{match_word, row, table_of}
use Rattle.machine.specs.State.{empty, active, replace, settle, step}
use Rattle.machine.specs.Run.{no_counts, plus, counts_of, ended, counted, fits, proceed, tests, run}
use Rattle.machine.specs.Areas.{
  document_capacity,
  head_of,
  area_of,
  bytes_of,
  states_after,
  words_of,
  monitor_of,
  state_of,
  no_match,
  unmatched,
  closes_with,
  stands_by,
  holds,
  described,
}
use Rattle.machine.specs.Calls.{sized, freshened, fresh_of, fuel_of, lent_checks, fuel_check, verdict_check, call_checks, offered}
use Rattle.machine.specs.Calls.{outcome, decided, call_of, offer_of, answer_number}
use Rattle.machine.specs.Batch.{stopped, and_then, in_turn, offers, batch_checks, batched, batch_of}
use Rattle.machine.specs.Play.{string_of, no_calls, events_of, logged, play, offers_of}
use Rattle.cases.specs.Cases.{Case, fresh, found_in, find, worked, abcd, cases}
use Rattle.cases.specs.Edges.{
  day,
  growing,
  tripling,
  edges,
  locked,
  start_ban,
  marks,
  holding,
  closed_and_full,
  Answering,
  answering,
  on_sample,
  undescribed,
  monitors,
  tiny,
  in_order,
  BatchCase,
  find_batch,
  batch,
  batches,
  many_events,
}

-- every definition that a computed case goes through
computes : Unit {0}
unfolding
    flat_map rule right_in_range rule_in_range in_range lowest spanning tie ending sample kind length_or_verdict mark_byte
    symbols_of contents
    body image_of read_right read_rule read_rules read valid refusal pattern is_prefix state next starts symbols_in matching
    prefixes known numbered
    has_mark first_states states number match_word row table_of empty active replace settle step no_counts plus counts_of ended
    counted fits
    proceed tests run head_of area_of bytes_of states_after words_of monitor_of state_of no_match unmatched closes_with stands_by
    holds described sized
    freshened fresh_of fuel_of lent_checks fuel_check
    verdict_check call_checks offered outcome decided call_of refused_by string_of no_calls events_of logged play fresh found_in
    find worked abcd
computes = tt

-- every value of the table of worked cases
pub cases_found : map (λ (c : Case). find c.set c.calls) cases ≡ map (λ (c : Case). c.found) cases
unfolding computes cases
cases_found = refl

-- and of the printed day
pub day_found : map (λ (c : Case). find c.set c.calls) day ≡ map (λ (c : Case). c.found) day
unfolding computes day
day_found = refl

-- and of the table of edges
pub edges_found : map (λ (c : Case). find c.set c.calls) edges ≡ map (λ (c : Case). c.found) edges
unfolding computes growing edges
edges_found = refl

-- and of the table of marked rules
pub marks_found : map (λ (c : Case). find c.set c.calls) marks ≡ map (λ (c : Case). c.found) marks
unfolding computes locked start_ban marks
marks_found = refl

-- calls on monitors that no list of calls left, and refusals in their order
pub monitors-answered : map (λ (x : Answering). (call_of document_capacity x.image x.table x.monitor x.call).answer) monitors
    ≡ map (λ (x : Answering). x.answer) monitors
unfolding computes start_ban holding closed_and_full answering on_sample undescribed monitors
monitors-answered = refl

pub refusals_in_order : map (λ (x : Answering). (call_of document_capacity x.image x.table x.monitor x.call).answer) in_order
    ≡ map (λ (x : Answering). x.answer) in_order
unfolding computes holding closed_and_full answering tiny in_order
refusals_in_order = refl

-- batches
pub batches_found : map find_batch batches ≡ map (λ (c : BatchCase). c.found) batches
unfolding computes over stopped and_then in_turn offers_of offers offer_of answer_number batch_checks batched batch_of
    find_batch batch holding growing tripling batches
batches_found = refl

pub many_events_lem : (many_events 65535 ≡ None) × (many_events 65536 ≡ Some 16)
unfolding computes batch_checks many_events
many_events_lem = (refl, refl)

-- fresh refuses a byte too few and a word too many, and leaves the areas
pub fresh_refuses : (fresh_of 2 (7 ∷ []) (7 ∷ 7 ∷ [])
    ≡ record { refused = Some 10; monitor = record { head = head_of empty; bytes = 7 ∷ []; words = 7 ∷ 7 ∷ [] } })
    × ((fresh_of 1 (7 ∷ []) (7 ∷ 7 ∷ [])).refused ≡ Some 10)
unfolding computes
fresh_refuses = (refl, refl)
