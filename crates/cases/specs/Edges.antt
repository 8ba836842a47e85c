-- The edges that document 01 lists, marked rules, batches, and what is lent otherwise than by fresh. proofs/Cases.antt computes
-- every value from the definitions.
use Rattle.std.specs.Prelude.{ℕ, List, [], ◌∷◌, ◌++◌, take, drop, replicate, Option, None, Some, Result, Ok, Err}
use Rattle.rewriting.specs.Rules.{Put, Close, ◌⇒◌, at_start, RuleSet}
use Rattle.rewriting.specs.Sample.{sample}
use Rattle.layout.specs.Image.{image_of}
use Rattle.layout.specs.Refusals.{refusal}
use Rattle.layout.specs.Table.{table_of}
use Rattle.machine.specs.declared.Answer.{Answer}
use Rattle.machine.specs.declared.Counts.{Counts}
use Rattle.machine.specs.Areas.{document_capacity, Monitor, area_of}
use Rattle.machine.specs.Calls.{Call, Offer, GoOn}
use Rattle.machine.specs.Batch.{Batched, batch_checks, batch_of}
use Rattle.machine.specs.Play.{string_of}
use Rattle.cases.specs.Cases.{fresh, Case, worked, abcd}

-- a → a a
unfoldable pub growing : RuleSet
growing = abcd ((0 ∷ [] ⇒ Put (0 ∷ 0 ∷ [])) ∷ [])

-- the day that document 01 prints for the sample, event by event; counts are sums over the calls so far
unfoldable pub day : List Case
day =
    worked sample (Offer 0 1000 ∷ [])
    (Ok Answer.Quiet ∷ []) 1 0 0 (0 ∷ []) 0 None 0
    ∷ worked sample (Offer 0 1000 ∷ Offer 1 1000 ∷ [])
    (Ok Answer.Quiet ∷ Ok Answer.Quiet ∷ []) 3 1 1 (3 ∷ []) 0 None 0
    ∷ worked sample (Offer 0 1000 ∷ Offer 1 1000 ∷ Offer 2 1000 ∷ [])
    (Ok Answer.Quiet ∷ Ok Answer.Quiet ∷ Ok Answer.Quiet ∷ []) 4 2 1 [] 0 None 0
    ∷ worked sample (Offer 0 1000 ∷ Offer 1 1000 ∷ Offer 2 1000 ∷ Offer 1 1000 ∷ [])
    (Ok Answer.Quiet ∷ Ok Answer.Quiet ∷ Ok Answer.Quiet ∷ Ok (Answer.Verdict 0) ∷ []) 5 3 1 [] 0 (Some 0) 2
    ∷ []

-- a → a a a
unfoldable pub tripling : RuleSet
tripling = abcd ((0 ∷ [] ⇒ Put (0 ∷ 0 ∷ 0 ∷ [])) ∷ [])

-- the edges ("64 rules are read, 65 refused.": `sixty_four_valid`, `sixty_five_refused`, layout/proofs/ImageComputed.antt)
unfoldable pub edges : List Case
edges =
    -- "a → a a with fuel 2,047 is Spent,"
    worked growing (Offer 0 2047 ∷ [])
    (Ok Answer.Spent ∷ []) 2047 2047 4094 (replicate 2048 0) 2048 None 0
    -- "with 2,048 Full after 2,047 steps; the next offer is refused 15, a go-on with fuel 1 is Full with 0 steps." One
    -- with fuel 0 is Spent.
    ∷ worked growing (Offer 0 2048 ∷ Offer 0 1 ∷ GoOn 1 ∷ GoOn 0 ∷ [])
    (Ok Answer.Full ∷ Err 15 ∷ Ok Answer.Full ∷ Ok Answer.Spent ∷ []) 2047 2047 4094 (replicate 2048 0) 2048 None 0
    -- one symbol of room: the offer is taken, and the next is not
    ∷ worked growing (Offer 0 2046 ∷ Offer 0 0 ∷ Offer 0 0 ∷ [])
    (Ok Answer.Spent ∷ Ok Answer.Spent ∷ Err 15 ∷ []) 2046 2046 4092 (replicate 2048 0) 2048 None 0
    -- "Fuel 65,535 is taken, 65,536 refused."
    ∷ worked (abcd []) (Offer 0 65535 ∷ Offer 0 65536 ∷ GoOn 65535 ∷ GoOn 65536 ∷ [])
    (Ok Answer.Quiet ∷ Err 13 ∷ Ok Answer.Quiet ∷ Err 13 ∷ []) 1 0 0 (0 ∷ []) 0 None 0
    -- events wait in the order of their offers
    ∷ worked sample (Offer 0 0 ∷ Offer 1 0 ∷ GoOn 1000 ∷ [])
    (Ok Answer.Spent ∷ Ok Answer.Spent ∷ Ok Answer.Quiet ∷ []) 3 1 1 (3 ∷ []) 0 None 0
    -- the refusals in their order: 12, 13, 14
    ∷ worked sample (Offer 1 1 ∷ Offer 3 65536 ∷ Offer 0 65536 ∷ Offer 0 1 ∷ GoOn 65536 ∷ GoOn 1 ∷ [])
    (Ok (Answer.Verdict 0) ∷ Err 12 ∷ Err 13 ∷ Err 14 ∷ Err 13 ∷ Err 14 ∷ [])
    1 1 0 [] 0 (Some 0) 2
    ∷ []

-- `^ take -> #fail . lock take -> held .`: lock 0, take 1, held 2
unfoldable pub locked : RuleSet
locked =
    record {
      symbols = 3;
      events = 2;
      verdicts = 2;
      rules = at_start (1 ∷ [] ⇒ Close 0) ∷ (0 ∷ 1 ∷ [] ⇒ Put (2 ∷ [])) ∷ [];
    }

-- ^ b → fail; a a → empty
unfoldable pub start_ban : RuleSet
start_ban = abcd (at_start (1 ∷ [] ⇒ Close 0) ∷ (0 ∷ 0 ∷ [] ⇒ Put []) ∷ [])

-- Document 02, No. 1: a marked left side "occurs only at the string's first symbol"
unfoldable pub marks : List Case
marks =
    -- lock, take: held; take: Verdict 0 of rule 0
    worked locked (Offer 0 1000 ∷ Offer 1 1000 ∷ [])
    (Ok Answer.Quiet ∷ Ok Answer.Quiet ∷ []) 3 1 1 (2 ∷ []) 0 None 0
    ∷ worked locked (Offer 1 1000 ∷ [])
    (Ok (Answer.Verdict 0) ∷ []) 1 1 0 [] 0 (Some 0) 0
    -- a, b: Quiet, with the marked left side behind the start
    ∷ worked start_ban (Offer 0 1000 ∷ Offer 1 1000 ∷ [])
    (Ok Answer.Quiet ∷ Ok Answer.Quiet ∷ []) 2 0 0 (0 ∷ 1 ∷ []) 0 None 0
    -- a, a, b: a a is taken off, so that b stands at the start: Verdict 0
    ∷ worked start_ban (Offer 0 1000 ∷ Offer 0 1000 ∷ Offer 1 1000 ∷ [])
    (Ok Answer.Quiet ∷ Ok Answer.Quiet ∷ Ok (Answer.Verdict 0) ∷ []) 3 2 0 [] 0 (Some 0) 0
    ∷ []

-- The sample's monitor with these head numbers, these bytes first and last, these words first, and 0 elsewhere.
unfoldable pub holding : ℕ → ℕ → Option ℕ → ℕ → List ℕ → List ℕ → List ℕ → Monitor
holding settled waiting verdict rule first last words =
    record {
      head = record { settled = settled; waiting = waiting; verdict = verdict; rule = rule };
      bytes = area_of document_capacity first last;
      words = area_of document_capacity words [];
    }

-- a verdict, and no room
unfoldable pub closed_and_full : Monitor
closed_and_full = holding 0 2048 (Some 0) 2 [] (replicate 2048 2) []

-- What is lent otherwise than by a list of calls: image, table, monitor and call, and the answer.
pub record Answering : Type 0 where
  pub image : List ℕ
  pub table : List ℕ
  pub monitor : Monitor
  pub call : Call
  pub answer : Result Answer ℕ

-- the same as a row
unfoldable pub answering : List ℕ → List ℕ → Monitor → Call → Result Answer ℕ → Answering
answering image table m c a = record { image = image; table = table; monitor = m; call = c; answer = a }

-- a call on the sample's monitor
unfoldable pub on_sample : Monitor → Call → Result Answer ℕ → Answering
on_sample m c a = answering (image_of sample) (table_of sample) m c a

-- a go-on with fuel 1 that is refused with 11
unfoldable pub undescribed : Monitor → Answering
undescribed m = on_sample m (GoOn 1) (Err 11)

-- monitors as described and not as described
unfoldable pub monitors : List Answering
monitors =
    -- as described: `lock` settled; then `take` waiting, a rewrite with the last unit of fuel; then `held`, which is no event
    on_sample (holding 1 0 None 0 (0 ∷ []) [] (1 ∷ [])) (GoOn 1) (Ok Answer.Quiet)
    ∷ on_sample (holding 1 1 None 0 (0 ∷ []) (1 ∷ []) (1 ∷ [])) (GoOn 1) (Ok Answer.Spent)
    ∷ on_sample (holding 1 1 None 0 (0 ∷ []) (3 ∷ []) (1 ∷ [])) (GoOn 1) (Ok Answer.Quiet)
    -- a verdict, with symbols settled and waiting; a verdict and no room is 14, and not 15
    ∷ on_sample (holding 1 1 (Some 0) 2 (0 ∷ []) (3 ∷ []) (1 ∷ [])) (GoOn 1) (Err 14)
    ∷ on_sample closed_and_full (GoOn 1) (Err 14)
    ∷ on_sample closed_and_full (Offer 0 1) (Err 14)
    -- a + w above 2,048
    ∷ undescribed (holding 0 2049 None 0 [] [] [])
    ∷ undescribed (holding 1 2048 None 0 (0 ∷ []) (replicate 2047 0) (1 ∷ []))
    -- a symbol that is not below S, settled or waiting
    ∷ undescribed (holding 1 0 None 0 (4 ∷ []) [] [])
    ∷ undescribed (holding 0 1 None 0 [] (4 ∷ []) [])
    -- a byte or a word that should be 0
    ∷ undescribed (holding 0 0 None 0 (1 ∷ []) [] [])
    ∷ undescribed (holding 0 0 None 0 [] (1 ∷ []) [])
    ∷ undescribed (holding 0 0 None 0 [] [] (1 ∷ []))
    -- a word that is not its state
    ∷ undescribed (holding 1 0 None 0 (0 ∷ []) [] [])
    ∷ undescribed (holding 1 0 None 0 (0 ∷ []) [] (3 ∷ []))
    -- a settled state with a match: take
    ∷ undescribed (holding 1 0 None 0 (1 ∷ []) [] (5 ∷ []))
    -- a rule with no verdict
    ∷ undescribed (holding 0 0 None 2 [] [] [])
    -- a verdict that is not its rule's; whose rule is a string rule; whose rule is not there
    ∷ undescribed (holding 0 0 (Some 1) 2 [] [] [])
    ∷ undescribed (holding 0 0 (Some 0) 0 [] [] [])
    ∷ undescribed (holding 0 0 (Some 0) 3 [] [] [])
    -- with a marked rule, what begins nothing has word 1, not 0: c settled
    ∷ answering (image_of start_ban) (table_of start_ban) (holding 1 0 None 0 (2 ∷ []) [] (1 ∷ [])) (GoOn 1) (Ok Answer.Quiet)
    ∷ answering (image_of start_ban) (table_of start_ban) (holding 1 0 None 0 (2 ∷ []) [] []) (GoOn 1) (Err 11)
    ∷ []

-- a monitor whose areas have one byte and one word
unfoldable pub tiny : Monitor
tiny = record { head = fresh.head; bytes = 0 ∷ []; words = 1 ∷ [] }

-- Refusals in their order: in each row what the rows before were refused by is mended, and all else is still wrong.
unfoldable pub in_order : List Answering
in_order =
    answering (image_of sample ++ 0 ∷ []) [] tiny (Offer 3 65536) (Err 7)
    -- one word short; a wrong word
    ∷ answering (image_of sample) (take 31 (table_of sample)) tiny (Offer 3 65536) (Err 9)
    ∷ answering (image_of sample) (take 31 (table_of sample) ++ 4 ∷ []) tiny (Offer 3 65536) (Err 9)
    -- from here on a longer table, whose last word is not read
    ∷ answering (image_of sample) (table_of sample ++ 9 ∷ []) tiny (Offer 3 65536) (Err 10)
    -- a byte too few; a word too many
    ∷ answering (image_of sample) (table_of sample ++ 9 ∷ [])
    (record { head = fresh.head; bytes = drop 1 fresh.bytes; words = fresh.words }) (Offer 3 65536) (Err 10)
    ∷ answering (image_of sample) (table_of sample ++ 9 ∷ [])
    (record { head = fresh.head; bytes = fresh.bytes; words = 0 ∷ fresh.words }) (Offer 3 65536) (Err 10)
    ∷ answering (image_of sample) (table_of sample ++ 9 ∷ [])
    (record { head = fresh.head; bytes = fresh.bytes; words = 1 ∷ drop 1 fresh.words }) (Offer 3 65536) (Err 11)
    ∷ answering (image_of sample) (table_of sample ++ 9 ∷ []) closed_and_full (Offer 3 65536) (Err 12)
    ∷ answering (image_of sample) (table_of sample ++ 9 ∷ []) closed_and_full (Offer 2 65536) (Err 13)
    ∷ answering (image_of sample) (table_of sample ++ 9 ∷ []) closed_and_full (Offer 2 65535) (Err 14)
    ∷ []

-- what a batch finds: the refusal, what stopped it, the count accepted, the summed counts, the answer bytes at exit, and
-- the string
pub record FoundBatch : Type 0 where
  pub refused : Option ℕ
  pub stop : ℕ
  pub accepted : ℕ
  pub counts : Counts
  pub answers : List ℕ
  pub string : List ℕ

-- a batch and what it finds
pub record BatchCase : Type 0 where
  pub set : RuleSet
  pub monitor : Monitor
  pub events : List ℕ
  pub fuel : ℕ
  pub answers : List ℕ
  pub found : FoundBatch

-- what the definitions find
unfoldable pub find_batch : BatchCase → FoundBatch
find_batch c =
    let b : Batched = batch_of document_capacity (image_of c.set) (table_of c.set) c.monitor c.events c.fuel c.answers in
    record {
      refused = b.refused;
      stop = b.stop;
      accepted = b.accepted;
      counts = b.counts;
      answers = b.answers;
      string = string_of b.monitor;
    }

-- rules, monitor, events, fuel and the answer bytes at entry; then what they find: refusal, stop, accepted; steps,
-- rewrites, put back; answer bytes at exit, string
unfoldable pub batch : RuleSet → Monitor → List ℕ → ℕ → List ℕ → Option ℕ → ℕ → ℕ → ℕ → ℕ → ℕ → List ℕ → List ℕ → BatchCase
batch set m events fuel answers refused stop accepted steps rewrites put exit string =
    record {
      set = set;
      monitor = m;
      events = events;
      fuel = fuel;
      answers = answers;
      found =
          record {
            refused = refused;
            stop = stop;
            accepted = accepted;
            counts = record { steps = steps; rewrites = rewrites; put = put };
            answers = exit;
            string = string;
          };
    }

-- batches from a fresh monitor and from others
unfoldable pub batches : List BatchCase
batches =
    -- the sample's day: lock, take, free, take. "Later answer bytes stay."
    batch sample fresh (0 ∷ 1 ∷ 2 ∷ 1 ∷ []) 1000 (9 ∷ 9 ∷ 9 ∷ 9 ∷ 9 ∷ [])
    None 0 4 5 3 1 (0 ∷ 0 ∷ 0 ∷ 16 ∷ 9 ∷ []) []
    -- an event behind the verdict: stopped by 14
    ∷ batch sample fresh (1 ∷ 0 ∷ []) 1000 (9 ∷ 9 ∷ [])
    None 14 1 1 1 0 (16 ∷ 9 ∷ []) []
    -- held is no event: stopped by 12, also behind a verdict
    ∷ batch sample fresh (0 ∷ 3 ∷ 1 ∷ []) 0 (9 ∷ 9 ∷ 9 ∷ [])
    None 12 1 0 0 0 (1 ∷ 9 ∷ 9 ∷ []) (0 ∷ [])
    ∷ batch sample fresh (1 ∷ 3 ∷ []) 1000 (9 ∷ 9 ∷ [])
    None 12 1 1 1 0 (16 ∷ 9 ∷ []) []
    -- a → a a: no room for a second event, stopped by 15
    ∷ batch growing fresh (0 ∷ 0 ∷ []) 2048 (9 ∷ 9 ∷ [])
    None 15 1 2047 2047 4094 (2 ∷ 9 ∷ []) (replicate 2048 0)
    -- a → a a a: Full with room for one symbol; that stops no batch, but the next event is 15
    ∷ batch tripling fresh (0 ∷ 0 ∷ 0 ∷ []) 2048 (9 ∷ 9 ∷ 9 ∷ [])
    None 15 2 1023 1023 3069 (2 ∷ 2 ∷ 9 ∷ []) (replicate 2048 0)
    -- "No events: 0 accepted.", also where a verdict stands; one event there is stopped by 14
    ∷ batch sample fresh [] 65535 (9 ∷ [])
    None 0 0 0 0 0 (9 ∷ []) []
    ∷ batch sample (holding 0 0 (Some 0) 2 [] [] []) [] 1000 []
    None 0 0 0 0 0 [] []
    ∷ batch sample (holding 0 0 (Some 0) 2 [] [] []) (0 ∷ []) 1000 (9 ∷ [])
    None 14 0 0 0 0 (9 ∷ []) []
    -- 16 with an answer byte too few; 13 before it; 11 before that
    ∷ batch sample fresh (0 ∷ 1 ∷ []) 65535 (9 ∷ [])
    (Some 16) 0 0 0 0 0 (9 ∷ []) []
    ∷ batch sample fresh (3 ∷ 1 ∷ []) 65536 (9 ∷ [])
    (Some 13) 0 0 0 0 0 (9 ∷ []) []
    ∷ batch sample (holding 0 0 None 2 [] [] []) (3 ∷ 1 ∷ []) 65536 (9 ∷ [])
    (Some 11) 0 0 0 0 0 (9 ∷ []) []
    ∷ []

-- "16, more than 65,535 events": the refusal of so many events, with an answer byte for each
unfoldable pub many_events : ℕ → Option ℕ
many_events n =
    refusal (batch_checks document_capacity (image_of sample) (table_of sample) fresh (replicate n 0) 1000 (replicate n 0))
