-- Document 01's worked cases C1 to C9, as one table. `cases_found` (proofs/Cases.antt) computes every value of it from the
-- definitions.
use Rattle.std.specs.Prelude.{ℕ, List, [], ◌∷◌, replicate, Option, None, Some, Result, Ok, Err}
use Rattle.rewriting.specs.Rules.{Put, Close, ◌⇒◌, Rule, RuleSet}
use Rattle.rewriting.specs.Sample.{sample}
use Rattle.layout.specs.Image.{image_of}
use Rattle.layout.specs.Table.{table_of}
use Rattle.machine.specs.declared.Answer.{Answer}
use Rattle.machine.specs.declared.Counts.{Counts}
use Rattle.machine.specs.Areas.{document_capacity, Monitor}
use Rattle.machine.specs.Calls.{Call, Offer, fresh_of}
use Rattle.machine.specs.Play.{Log, no_calls, play, string_of}

-- what fresh makes of areas that held something else
unfoldable pub fresh : Monitor
fresh = (fresh_of document_capacity (replicate document_capacity 7) (replicate document_capacity 7)).monitor

-- what is found after a list of calls: the answer of each, the sums of their counts, the string, the waiting count, the
-- verdict and its rule
pub record Found : Type 0 where
  pub answers : List (Result Answer ℕ)
  pub counts : Counts
  pub string : List ℕ
  pub waiting : ℕ
  pub verdict : Option ℕ
  pub rule : ℕ

unfoldable pub found_in : Log → Found
found_in g =
    record {
      answers = g.answers;
      counts = g.counts;
      string = string_of g.monitor;
      waiting = g.monitor.head.waiting;
      verdict = g.monitor.head.verdict;
      rule = g.monitor.head.rule;
    }

-- what a list of calls finds on a fresh monitor of these rules
unfoldable pub find : RuleSet → List Call → Found
find set calls = found_in (play document_capacity (image_of set) (table_of set) (no_calls fresh) calls)

pub record Case : Type 0 where
  pub set : RuleSet
  pub calls : List Call
  pub found : Found

-- rules and calls; then what they find: answers; steps, rewrites, put back; string, waiting, verdict, rule
unfoldable pub worked : RuleSet → List Call → List (Result Answer ℕ) → ℕ → ℕ → ℕ → List ℕ → ℕ → Option ℕ → ℕ → Case
worked set calls answers steps rewrites put string waiting verdict rule =
    record {
      set = set;
      calls = calls;
      found =
          record {
            answers = answers;
            counts = record { steps = steps; rewrites = rewrites; put = put };
            string = string;
            waiting = waiting;
            verdict = verdict;
            rule = rule;
          };
    }

-- a rule set over the events a 0, b 1, c 2 and d 3
unfoldable pub abcd : List Rule → RuleSet
abcd rules = record { symbols = 4; events = 4; verdicts = 2; rules = rules }

-- "Fuel is 1,000 where none is named; counts are sums over the calls."
unfoldable pub cases : List Case
cases =
    -- C1: no rules; offer, fuel 0: Spent, w 1
    worked (abcd []) (Offer 0 0 ∷ [])
    (Ok Answer.Spent ∷ []) 0 0 0 (0 ∷ []) 1 None 0
    -- C2: no rules; offer, fuel 1: Quiet, 1 step
    ∷ worked (abcd []) (Offer 0 1 ∷ [])
    (Ok Answer.Quiet ∷ []) 1 0 0 (0 ∷ []) 0 None 0
    -- C3: the sample; lock, take: held; 3 steps, 1 rewrite
    ∷ worked sample (Offer 0 1000 ∷ Offer 1 1000 ∷ [])
    (Ok Answer.Quiet ∷ Ok Answer.Quiet ∷ []) 3 1 1 (3 ∷ []) 0 None 0
    -- C4: a b → c; d c → fail; d, a, b: Verdict 0; 4 steps, 2 rewrites, 1 put back
    ∷ worked (abcd ((0 ∷ 1 ∷ [] ⇒ Put (2 ∷ [])) ∷ (3 ∷ 2 ∷ [] ⇒ Close 0) ∷ []))
    (Offer 3 1000 ∷ Offer 0 1000 ∷ Offer 1 1000 ∷ [])
    (Ok Answer.Quiet ∷ Ok Answer.Quiet ∷ Ok (Answer.Verdict 0) ∷ []) 4 2 1 [] 0 (Some 0) 1
    -- C5: b a a c → fail; a a → empty; b, a, a: Quiet, string b
    ∷ worked (abcd ((1 ∷ 0 ∷ 0 ∷ 2 ∷ [] ⇒ Close 0) ∷ (0 ∷ 0 ∷ [] ⇒ Put []) ∷ []))
    (Offer 1 1000 ∷ Offer 0 1000 ∷ Offer 0 1000 ∷ [])
    (Ok Answer.Quiet ∷ Ok Answer.Quiet ∷ Ok Answer.Quiet ∷ []) 3 1 0 (1 ∷ []) 0 None 0
    -- C6: a → a a; offer, fuel 3: Spent, w 4, 6 put back
    ∷ worked (abcd ((0 ∷ [] ⇒ Put (0 ∷ 0 ∷ [])) ∷ [])) (Offer 0 3 ∷ [])
    (Ok Answer.Spent ∷ []) 3 3 6 (0 ∷ 0 ∷ 0 ∷ 0 ∷ []) 4 None 0
    -- C7: a → a; offer, fuel 9: Spent, 9 rewrites
    ∷ worked (abcd ((0 ∷ [] ⇒ Put (0 ∷ [])) ∷ [])) (Offer 0 9 ∷ [])
    (Ok Answer.Spent ∷ []) 9 9 9 (0 ∷ []) 1 None 0
    -- C8: a → fail; a → succeed; a: Verdict 0, rule 0
    ∷ worked (abcd ((0 ∷ [] ⇒ Close 0) ∷ (0 ∷ [] ⇒ Close 1) ∷ [])) (Offer 0 1000 ∷ [])
    (Ok (Answer.Verdict 0) ∷ []) 1 1 0 [] 0 (Some 0) 0
    -- C9: a → fail; a, then a: Verdict; refused 14
    ∷ worked (abcd ((0 ∷ [] ⇒ Close 0) ∷ [])) (Offer 0 1000 ∷ Offer 0 1000 ∷ [])
    (Ok (Answer.Verdict 0) ∷ Err 14 ∷ []) 1 1 0 [] 0 (Some 0) 0
    ∷ []
