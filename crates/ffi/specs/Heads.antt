-- A head as four words: settled count, waiting count, verdict + 1 or 0 for none, the verdict's rule. What the monitor's
-- functions return and leave, in words.
use Rattle.std.specs.Prelude.{ℕ, zero, suc, List, [], ◌∷◌, get_or, Option, None, Some, Result}
use Rattle.layout.specs.Refusals.{refusal_number, refused_by}
use Rattle.monitor.specs.declared.Head.{Head}
use Rattle.machine.specs.declared.Answer.{Answer}
use Rattle.machine.specs.declared.Counts.{Counts}
use Rattle.machine.specs.Areas as Areas
use Rattle.machine.specs.Calls.{Fresh, Outcome, answer_number}
use Rattle.machine.specs.Batch.{Batched}

unfoldable pub standing_from : ℕ → Option ℕ
standing_from zero = None
standing_from (suc v) = Some v

unfoldable pub standing_word : Option ℕ → ℕ
standing_word None = 0
standing_word (Some v) = suc v

-- the head that four words are, and the four words that a head is
unfoldable pub head_from : List ℕ → Head
head_from w =
    record { settled = get_or w 0 0; waiting = get_or w 1 0; verdict = standing_from (get_or w 2 0); rule = get_or w 3 0 }

unfoldable pub head_words : Areas.Head → List ℕ
head_words h = h.settled ∷ h.waiting ∷ standing_word h.verdict ∷ h.rule ∷ []

-- the head's words behind a call: as they were beside a refusal, else those of the new head
abbrev pub head_after : Option ℕ → List ℕ → Areas.Head → List ℕ
head_after (Some n) w h = w
head_after None w h = head_words h

-- what fresh returns, and all that is lent to it, at its exit: the empty head beside 10, too
pub record FreshMade : Type 0 where
  pub refusal : ℕ
  pub head : List ℕ
  pub bytes : List ℕ
  pub words : List ℕ

unfoldable pub fresh_made : Fresh → FreshMade
fresh_made f =
    record {
      refusal = refusal_number f.refused;
      head = head_words f.monitor.head;
      bytes = f.monitor.bytes;
      words = f.monitor.words;
    }

-- what offer and go on return, and all that is lent to them, at their exit
pub record CallMade : Type 0 where
  pub refusal : ℕ
  pub head : List ℕ
  pub bytes : List ℕ
  pub words : List ℕ
  pub out : List ℕ

-- answer, steps, rewrites, symbols put back: a refusal has no counts, and its answer's number is 0
unfoldable pub call_words : Result Answer ℕ → Counts → List ℕ
call_words answer c = answer_number answer ∷ c.steps ∷ c.rewrites ∷ c.put ∷ []

unfoldable pub call_made : List ℕ → Outcome → CallMade
call_made head o =
    record {
      refusal = refusal_number (refused_by o.answer);
      head = head_after (refused_by o.answer) head o.monitor.head;
      bytes = o.monitor.bytes;
      words = o.monitor.words;
      out = call_words o.answer o.counts;
    }

-- what batch returns, and all that is lent to it, at its exit
pub record BatchMade : Type 0 where
  pub refusal : ℕ
  pub head : List ℕ
  pub bytes : List ℕ
  pub words : List ℕ
  pub answers : List ℕ
  pub out : List ℕ

-- in `out`: stop, accepted, steps, rewrites, symbols put back; a refusal has 0 for each
unfoldable pub batch_made : List ℕ → Batched → BatchMade
batch_made head b =
    record {
      refusal = refusal_number b.refused;
      head = head_after b.refused head b.monitor.head;
      bytes = b.monitor.bytes;
      words = b.monitor.words;
      answers = b.answers;
      out = b.stop ∷ b.accepted ∷ b.counts.steps ∷ b.counts.rewrites ∷ b.counts.put ∷ [];
    }
