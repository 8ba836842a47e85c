-- Heads and answers as words: the words of a head that a call or a batch gives back fit, and what the functions of the
-- interface return and leave is what their definitions say.
-- Assumes nothing.
use Prim.Native.Nat.{ℕ, ◌≤◌, ◌<◌}
use mathlib.Core.Path.{◌≡◌, refl, ap, ◌∙◌}
use Rattle.std.specs.Prelude.{Option, None, Some, Result, Ok, Err}
use Rattle.std.specs.Result.{result_err}
use mathlib.Core.List.{List, [], ◌∷◌}
use native.Mathlib.Omega.{arith}
use Rattle.layout.specs.declared.Refusal.{Refusal}
use Rattle.layout.specs.Refusals.{refusal, refusal_number, refused_by, numbered}
use Rattle.machine.specs.State.{empty, active}
use Rattle.machine.specs.Areas.{Monitor, head_of}
use Rattle.machine.specs.Calls.{Call, Fresh, Outcome, fresh_of, freshened, sized, call_of, answer_number}
use Rattle.machine.specs.Batch.{Batched, batch_of}
use Rattle.machine.proofs.AnswerNumbers.{answer_number-below, accepted_verdict, batch_verdict}
use Rattle.monitor.specs.Lent.{stop_number}
use Rattle.ffi.specs.Numbers.{refused_number}
use Rattle.ffi.specs.Heads.{standing_word, head_words, head_after, fresh_made, call_words, call_made, batch_made}

-- a verdict below 16 as a word
word_below : (s : Option ℕ) → ((v : ℕ) → s ≡ Some v → v < 16) → standing_word s ≤ 16
unfolding standing_word
word_below None h = omega arith
word_below (Some v) h = let low : v < 16 = h v refl in omega arith

-- fresh
pub fresh-word : (capacity : ℕ) (bytes words : List ℕ) (f : Fresh) → f ≡ fresh_of capacity bytes words
    → standing_word f.monitor.head.verdict ≤ 16
unfolding fresh_of freshened head_of empty active standing_word
fresh-word capacity bytes words f e = rw e (go (refusal ((sized capacity bytes words, 10) ∷ [])))
  where
    go : (o : Option ℕ) → standing_word (freshened capacity bytes words o).monitor.head.verdict ≤ 16
    go None = omega arith
    go (Some n) = omega arith

pub fresh_made_lem : {f g : Fresh} → f ≡ g → (r : ℕ) (head : List ℕ) → r ≡ refusal_number f.refused
    → head ≡ head_words f.monitor.head
    → record { refusal = r; head = head; bytes = f.monitor.bytes; words = f.monitor.words } ≡ fresh_made g
unfolding fresh_made
fresh_made_lem {f = f} e r head p q =
    (λ i. record { refusal = p i; head = q i; bytes = f.monitor.bytes; words = f.monitor.words })
    ∙ ap fresh_made e

-- a call
pub call_words_lem :
    (capacity : ℕ) (image table : List ℕ) (m : Monitor) (c : Call) (o : Outcome) → o ≡ call_of capacity image table m c
    → (answer_number o.answer < 256) × (refused_by o.answer ≡ None → standing_word o.monitor.head.verdict ≤ 16)
call_words_lem capacity image table m c o e = rw e (
  answer_number-below capacity image table m c,
  λ a. word_below (call_of capacity image table m c).monitor.head.verdict (accepted_verdict capacity image table m c a),
)

pub call_made_lem : (w : List ℕ) {o p : Outcome} → o ≡ p → (r : ℕ) (head out : List ℕ) → r ≡ refusal_number (refused_by o.answer)
    → head ≡ head_after (refused_by o.answer) w o.monitor.head → out ≡ call_words o.answer o.counts
    → record { refusal = r; head = head; bytes = o.monitor.bytes; words = o.monitor.words; out = out } ≡ call_made w p
unfolding call_made
call_made_lem w {o = o} e r head out x y z =
    (λ i. record { refusal = x i; head = y i; bytes = o.monitor.bytes; words = o.monitor.words; out = z i })
    ∙ ap (call_made w) e

-- a batch
pub batch-word : (capacity : ℕ) (image table : List ℕ) (m : Monitor) (events : List ℕ) (fuel : ℕ) (answers : List ℕ) (b : Batched)
    → b ≡ batch_of capacity image table m events fuel answers → b.refused ≡ None
    → standing_word b.monitor.head.verdict ≤ 16
batch-word capacity image table m events fuel answers b e h =
    word_below b.monitor.head.verdict (rw e (batch_verdict capacity image table m events fuel answers (rw e at h)))

pub batch_made_lem : (w : List ℕ) {b p : Batched} → b ≡ p → (r : ℕ) (head : List ℕ) → r ≡ refusal_number b.refused
    → head ≡ head_after b.refused w b.monitor.head
    → record {
      refusal = r;
      head = head;
      bytes = b.monitor.bytes;
      words = b.monitor.words;
      answers = b.answers;
      out = b.stop ∷ b.accepted ∷ b.counts.steps ∷ b.counts.rewrites ∷ b.counts.put ∷ [];
    }
    ≡ batch_made w p
unfolding batch_made
batch_made_lem w {b = b} e r head x y =
    (λ i.
    record {
      refusal = x i;
      head = y i;
      bytes = b.monitor.bytes;
      words = b.monitor.words;
      answers = b.answers;
      out = b.stop ∷ b.accepted ∷ b.counts.steps ∷ b.counts.rewrites ∷ b.counts.put ∷ [];
    })
    ∙ ap (batch_made w) e

-- the number of an answer's refusal
pub err_number : {A : Type 0} (r : Result A Refusal) → stop_number (result_err r) ≡ refused_number (numbered r)
unfolding refused_number refused_by refusal_number
err_number (Ok a) = refl
err_number (Err e) = refl
