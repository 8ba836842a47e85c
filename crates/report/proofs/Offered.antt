-- What an offer gives back fits its line, and the line is put together from its parts.
-- Assumes nothing.
use Prim.Native.Nat.{ℕ, ◌≤◌, ◌<◌, ◌^◌}
use mathlib.Core.Path.{◌≡◌, refl, sym, ap, ◌∙◌}
use mathlib.Core.Bool.{Bool, true, false, cond, ◌&&◌}
use Rattle.std.specs.Prelude.{None, Some, Result, Ok, Err}
use mathlib.Core.List.{List, [], ◌∷◌, ◌++◌}
use native.Mathlib.Omega.{arith}
use lib.Dec.{leb}
use lib.ListN.{length, length-append}
use borrow.Author.Tests.{leb-true}
use Rattle.rewriting.specs.Lists.{between}
use Rattle.rewriting.proofs.Lists.{between_high, below_weaken}
use Rattle.rewriting.proofs.Ranges.{ranges}
use Rattle.layout.specs.Image.{read}
use Rattle.layout.proofs.Image.{valid-in_range}
use Rattle.layout.specs.declared.Refusal.{Refusal}
use Rattle.layout.specs.Refusals.{refused_by, number, numbered}
use Rattle.machine.specs.declared.Answer.{Answer}
use Rattle.monitor.specs.declared.Returned.{Returned}
use Rattle.machine.specs.Run.{fits}
use Rattle.machine.specs.Areas.{Monitor, document_capacity, head_of, monitor_of, state_of}
use Rattle.machine.specs.Calls.{Offer, fuel_of, Outcome, offer_of, call_of}
use Rattle.machine.specs.Play.{string_of}
use Rattle.monitor.specs.Lent.{outcome_from}
use Rattle.machine.proofs.Areas.{state_back}
use Rattle.machine.proofs.Calls.{Holding, next}
use Rattle.machine.proofs.CallTheorem.{call_theorem}
use Rattle.machine.proofs.AnswerNumbers.{Lent, passed_lent, accepted_passed, accepted_verdict}
use Rattle.grammar.specs.Lookup.{slot_at, symbol_named}
use Rattle.grammar.specs.Names.{slot}
use Rattle.printing.specs.Ascii.{bytes}
use Rattle.printing.specs.Lines.{space, newline, refused_word, decimal, answer_word, counted, told, event_line}
use Rattle.printing.specs.Watch.{Watch, offered, offered_name, line_for}
use Rattle.lines.specs.Wrote.{HasSlot, Small}
use Rattle.printing.proofs.Decimals.{decimal-length}
use Rattle.printing.proofs.SlotNames.{answer_length}
use Rattle.lines.proofs.Joining.{counted_length}

-- a name that a symbol has is short
pub named_short : (area x : List ℕ) (i : ℕ) → symbol_named area x ≡ Some i → length x ≤ 24
unfolding symbol_named
named_short area x i e = go (between 1 (length x) 24) refl e
  where
    go : (b : Bool) → between 1 (length x) 24 ≡ b
        → cond (b && leb 800 (length area)) (slot_at (slot x) 32 area) None ≡ Some i → length x ≤ 24
    go true h f = between_high 1 (length x) 24 h
    go false h f = let z : ◌≡◌ {A = ℕ} 0 1 = cc in absurd (omega arith)

-- An offer on whatever is lent.
module _ (image table : List ℕ) (m : Monitor) (a : ℕ) where
  abbrev o : Outcome
  o = call_of document_capacity image table m (Offer a 1000)

  kept : refused_by o.answer ≡ None → Holding (read image) document_capacity o.monitor
  kept e =
      let l : Lent document_capacity image table m =
      passed_lent document_capacity image table m (accepted_passed document_capacity image table m (Offer a 1000) e)
      in
      (next document_capacity image table l.good l.right m l.holding (Offer a 1000)).after

  few_symbols : refused_by o.answer ≡ None → (read image).symbols ≤ 48
  few_symbols e =
      let l : Lent document_capacity image table m =
      passed_lent document_capacity image table m (accepted_passed document_capacity image table m (Offer a 1000) e)
      in
      omega (arith, (ranges (read image) (valid-in_range image l.good)).few_symbols)

  offer_small : refused_by o.answer ≡ None → Small o
  unfolding fits fuel_of monitor_of head_of string_of
  offer_small e =
      let h : Holding (read image) document_capacity o.monitor = kept e in
      let ended : _ = call_theorem document_capacity image table m (Offer a 1000) in
      let back : state_of (monitor_of (read image).rules document_capacity h.state) ≡ h.state =
      state_back (read image).rules document_capacity h.state
      in
      record {
        steps = ended.steps;
        rewrites = omega (arith, ended.steps, ended.rewrites);
        string = rw h.written (leb-true _ _ h.room);
        slots =
            below_weaken (read image).symbols 48 (string_of o.monitor) (few_symbols e)
            (rw (h.written, back) h.legal.symbols);
      }

  offer_slot : (b : Answer) → o.answer ≡ Ok b → HasSlot b
  unfolding refused_by fuel_of state_of
  offer_slot Answer.Quiet e = tt
  offer_slot Answer.Spent e = tt
  offer_slot Answer.Full e = tt
  offer_slot (Answer.Verdict v) e =
      accepted_verdict document_capacity image table m (Offer a 1000) (ap (λ (x : Result Answer ℕ). refused_by x) e) v
      ((call_theorem document_capacity image table m (Offer a 1000)).stopped (Answer.Verdict v) e)

-- the words of a monitor play no part in a line
small_words : (r : Returned) (bytes words : List ℕ) → Small (outcome_from r bytes words) → Small (outcome_from r bytes [])
unfolding string_of state_of
small_words r bytes words s =
    record { steps = s.steps; rewrites = s.rewrites; string = s.string; slots = s.slots }

told_words :
    (names : List ℕ) (r : Returned) (bytes words : List ℕ) (a : Result Answer ℕ)
    → told names (outcome_from r bytes []) a ≡ told names (outcome_from r bytes words) a
unfolding told counted string_of state_of
told_words names r bytes words (Ok a) = refl
told_words names r bytes words (Err n) = refl

-- The line for a name that no symbol has, and for one that is offered.
pub line_unknown :
    (w : Watch) (x : List ℕ) → symbol_named w.names x ≡ None
    → x ++ space ∷ (refused_word ++ space ∷ (decimal 12 ++ newline ∷ [])) ≡ line_for w x
unfolding line_for event_line offered_name offered answer_word told
line_unknown w x e = rw e

pub line_offered :
    (w : Watch) (x : List ℕ) (a : ℕ) (r : Returned) (bytes words : List ℕ) → symbol_named w.names x ≡ Some a
    → outcome_from r bytes words ≡ offer_of document_capacity w.image w.table w.monitor a 1000
    → x
    ++ space
    ∷ (answer_word w.names (numbered r.answer)
    ++ space
    ∷ (told w.names (outcome_from r bytes []) (numbered r.answer) ++ newline ∷ []))
    ≡ line_for w x
unfolding line_for event_line offered_name offered
line_offered w x a r bytes words e p = rw (e, ← p, told_words w.names r bytes words (numbered r.answer))

-- what the code's offer gave back
module _ (image table : List ℕ) (m : Monitor) (a : ℕ) (r : Returned) (bytes words : List ℕ)
    (made : outcome_from r bytes words ≡ offer_of document_capacity image table m a 1000) where
  pub made_slot : (b : Answer) → r.answer ≡ Ok b → HasSlot b
  unfolding offer_of
  made_slot b e = offer_slot image table m a b (sym (ap (λ (o : Outcome). o.answer) made) ∙ ap numbered e)

  pub made_small : refused_by (numbered r.answer) ≡ None → Small (outcome_from r bytes [])
  unfolding offer_of
  made_small e =
      small_words r bytes words
      (rw made (offer_small image table m a (rw (ap (λ (o : Outcome). o.answer) made) at e)))

-- How long the rest of a line is, from the answer on.
number_small : (r : Refusal) → number r < 10 ^ 10
number_small Refusal.LongText = omega arith
number_small Refusal.ShortArea = omega arith
number_small Refusal.NoToken = omega arith
number_small Refusal.Misplaced = omega arith
number_small Refusal.TooMany = omega arith
number_small Refusal.Repeated = omega arith
number_small Refusal.BadImage = omega arith
number_small Refusal.ShortTable = omega arith
number_small Refusal.OtherTable = omega arith
number_small Refusal.AreaLength = omega arith
number_small Refusal.NotAsDescribed = omega arith
number_small Refusal.NoEvent = omega arith
number_small Refusal.TooMuchFuel = omega arith
number_small Refusal.VerdictStands = omega arith
number_small Refusal.NoRoom = omega arith
number_small Refusal.BatchLength = omega arith
number_small Refusal.NoCalls = omega arith

told_length :
    (names : List ℕ) (o : Outcome) (a : Result Answer Refusal) → (refused_by (numbered a) ≡ None → Small o)
    → length (told names o (numbered a)) ≤ 51209
unfolding told refused_by
told_length names o (Ok a) small = counted_length names o (small refl)
told_length names o (Err r) small = omega (arith, decimal-length 9 (number r) (number_small r))

pub answered_length :
    (names : List ℕ) (o : Outcome) (a : Result Answer Refusal) → (refused_by (numbered a) ≡ None → Small o)
    → length (answer_word names (numbered a) ++ space ∷ (told names o (numbered a) ++ newline ∷ [])) ≤ 51236
answered_length names o a small =
    omega (
      arith,
      length-append (answer_word names (numbered a)) (space ∷ (told names o (numbered a) ++ newline ∷ [])),
      length-append (told names o (numbered a)) (newline ∷ []),
      answer_length names (numbered a),
      told_length names o a small,
    )

pub unknown_length : (n : ℕ) → n < 10 ^ 10 → length (refused_word ++ space ∷ (decimal n ++ newline ∷ [])) ≤ 40
unfolding bytes
unknown_length n h = omega (arith, length-append (decimal n) (newline ∷ []), decimal-length 9 n h)
