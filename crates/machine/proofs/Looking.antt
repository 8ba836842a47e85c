-- What a step reads: the first waiting symbol, the word before it, and the table's words for them.
-- Assumes nothing.
use Prim.Native.Nat.{ℕ, ◌+◌, ◌-◌, ◌*◌, ◌≤◌, ◌<◌}
use mathlib.Core.Path.{◌≡◌, refl, ap, ◌∙◌}
use Rattle.std.specs.Prelude.{Option, None, Some}
use mathlib.Core.List.{List, ◌∷◌}
use native.Mathlib.Omega.{arith}
use lib.Dec.{ltb}
use lib.ListN.{length, get_or}
use borrow.Author.Tests.{ltb-true}
use Rattle.rewriting.specs.Lists.{below}
use Rattle.rewriting.proofs.Lists.{and_left, all_right}
use Rattle.layout.specs.Image.{read}
use Rattle.layout.proofs.Image.{valid-in_range}
use Rattle.layout.specs.States.{states, number, mark, after, next, matching}
use Rattle.layout.specs.Table.{match_word}
use Rattle.layout.proofs.States.{state-known, next_known, next-below, few_states}
use Rattle.machine.specs.Areas.{Monitor, state_of}
use Rattle.machine.specs.Lent.{Passed, next_in, match_in, word_before}
use Rattle.machine.proofs.TableWords.{table_header, next_inside, table_next_in, match_inside, table_match_in}
use Rattle.machine.proofs.Stepping.{Held, held, passed_valid, passed_table, word_before_lem, first_at}

-- a match word tells the rule
pub no_match_lem : (o : Option ℕ) (k : ℕ) → k ≡ match_word o → k ≡ 0 → o ≡ None
unfolding match_word
no_match_lem None k e z = refl
no_match_lem (Some i) k e z = absurd (omega (arith, e, z))

pub some_match : (o : Option ℕ) (k : ℕ) → k ≡ match_word o → (k ≡ 0 → ⊥) → o ≡ Some (k - 1)
unfolding match_word
some_match None k e z = absurd (z e)
some_match (Some i) k e z = let n : i ≡ k - 1 = omega (arith, e) in ap Some n

module _ (capacity : ℕ) (image table : List ℕ) (m : Monitor) (ok : Passed capacity image table m) (a : ℕ) (q : List ℕ)
    (w : (state_of m).waiting ≡ a ∷ q) where
  h : Held (read image) capacity m
  h = held capacity image table m ok

  -- the first waiting symbol, ..
  pub symbol-is : (first : ℕ) → first ≡ capacity - m.head.waiting → get_or m.bytes first 0 ≡ a
  symbol-is first e = first_at (read image) capacity m h a q w first e

  -- .. which is below S
  pub symbol_low : a < (read image).symbols
  symbol_low =
      ltb-true a (read image).symbols
      (and_left (ltb a (read image).symbols) (below (read image).symbols q)
      (all_right (λ x. ltb x (read image).symbols) (state_of m).settled (a ∷ q) (rw w at h.legal.symbols)))

  -- the state before it, in the table
  state-is : (p : ℕ) → p ≡ word_before m.words m.head.settled
      → p ≡ number (states (read image).rules) (after (read image).rules (state_of m).settled)
  state-is p e = e ∙ word_before_lem (read image) capacity m h

  pub next_asks : (p x : ℕ) → p ≡ word_before m.words m.head.settled → x ≡ a
      → (2 ≤ length table) × (2 + get_or table 0 0 + p * get_or table 1 0 + x < length table)
  next_asks p x e f = (
    table_header (read image) table (passed_table capacity image table m ok),
    rw (state-is p e, f)
        (next_inside (read image) table (passed_table capacity image table m ok) (after (read image).rules (state_of m).settled)
        (state-known (read image).rules (mark ∷ (state_of m).settled)) a symbol_low),
  )

  -- the state after it
  pub next-is : (p x n : ℕ) → p ≡ word_before m.words m.head.settled → x ≡ a → n ≡ next_in table p x
      → n ≡ number (states (read image).rules) (next (read image).rules (after (read image).rules (state_of m).settled) a)
  next-is p x n e f g =
      g
      ∙ rw (state-is p e, f)
      (table_next_in (read image) table (passed_table capacity image table m ok) (after (read image).rules (state_of m).settled)
      (state-known (read image).rules (mark ∷ (state_of m).settled)) a symbol_low)

  module _ (n : ℕ) (is-next : n ≡ number (states (read image).rules)
      (next (read image).rules (after (read image).rules (state_of m).settled) a)) where
    pub next_small : n < 65536
    next_small =
        omega (
          arith,
          is-next,
          next-below (read image).rules (after (read image).rules (state_of m).settled) a,
          few_states (read image) (valid-in_range image (passed_valid capacity image table m ok)),
        )

    pub match_asks : 2 + n < length table
    match_asks =
        rw is-next
        (match_inside (read image) table (passed_table capacity image table m ok)
        (next (read image).rules (after (read image).rules (state_of m).settled) a)
        (next_known (read image).rules (after (read image).rules (state_of m).settled) a))

    -- its match word
    pub match_is : (k : ℕ) → k ≡ match_in table n
        → k ≡ match_word (matching (read image).rules (next (read image).rules (after (read image).rules (state_of m).settled) a))
    match_is k e =
        e
        ∙ rw is-next
        (table_match_in (read image) table (passed_table capacity image table m ok)
        (next (read image).rules (after (read image).rules (state_of m).settled) a)
        (next_known (read image).rules (after (read image).rules (state_of m).settled) a))
