-- The machine simulates the plain rewriter: whatever it reaches from the string w, waiting, holds the string and the
-- verdict that the rewriter has after as many rewrites.
-- Assumes nothing.
use Prim.Native.Nat.{ℕ, suc, ◌+◌}
use mathlib.Core.Path.{◌≡◌, refl}
use mathlib.Core.Bool.{true}
use Rattle.std.specs.Prelude.{Option, None, Some}
use mathlib.Core.List.{List, [], ◌∷◌, ◌++◌}
use native.Mathlib.Omega.{arith}
use native.Mathlib.Numerals.{add-one}
use native.Mathlib.Nat.{add-zero}
use lib.ListN.{length, length-append}
use lib.Seq.{append_snoc}
use Rattle.rewriting.specs.Lists.{below}
use Rattle.rewriting.specs.Rules.{Right, Put, Close, Rule, RuleSet, rule}
use Rattle.rewriting.specs.Occurrences.{redex, ending, cut, ending_at}
use Rattle.rewriting.specs.Rewriter.{fed, replaced, unless_verdict, rewrite, rewrites}
use Rattle.rewriting.proofs.Ranges.{Ranges}
use Rattle.rewriting.proofs.Scan.{redex_found}
use Rattle.rewriting.proofs.Rewrites.{rewrites_one_more}
use Rattle.layout.proofs.Matching.{Plain, matching-next}
use Rattle.machine.specs.declared.Counts.{Counts}
use Rattle.machine.specs.State.{State, active, replace, settle, step}
use Rattle.machine.specs.Run.{no_counts, plus, counts_of}
use Rattle.machine.proofs.Machine.{Reaches, Stay, On}
use Rattle.machine.proofs.Legal.{Legal, legal_waiting, legal_plain, legal_reaches}

-- what is so of a state t that is reached from w with the counts c
pub record Faithful (rules : List Rule) (w : List ℕ) (c : Counts) (t : State) : Type 0 where
  -- the rewriter makes as many rewrites, holds the same string and verdict, and has put in as many symbols
  pub rewriter : rewrites rules c.rewrites (fed w)
      ≡ Some (record { string = t.settled ++ t.waiting; verdict = t.verdict; put = c.put })
  -- each symbol that came, as an event or put back, was taken by a step or still waits
  pub balance : c.steps + length t.waiting ≡ length w + c.put

module _ (rules : List Rule) (w : List ℕ) (c : Counts) (s : List ℕ) (a : ℕ) (q : List ℕ)
    (f : Faithful rules w c (active s (a ∷ q))) where
  -- no left side ends with a: the rewriter does nothing
  faithful_none : Faithful rules w (plus c (counts_of (settle rules (s ++ a ∷ []) q None))) (settle rules (s ++ a ∷ []) q None).to
  unfolding settle active plus counts_of
  faithful_none =
      record {
        rewriter = simp (add-zero, append_snoc) f.rewriter;
        balance = let b : c.steps + suc (length q) ≡ length w + c.put = f.balance in omega arith;
      }

  -- rule i's left side ends with a: it is the rewriter's redex
  faithful_some : (i : ℕ) → redex rules s ≡ None → ending rules true (s ++ a ∷ []) ≡ Some i
      → Faithful rules w (plus c (counts_of (settle rules (s ++ a ∷ []) q (Some i)))) (settle rules (s ++ a ∷ []) q (Some i)).to
  unfolding settle active plus counts_of replace rewrite unless_verdict replaced ending_at
  faithful_some i clean e = go (rule rules i).right refl
    where
      kept : List ℕ
      kept = cut rules (s ++ a ∷ []) i

      rewritten : rewrites rules (c.rewrites + 1) (fed w)
          ≡ Some (replaced c.put (ending_at rules (s ++ a ∷ []) q i) (rule rules i).right)
      rewritten =
          rw add-one
          (rewrites_one_more rules c.rewrites (fed w) (record { string = s ++ a ∷ q; verdict = None; put = c.put })
          (replaced c.put (ending_at rules (s ++ a ∷ []) q i) (rule rules i).right) f.rewriter
          (rw (redex_found rules s a q i clean e)))

      go : (r : Right) → (rule rules i).right ≡ r
          → Faithful rules w (plus c (counts_of (replace kept q i r))) (replace kept q i r).to
      go (Put v) h =
          record {
            rewriter = rw h at rewritten;
            balance = let b : c.steps + suc (length q) ≡ length w + c.put = f.balance in simp length-append (omega arith);
          }
      go (Close v) h =
          record {
            rewriter = rw add-zero (rw h at rewritten);
            balance = let b : c.steps + suc (length q) ≡ length w + c.put = f.balance in omega arith;
          }

-- a step
faithful_step : (rules : List Rule) (w : List ℕ) (c : Counts) (t : State) (a : ℕ) (q : List ℕ) → t.verdict ≡ None
    → t.waiting ≡ a ∷ q → redex rules t.settled ≡ None → Plain (t.settled ++ a ∷ []) → Faithful rules w c t
    → Faithful rules w (plus c (counts_of (step rules t.settled a q))) (step rules t.settled a q).to
unfolding step active
faithful_step rules w c t a q v h clean plain f = rw (matching-next rules t.settled a plain) (go (ending rules true p) refl)
  where
    p : List ℕ
    p = t.settled ++ a ∷ []

    here : Faithful rules w c (active t.settled (a ∷ q))
    here = record { rewriter = rw (h, v) at f.rewriter; balance = rw h at f.balance }

    go : (m : Option ℕ) → ending rules true p ≡ m
        → Faithful rules w (plus c (counts_of (settle rules p q m))) (settle rules p q m).to
    go None e = faithful_none rules w c t.settled a q here
    go (Some i) e = faithful_some rules w c t.settled a q here i clean e

-- any steps
pub faithful : (set : RuleSet) → Ranges set → (w : List ℕ) → below set.symbols w ≡ true → {c : Counts} {t : State}
    → Reaches set.rules (active [] w) c t → Faithful set.rules w c t
unfolding active no_counts rewrites fed
faithful set ranges w h Stay = record { rewriter = refl; balance = omega arith }
faithful set ranges w h (On {c = c} {t = t} a q r v e) =
    let f : Legal set t = legal_reaches set ranges r (legal_waiting set w h) in
    faithful_step set.rules w c t a q v e f.clean (legal_plain set ranges t a q e f) (faithful set ranges w h r)
