use Prim.Native.Nat.{ℕ, ◌≤◌, ◌<◌}
use mathlib.Core.Path.{◌≡◌}
use mathlib.Core.Bool.{not}
use lib.Dec.{eqb}
use Rattle.trie.specs.Nodes.{tally}
use Rattle.layout.specs.Words.{transition}
use Rattle.table.proofs.compare.Parts.unlike.Given as goal

abbrev pub invariant-loop-a : goal.invariant-loop-a
invariant-loop-a g l =
    (l.a ≤ l.self.width) × (l.n ≤ l.a)
    × ((other : ℕ → ℕ) → ((a r : ℕ) → a < l.self.width → g.F.Fn.post l.word (a, tt) r → r ≡ other a)
    → l.n ≡ tally (λ k. not (eqb (transition l.self.rows.now l.self.width l.q k) (other k))) l.a)
