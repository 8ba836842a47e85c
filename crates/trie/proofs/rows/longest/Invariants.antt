use Prim.Native.Nat.{ℕ, ◌≤◌, ◌<◌}
use mathlib.Core.List.{List}
use lib.ListN.{length}
use Rattle.rewriting.specs.Rules.{Rule, rule}
use Rattle.image.specs.Sets.{set_of}
use Rattle.trie.proofs.rows.longest.Given as goal

-- no left side of the rules before i is longer than n
abbrev pub NoLongerBefore : ℕ → List Rule → ℕ → Type 0
NoLongerBefore i rules n = (k : ℕ) → k < i → length (rule rules k).left ≤ n

-- n is the least such number
abbrev pub LeastBefore : ℕ → List Rule → ℕ → Type 0
LeastBefore i rules n = (m : ℕ) → NoLongerBefore i rules m → n ≤ m

abbrev pub invariant-loop-i : goal.invariant-loop-i
invariant-loop-i l =
    (l.most ≤ 8) × NoLongerBefore l.i (set_of l.image).rules l.most × LeastBefore l.i (set_of l.image).rules l.most
