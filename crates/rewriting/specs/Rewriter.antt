-- The plain rewriter.
use Rattle.std.specs.Prelude.{ℕ, zero, suc, ◌+◌, List, ◌++◌, length, Option, None, Some, option_map, option_and_then}
use Rattle.rewriting.specs.Rules.{Right, Put, Close, Rule, rule}
use Rattle.rewriting.specs.Occurrences.{Occurrence, redex}

-- "The plain rewriter holds one string and perhaps a verdict." Beside them, how many symbols its rewrites have put in.
pub record Rewriter : Type 0 where
  pub string : List ℕ
  pub verdict : Option ℕ
  pub put : ℕ

-- "is fed the accepted events as its first string, with no verdict"
unfoldable pub fed : List ℕ → Rewriter
fed w = record { string = w; verdict = None; put = 0 }

-- "Its symbols are replaced by the right side, or for a verdict removed and the verdict set." Unlike in 001, "the rest is
-- kept".
unfoldable pub replaced : ℕ → Occurrence → Right → Rewriter
replaced put o (Put v) = record { string = o.before ++ (v ++ o.after); verdict = None; put = put + length v }
replaced put o (Close v) = record { string = o.before ++ o.after; verdict = Some v; put = put }

-- "With a verdict it takes no further rewrite."
unfoldable pub unless_verdict : Option ℕ → Option Rewriter → Option Rewriter
unless_verdict None next = next
unless_verdict (Some v) next = None

-- One rewrite. "Without an occurrence it rests": none.
unfoldable pub rewrite : List Rule → Rewriter → Option Rewriter
rewrite rules c =
    unless_verdict c.verdict
    (option_map (λ o. replaced c.put o (rule rules o.rule).right) (redex rules c.string))

-- n rewrites, each of which "finds an occurrence and no verdict"; none if one does not
unfoldable pub rewrites : List Rule → ℕ → Rewriter → Option Rewriter
rewrites rules zero c = Some c
rewrites rules (suc n) c = option_and_then (rewrite rules) (rewrites rules n c)
