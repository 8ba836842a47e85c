-- `tokens::bytes::kind_of` meets its contract: what none of the tests finds is a name, if it is a token.
use mathlib.Core.Path.{◌≡◌, ◌∙◌}
use native.Mathlib.Omega.{arith}
use lib.ListN.{get_or}
use borrow.Author.Rules.{rules, part_to_end}
use Rattle.std.proofs.lemmas.Grind.{common_steps}
use Rattle.tokens.proofs.Scans.{first_past, kind-word, kind_is}
use Rattle.tokens.proofs.bytes.kind_of.Goals.{
  then-run-lt1,
  else-run-lt1+in_default-1,
  in_default-run-via-then-run-lt1-2,
  in_default-run-via-else-run-lt1-2+then-run-lt2+in_default-1,
  in_default-run-via-else-run-lt1-2+else-run-lt2+then-run-lt3+in-45+in_default-1,
  in_default-run-via-else-run-lt1-2+else-run-lt2+then-run-lt3+in_default-1,
  in_default-run-via-else-run-lt1-2+else-run-lt2+else-run-lt3,
}
use Rattle.tokens.proofs.bytes.kind_of.Goals as goal

pub returns-in-35 : goal.returns-in-35
returns-in-35 c = c.named.ensures ∙ rw part_to_end (kind-word c.args.run.now (search rules))

pub returns-in_default-run : goal.returns-in_default-run
returns-in_default-run c =
    let run = c.args.run.now in
    let is = kind_is run in
    let no_hash : get_or run 0 0 ≡ 35 → ⊥ =
    elim c.if-run-lt1.branch [
      | then-run-lt1 w ↦ λ e. omega (arith, e, first_past run (search rules))
      | else-run-lt1+in_default-1 w ↦ λ e. omega (arith, e)
    ]
    in
    elim c.in_default-run.branch [
      | in_default-run-via-then-run-lt1-2 w ↦ grind (arith, common_steps, is, no_hash)
      | in_default-run-via-else-run-lt1-2+then-run-lt2+in_default-1 w ↦ grind (arith, common_steps, is, no_hash)
      | in_default-run-via-else-run-lt1-2+else-run-lt2+then-run-lt3+in-45+in_default-1 w ↦
          grind (arith, common_steps, is, no_hash)
      | in_default-run-via-else-run-lt1-2+else-run-lt2+then-run-lt3+in_default-1 w ↦ grind (arith, common_steps, is, no_hash)
      | in_default-run-via-else-run-lt1-2+else-run-lt2+else-run-lt3 w ↦ grind (arith, common_steps, is, no_hash)
    ]
