-- `areas::described::stands_by` meets its contract, by what the image has for the rule.
use mathlib.Core.Path.{◌∙◌}
use native.Mathlib.Omega.{arith}
use borrow.Author.Tests.{le-ltb}
use Rattle.layout.specs.Image.{read}
use Rattle.machine.proofs.VerdictRule.{stands_none, stands_no_rule, stands_put, stands_close}
use Rattle.areas.proofs.described.stands_by.Goals as goal

pub returns-in-None : goal.returns-in-None
returns-in-None c =
    stands_none (read c.args.image.bytes.now).rules c.args.rule c.in-None.is

pub returns-in-Put : goal.returns-in-Put
returns-in-Put c =
    stands_put (read c.args.image.bytes.now).rules c.args.rule c.right_side.ensures _ c.in-Some.is
    _ c.in-Put.is

pub returns-in-Close : goal.returns-in-Close
returns-in-Close c =
    stands_close (read c.args.image.bytes.now).rules c.args.rule c.right_side.ensures _ c.in-Some.is
    _ c.in-Close.is (omega (arith, c.if-rule-rules.true, c.rules.ensures))

pub returns-else-rule-rules : goal.returns-else-rule-rules
returns-else-rule-rules c =
    le-ltb c.args.rule c.rules.result c.if-rule-rules.false
    ∙ stands_no_rule (read c.args.image.bytes.now).rules c.args.rule _ c.in-Some.is
    (omega (arith, c.if-rule-rules.false, c.rules.ensures))
