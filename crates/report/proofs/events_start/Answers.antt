-- `events_start` meets its contract.
use mathlib.Core.Path.{◌≡◌, sym, ◌∙◌}
use lib.ListN.{length}
use native.Mathlib.Omega.{arith}
use Rattle.printing.proofs.Split.{rule_part_le, events_at_lem, events_at_end}
use Rattle.report.proofs.events_start.Goals as goal

pub returns-then-end-input : goal.returns-then-end-input
returns-then-end-input c =
    rw c.requires (sym (events_at_lem c.args.input.now (rw c.requires at c.if-end-input.true)))

pub returns : goal.returns
returns c =
    let input = c.args.input.now in
    let all : c.args.end ≡ length input = omega (arith, c.requires, c.if-end-input.false, rule_part_le input) in
    all ∙ sym (events_at_end input (omega (arith, c.requires, all)))
