-- `rule_length` meets its contract: the rule text ends where the first `%` is found.
use Rattle.std.proofs.Common.{◌∙◌, ap, rules, tests, length}
use lib.Dec.{eqb}
use Rattle.std.specs.Option.{unwrap_or}
use Rattle.std.proofs.lemmas.Iterator.{YieldsList-from_slice}
use Rattle.std.proofs.lemmas.Iterator.Search.{position_from_yields_List}
use Rattle.report.proofs.Walking.{rule_position}
use Rattle.report.proofs.rule_length.Goals as goal

pub returns : goal.returns
returns c =
    let found = position_from_yields_List (λ b. eqb b 37) _ _ c.position.result c.position.ensures.ran
    (YieldsList-from_slice c.args.input.now cc) (λ x b q k. search (rules, tests))
    in
    c.unwrap_or.ensures ∙ ap (λ r. unwrap_or r (length c.args.input.now)) found ∙ rule_position c.args.input.now
