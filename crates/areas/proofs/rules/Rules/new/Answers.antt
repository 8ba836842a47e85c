-- `areas::rules::Rules::new` meets its contract: an image has 64 rules at most.
use native.Mathlib.Omega.{arith}
use Rattle.rewriting.proofs.Ranges.{ranges}
use Rattle.layout.specs.Image.{read}
use Rattle.layout.proofs.Image.{valid-in_range}
use Rattle.areas.proofs.rules.Rules.new.Goals as goal

pub index-requires : goal.index-requires
index-requires c =
    let image = c.args.table.image in
    omega (arith, c.told-starts, (ranges (read image.bytes.now) (valid-in_range image.bytes.now image.valid)).few_rules)
