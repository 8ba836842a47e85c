-- `areas::held::word_before` meets its contract: 0 at the start, else the word before.
use mathlib.Core.Path.{◌∙◌}
use Rattle.machine.proofs.SettledTurns.{word_before_lem}
use Rattle.areas.proofs.held.word_before.Goals as goal

pub returns : goal.returns
returns c =
    c.from.ensures ∙ word_before_lem c.args.words.now c.args.n c.if-n-eq0.false
