-- What is lent with the rules that a call works by.
use Rattle.std.specs.Prelude.{length}
use Rattle.rewriting.specs.Rules.{RuleSet}
use Rattle.machine.specs.Areas.{Monitor}
use Rattle.machine.specs.Lent.{Passed}
use Rattle.image.specs.Sets.{set_of}
use Rattle.areas.specs.declared.rules.Rules.{Rules}

-- the image's rule set
abbrev pub set_by : Rules → RuleSet
set_by rules = set_of rules.table.image

-- none of the refusals 7, 9, 10 and 11 is called for, where the monitor's areas have the length that they are to have
abbrev pub PassedWith : Rules → Monitor → Type 0
PassedWith rules m = Passed (length m.bytes) rules.table.image.bytes.now rules.table.words.now m
