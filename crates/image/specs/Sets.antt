-- The rule set that an image is read as.
use Rattle.rewriting.specs.Rules.{RuleSet}
use Rattle.layout.specs.Image.{read}
use Rattle.image.specs.declared.Image.{Image}

abbrev pub set_of : Image → RuleSet
set_of image = read image.bytes.now
