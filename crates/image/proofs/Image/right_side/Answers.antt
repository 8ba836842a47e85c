-- `Image::right_side` meets its contract: the kind of rule `i` says whether the byte behind it is a length or a verdict.
use Rattle.std.proofs.Common.{ap, ◌∙◌}
use Rattle.layout.specs.declared.RightSide.{RightSide}
use Rattle.image.proofs.Places.{right_verdict, right_string}
use Rattle.image.proofs.Image.right_side.Goals as goal

pub returns-then-self-i-eq1 : goal.returns-then-self-i-eq1
returns-then-self-i-eq1 c =
    let a = c.args in
    ap RightSide.Close c.from.ensures ∙ right_verdict a.self.bytes.now a.self.valid a.i c.requires c.if-self-i-eq1.true

pub returns-else-self-i-eq1 : goal.returns-else-self-i-eq1
returns-else-self-i-eq1 c =
    let a = c.args in
    ap RightSide.Put c.from-else-self-i-eq1.ensures
    ∙ right_string a.self.bytes.now a.self.valid a.i c.requires c.if-self-i-eq1.false
