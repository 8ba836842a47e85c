-- `image::Image::marked` meets its contract: the mark is read back from its byte.
use mathlib.Core.Path.{◌∙◌, ap}
use mathlib.Core.Bool.{Bool}
use Prim.Native.Nat.{ℕ}
use lib.Dec.{eqb}
use Rattle.layout.proofs.Image.{read-mark}
use Rattle.layout.proofs.Places.{contents-mark}
use Rattle.image.proofs.Image.marked.Goals as goal

pub returns : goal.returns
returns c =
    ap (λ (n : ℕ). eqb n 1) (contents-mark c.args.self.bytes.now c.args.self.valid c.args.i c.requires) ∙ read-mark _
