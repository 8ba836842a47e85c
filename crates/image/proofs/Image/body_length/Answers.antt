-- `Image::body_length` meets its contract: a body has the left symbols, and the right symbols where the right side is a string.
use Rattle.std.proofs.Common.{arith, sym, ◌∙◌}
use Rattle.rewriting.specs.Rules.{rule}
use Rattle.image.specs.Sets.{set_of}
use Rattle.layout.proofs.Places.{left_within}
use Rattle.image.proofs.Places.{body_put, body_close}
use Rattle.image.proofs.Image.body_length.Goals as goal

pub overflow_add-result : goal.overflow_add-result
overflow_add-result c =
    let a = c.args in
    let r = rule (set_of a.self).rules a.i in
    let size = body_put r c.in-Put.n (sym c.right_side.ensures ∙ c.in-Put.is) in
    omega (arith, size, left_within a.self.bytes.now a.self.valid a.i c.requires)

pub returns-in-Put : goal.returns-in-Put
returns-in-Put c =
    let r = rule (set_of c.args.self).rules c.args.i in
    omega (arith, body_put r c.in-Put.n (sym c.right_side.ensures ∙ c.in-Put.is))

pub returns-in-Close : goal.returns-in-Close
returns-in-Close c =
    let r = rule (set_of c.args.self).rules c.args.i in
    omega (arith, body_close r c.in-Close.field-0 (sym c.right_side.ensures ∙ c.in-Close.is))
