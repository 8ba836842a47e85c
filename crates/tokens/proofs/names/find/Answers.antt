-- `tokens::names::find` meets its contract: the place of the slot among the slots.
use mathlib.Core.Path.{◌∙◌}
use borrow.Author.Rules.{rules}
use borrow.Author.Tests.{tests}
use Rattle.std.proofs.lemmas.Iterator.{YieldsList-from_slice}
use Rattle.std.proofs.lemmas.Iterator.Search.{position_from_yields_List}
use Rattle.tokens.proofs.Places.{is_key, slot_place}
use Rattle.tokens.proofs.names.find.Goals as goal

pub returns : goal.returns
returns c =
    let a = c.args in
    position_from_yields_List (is_key a.key.now a.last) _ _ c.position.result c.position.ensures.ran
    (YieldsList-from_slice a.slots.now c.iter.ensures.rest) (λ x b q k. search (rules, tests))
    ∙ slot_place a.key.now a.last a.slots.now
