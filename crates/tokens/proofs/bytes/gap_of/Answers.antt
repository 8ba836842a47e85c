-- `tokens::bytes::gap_of` meets its contract: the place of the first byte that is no separator.
use mathlib.Core.Path.{sym, ◌∙◌}
use mathlib.Core.Bool.{not}
use borrow.Author.Rules.{rules}
use borrow.Author.Tests.{tests}
use Rattle.std.proofs.lemmas.Iterator.{YieldsList-from_slice}
use Rattle.std.proofs.lemmas.Iterator.Search.{position_from_yields_List}
use Rattle.grammar.specs.Tokens.{separator}
use Rattle.tokens.proofs.Firsts.{place_or_length, gap-place}
use Rattle.tokens.proofs.bytes.gap_of.Goals as goal

pub returns : goal.returns
returns c =
    let t = c.args.part.now in
    let found = position_from_yields_List (λ b. not (separator b)) _ _ c.position.result c.position.ensures.ran
    (YieldsList-from_slice t c.iter.ensures.rest) (λ x b q k. search (rules, tests)) in
    c.unwrap_or.ensures ∙ place_or_length _ _ _ found ∙ sym (gap-place t)
