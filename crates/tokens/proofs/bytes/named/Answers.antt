-- `tokens::bytes::named` meets its contract: a law for each way out.
use mathlib.Core.Path.{sym, ◌∙◌}
use Rattle.grammar.specs.Tokens.{letter}
use Rattle.tokens.proofs.Scans.{named_letter, named_long, named_other, named-nothing}
use Rattle.tokens.proofs.bytes.named.Goals as goal

pub returns-in-len1-up : goal.returns-in-len1-up
unfolding letter
returns-in-len1-up c =
    named_letter _ _ c.if-name-le-NAME_BYTES.true (sym c.is_ascii_alphabetic.ensures.value ∙ c.if-is_ascii_alphabetic.true)

pub returns-in_default : goal.returns-in_default
returns-in_default c = named-nothing _ _ c.in_default.len_below

pub returns-in_default-2 : goal.returns-in_default-2
returns-in_default-2 c = named_long _ _ c.if-name-le-NAME_BYTES.false

pub returns-in_default-3 : goal.returns-in_default-3
unfolding letter
returns-in_default-3 c = named_other _ _ (sym c.is_ascii_alphabetic.ensures.value ∙ c.if-is_ascii_alphabetic.false)
