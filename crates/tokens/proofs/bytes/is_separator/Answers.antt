-- `tokens::bytes::is_separator` meets its contract: the class says it.
use mathlib.Core.Path.{sym, ◌∙◌}
use Rattle.tokens.proofs.Classes.{class_separator, class_apart}
use Rattle.tokens.proofs.bytes.is_separator.Goals as goal

pub returns-in-Separator : goal.returns-in-Separator
returns-in-Separator c = sym (class_separator _ (sym c.class_of.ensures ∙ c.in-Separator.is))

pub returns-in_default : goal.returns-in_default
returns-in_default c = sym (class_apart _ (λ e. c.in_default.not-Separator (c.class_of.ensures ∙ e)))
