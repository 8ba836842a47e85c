-- `tokens::bytes::is_name_byte` meets its contract: the class says it.
use mathlib.Core.Path.{sym, ◌∙◌}
use Rattle.tokens.proofs.Classes.{class_name, class_unnamed}
use Rattle.tokens.proofs.bytes.is_name_byte.Goals as goal

pub returns-in-Name : goal.returns-in-Name
returns-in-Name c = sym (class_name _ (sym c.class_of.ensures ∙ c.in-Name.is)).1

pub returns-in_default : goal.returns-in_default
returns-in_default c = sym (class_unnamed _ (λ e. c.in_default.not-Name (c.class_of.ensures ∙ e)))
