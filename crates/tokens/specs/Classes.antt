-- The class of a byte, and two bytes of a name.
use Rattle.std.specs.Prelude.{ℕ, ◌+◌, Bool, cond, ◌&&◌, List, get_or}
use Rattle.grammar.specs.Tokens.{separator, name_byte}
use Rattle.tokens.specs.declared.bytes.Class.{Class}
use Rattle.tokens.specs.declared.bytes.Class.TheVariants as classes

-- the class of a byte: a separator, a byte that may be in a name, or any other
unfoldable pub class_of : ℕ → Class
class_of b = cond (separator b) classes.Separator (cond (name_byte b) classes.Name classes.Other)

-- the byte at the place i may be in a name, and so may the one behind it
unfoldable pub name_pair : List ℕ → ℕ → Bool
name_pair text i = name_byte (get_or text i 32) && name_byte (get_or text (i + 1) 32)
