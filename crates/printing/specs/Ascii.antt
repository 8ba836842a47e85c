-- Texts as bytes.
use Prim.Native.Char.{code}
use Prim.Native.String.{String, [] as no_text, ◌∷◌ as ◌then◌}
use Rattle.std.specs.Prelude.{ℕ, List, [], ◌∷◌}

-- the bytes of a text in ASCII
unfoldable pub bytes : String → List ℕ
bytes no_text = []
bytes (c then s) = code c ∷ bytes s
