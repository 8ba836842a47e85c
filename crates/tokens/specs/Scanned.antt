-- What the first bytes of a run and its length make of it.
use Rattle.std.specs.Prelude.{ℕ, ◌≡◌, true, cond, ◌&&◌, List, [], ◌∷◌, eqb, leb, length, Option, Some, None}
use Rattle.rewriting.specs.Lists.{same, prefix}
use Rattle.tokens.specs.declared.Kind.{Kind}
use Rattle.tokens.specs.declared.Kind.TheVariants as kinds
use Rattle.grammar.specs.Tokens.{letter, is_name, Token, Name, Word, Arrow, Stop, Mark}

-- the number of bytes before the name of a run: those of `#`, `.`, `^` and `->`
unfoldable pub lead : List ℕ → ℕ
lead [] = 0
lead (b ∷ t) = cond (eqb b 35) 1 (cond (eqb b 46) 1 (cond (eqb b 94) 1 (cond (eqb b 45 && prefix (62 ∷ []) t) 2 0)))

-- this kind, for a name that begins with a letter and has at most 24 bytes
unfoldable pub named_as : Kind → List ℕ → Option Kind
named_as kind [] = None
named_as kind (b ∷ t) = cond (leb (length (b ∷ t)) 24 && letter b) (Some kind) None

-- what a run is, if all bytes of its name may be in one
unfoldable pub kind_of : List ℕ → Option Kind
kind_of [] = None
kind_of (b ∷ t) =
    cond (eqb b 46) (cond (eqb (length (b ∷ t)) 1) (Some kinds.Stop) None)
    (cond (eqb b 45) (cond (same (b ∷ t) (45 ∷ 62 ∷ [])) (Some kinds.Arrow) None)
    (cond (eqb b 35) (named_as kinds.Word t)
    (cond (eqb b 94) (cond (eqb (length (b ∷ t)) 1) (Some kinds.Mark) None) (named_as kinds.Name (b ∷ t)))))

-- the token of that kind with this name
unfoldable pub token_as : Option Kind → List ℕ → Option Token
token_as (Some kinds.Name) x = Some (Name x)
token_as (Some kinds.Word) x = Some (Word x)
token_as (Some kinds.Arrow) x = Some Arrow
token_as (Some kinds.Stop) x = Some Stop
token_as (Some kinds.Mark) x = Some Mark
token_as None x = None

-- a name or a word is followed by its name
abbrev pub Named : Option Kind → List ℕ → Type 0
Named (Some kinds.Name) x = is_name x ≡ true
Named (Some kinds.Word) x = is_name x ≡ true
Named (Some kinds.Arrow) x = Unit {0}
Named (Some kinds.Stop) x = Unit {0}
Named (Some kinds.Mark) x = Unit {0}
Named None x = Unit {0}
