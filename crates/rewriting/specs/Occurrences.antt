-- Occurrences of left sides in a string, and the one that a rewrite takes.
use Rattle.std.specs.Prelude.{ℕ, suc, ◌+◌, ◌-◌, ◌<◌, ◌≡◌, Bool, true, false, cond, ◌&&◌, ◌⊎◌, List, [], ◌∷◌, ◌++◌, length, take}
use Rattle.std.specs.Prelude.{Option, None, Some, option_map}
use Rattle.std.specs.Option.{option_or}
use Rattle.rewriting.specs.Lists.{alike, same}
use Rattle.rewriting.specs.Rules.{Rule, rule}

-- An occurrence of a left side: the symbols before it, the rule, the symbols after it.
pub record Occurrence : Type 0 where
  pub before : List ℕ
  pub rule : ℕ
  pub after : List ℕ

-- o is an occurrence in the string w. A marked left side "occurs only at the string's first symbol".
abbrev pub Occurs : List Rule → List ℕ → Occurrence → Type 0
Occurs rules w o =
    (o.rule < length rules)
    × (w ≡ o.before ++ ((rule rules o.rule).left ++ o.after))
    × ((rule rules o.rule).marked ≡ true → o.before ≡ [])

-- Where an occurrence begins, and where it ends: how many symbols stand before it, and before its end. The mark is no symbol.
abbrev pub begins : Occurrence → ℕ
begins o = length o.before

abbrev pub ends : List Rule → Occurrence → ℕ
ends rules o = length o.before + length (rule rules o.rule).left

-- "On the same span a marked rule wins over an unmarked one", and of two others "the lowest rule": rule i is taken before rule j
abbrev pub Stronger : List Rule → ℕ → ℕ → Type 0
Stronger rules i j =
    (((rule rules i).marked ≡ true) × ((rule rules j).marked ≡ false))
    ⊎ (((rule rules i).marked ≡ (rule rules j).marked) × (i < j))

-- "take the one that ends first; of these the one that begins first; of these the lowest rule": o is taken before o'
abbrev pub Sooner : List Rule → Occurrence → Occurrence → Type 0
Sooner rules o o' =
    (ends rules o < ends rules o')
    ⊎ ((ends rules o ≡ ends rules o')
    × ((begins o < begins o') ⊎ ((begins o ≡ begins o') × Stronger rules o.rule o'.rule)))

-- The rest of this file finds the occurrence that is taken. Where no left side is empty, what it finds is an occurrence
-- (`redex_occurs`) and sooner than every other (`redex_first`), and it finds one wherever there is one (`redex-none`,
-- all in proofs/Redex.antt).

-- "the lowest rule" with the left side v, of those with a mark or of those without
unfoldable pub lowest : List Rule → Bool → List ℕ → Option ℕ
lowest [] marked v = None
lowest (r ∷ rules) marked v =
    cond (alike marked r.marked && same r.left v) (Some 0) (option_map suc (lowest rules marked v))

-- The rule that is taken among those with the left side v, where v stands at the string's start or elsewhere. Only there does a
-- marked one occur, and then "a marked rule wins over an unmarked one".
unfoldable pub spanning : List Rule → Bool → List ℕ → Option ℕ
spanning rules true v = option_or (lowest rules true v) (lowest rules false v)
spanning rules false v = lowest rules false v

-- Of two occurrences that end together, the first of which begins before the second, the one that is taken:
-- "the one that begins first". No other place chooses by where they begin.
unfoldable pub tie : Option ℕ → Option ℕ → Option ℕ
tie earlier later = option_or earlier later

-- the rule of the occurrence that is taken among those that end where p ends, where p stands at the string's start or elsewhere
unfoldable pub ending : List Rule → Bool → List ℕ → Option ℕ
ending rules start [] = None
ending rules start (x ∷ p) = tie (spanning rules start (x ∷ p)) (ending rules false p)

-- p without rule i's left side at its end
abbrev pub cut : List Rule → List ℕ → ℕ → List ℕ
cut rules p i = take (length p - length (rule rules i).left) p

-- the occurrence of rule i that ends where p ends, with q after it
unfoldable pub ending_at : List Rule → List ℕ → List ℕ → ℕ → Occurrence
ending_at rules p q i = record { before = cut rules p i; rule = i; after = q }

-- "take the one that ends first": of the occurrences in p ++ q that end behind p
unfoldable pub scan : List Rule → List ℕ → List ℕ → Option Occurrence
scan rules p [] = None
scan rules p (a ∷ q) =
    option_or (option_map (ending_at rules (p ++ a ∷ []) q) (ending rules true (p ++ a ∷ []))) (scan rules (p ++ a ∷ []) q)

-- the occurrence that a rewrite of the string w takes
unfoldable pub redex : List Rule → List ℕ → Option Occurrence
redex rules w = scan rules [] w
