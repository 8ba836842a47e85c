-- The rules of document 01's sample: `lock take -> held . held free -> #epsilon . take -> #fail .`
use Rattle.std.specs.Prelude.{[], ◌∷◌}
use Rattle.rewriting.specs.Rules.{Put, Close, ◌⇒◌, RuleSet}

-- The symbols are lock 0, take 1, free 2 and held 3, the first three of them events; the verdicts are fail 0 and succeed 1.
unfoldable pub sample : RuleSet
sample =
    record {
      symbols = 4;
      events = 3;
      verdicts = 2;
      rules = (0 ∷ 1 ∷ [] ⇒ Put (3 ∷ [])) ∷ (3 ∷ 2 ∷ [] ⇒ Put []) ∷ (1 ∷ [] ⇒ Close 0) ∷ [];
    }
