-- Cases that compute, on the rules of document 01's sample: what the laws of this crate assume does happen.
-- Assumes nothing.
use mathlib.Core.Path.{◌≡◌, refl}
use mathlib.Core.Bool.{true, false}
use Rattle.std.specs.Prelude.{None, Some, option_and_then}
use Rattle.std.specs.Option.{option_or}
use mathlib.Core.List.{[], ◌∷◌, ◌++◌}
use native.Mathlib.Omega.{arith}
use Rattle.rewriting.specs.Rules.{Close, ◌⇒◌, at_start, rule, right_in_range, rule_in_range, in_range}
use Rattle.rewriting.specs.Occurrences.{Occurs, lowest, spanning, tie, ending, ending_at, scan, redex}
use Rattle.rewriting.specs.Rewriter.{fed, replaced, unless_verdict, rewrite, rewrites}
use Rattle.rewriting.specs.Sample.{sample}
use Rattle.rewriting.proofs.Lists.{not-true}

-- the sample is in range, so no left side of it is empty
sample-in_range : in_range sample ≡ true
unfolding in_range rule_in_range right_in_range sample
sample-in_range = refl

-- `lock take` is rule 0, and no rule has the left side `lock`
lowest_lock_take : lowest sample.rules false (0 ∷ 1 ∷ []) ≡ Some 0
unfolding lowest sample
lowest_lock_take = refl

lowest_lock : lowest sample.rules false (0 ∷ []) ≡ None
unfolding lowest sample
lowest_lock = refl

-- of `lock take` (rule 0) and `take` (rule 2), which end together, the first begins first
tie_both : tie (Some 0) (Some 2) ≡ Some 0
unfolding tie
tie_both = refl

tie_neither : tie None None ≡ None
unfolding tie
tie_neither = refl

ending_lock_take : ending sample.rules true (0 ∷ 1 ∷ []) ≡ Some 0
unfolding ending tie spanning lowest sample
ending_lock_take = refl

-- where the string goes on before the left side
ending_free_take : ending sample.rules true (2 ∷ 1 ∷ []) ≡ Some 2
unfolding ending tie spanning lowest sample
ending_free_take = refl

ending_lock_free : ending sample.rules true (0 ∷ 2 ∷ []) ≡ None
unfolding ending tie spanning lowest sample
ending_lock_free = refl

-- `take` ends `lock take` too, and is shorter
take_ends : 0 ∷ 1 ∷ [] ≡ (0 ∷ []) ++ (rule sample.rules 2).left
unfolding rule sample
take_ends = refl

scan_lock_free : scan sample.rules (0 ∷ []) (2 ∷ []) ≡ None
unfolding scan ending tie spanning lowest sample
scan_lock_free = refl

redex_lock_take_free : redex sample.rules (0 ∷ 1 ∷ 2 ∷ []) ≡ Some (record { before = []; rule = 0; after = 2 ∷ [] })
unfolding redex scan ending_at ending tie spanning lowest rule sample
redex_lock_take_free = refl

redex_lock_free : redex sample.rules (0 ∷ 2 ∷ []) ≡ None
unfolding redex scan ending tie spanning lowest sample
redex_lock_free = refl

-- of two occurrences, the one that ends first
redex_take_take : redex sample.rules (1 ∷ 1 ∷ []) ≡ Some (record { before = []; rule = 2; after = 1 ∷ [] })
unfolding redex scan ending_at ending tie spanning lowest rule sample
redex_take_take = refl

-- of two rules with one left side, the lowest
redex_equal_rules : redex ((0 ∷ [] ⇒ Close 0) ∷ (0 ∷ [] ⇒ Close 1) ∷ []) (0 ∷ []) ≡ Some (record {
  before = [];
  rule = 0;
  after = [];
})
unfolding redex scan ending_at ending tie spanning lowest rule
redex_equal_rules = refl

-- of two rules with one left side, the one with a mark; and where something stands before, the one without
redex_marked_first : redex ((0 ∷ [] ⇒ Close 0) ∷ at_start (0 ∷ [] ⇒ Close 1) ∷ []) (0 ∷ []) ≡ Some (record {
  before = [];
  rule = 1;
  after = [];
})
unfolding redex scan ending_at ending tie spanning lowest rule
redex_marked_first = refl

redex_marked_later : redex (at_start (0 ∷ [] ⇒ Close 1) ∷ (0 ∷ [] ⇒ Close 0) ∷ []) (1 ∷ 0 ∷ [])
    ≡ Some (record { before = 1 ∷ []; rule = 1; after = [] })
unfolding redex scan ending_at ending tie spanning lowest rule
redex_marked_later = refl

-- behind another symbol a marked left side does not occur: one without a mark that ends there is taken
redex_marked_short : redex (at_start (1 ∷ [] ⇒ Close 1) ∷ (0 ∷ 1 ∷ [] ⇒ Close 0) ∷ []) (0 ∷ 1 ∷ [])
    ≡ Some (record { before = []; rule = 1; after = [] })
unfolding redex scan ending_at ending tie spanning lowest rule
redex_marked_short = refl

-- a marked left side may stand behind the string's start: there it does not occur
redex_marked_none : redex (at_start (0 ∷ [] ⇒ Close 1) ∷ []) (1 ∷ 0 ∷ []) ≡ None
unfolding redex scan ending_at ending tie spanning lowest rule
redex_marked_none = refl

-- another occurrence in `lock take free`: `take`
take_occurs : Occurs sample.rules (0 ∷ 1 ∷ 2 ∷ []) (record { before = 0 ∷ []; rule = 2; after = 2 ∷ [] })
unfolding rule sample
take_occurs = (omega arith, refl, λ m. absurd (not-true m))

-- lock take free ⟶ held free ⟶ nothing, with one symbol put in; and there it rests
rewrites_one : rewrites sample.rules 1 (fed (0 ∷ 1 ∷ 2 ∷ [])) ≡ Some (record { string = 3 ∷ 2 ∷ []; verdict = None; put = 1 })
unfolding rewrites rewrite unless_verdict replaced fed redex scan ending_at ending tie spanning lowest rule sample
rewrites_one = refl

rewrite_held_free : rewrite sample.rules (record { string = 3 ∷ 2 ∷ []; verdict = None; put = 1 })
    ≡ Some (record { string = []; verdict = None; put = 1 })
unfolding rewrite unless_verdict replaced redex scan ending_at ending tie spanning lowest rule sample
rewrite_held_free = refl

rewrites_two : rewrites sample.rules 2 (fed (0 ∷ 1 ∷ 2 ∷ [])) ≡ Some (record { string = []; verdict = None; put = 1 })
unfolding rewrites rewrite unless_verdict replaced fed redex scan ending_at ending tie spanning lowest rule sample
rewrites_two = refl

rewrites_three : rewrites sample.rules 3 (fed (0 ∷ 1 ∷ 2 ∷ [])) ≡ None
unfolding rewrites rewrite unless_verdict replaced fed redex scan ending_at ending tie spanning lowest rule sample
rewrites_three = refl

-- take take ⟶ take with the verdict fail, which takes no further rewrite
rewrites_fail : rewrites sample.rules 1 (fed (1 ∷ 1 ∷ [])) ≡ Some (record { string = 1 ∷ []; verdict = Some 0; put = 0 })
unfolding rewrites rewrite unless_verdict replaced fed redex scan ending_at ending tie spanning lowest rule sample
rewrites_fail = refl

rewrites_closed : rewrites sample.rules 2 (fed (1 ∷ 1 ∷ [])) ≡ None
unfolding rewrites rewrite unless_verdict replaced fed redex scan ending_at ending tie spanning lowest rule sample
rewrites_closed = refl
