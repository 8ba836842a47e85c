-- The sample's image and the largest image, computed, and images that break the layout.
-- Assumes nothing.
use Prim.Native.Nat.{ℕ}
use mathlib.Core.Path.{◌≡◌, refl}
use mathlib.Core.Bool.{true, false}
use mathlib.Core.List.{[], ◌∷◌, ◌++◌, flat_map}
use Rattle.std.specs.Prelude.{Some}
use lib.ListN.{length, take, set, replicate}
use Rattle.rewriting.specs.Rules.{Put, ◌⇒◌, symbols_of, RuleSet, right_in_range, rule_in_range, in_range}
use Rattle.rewriting.specs.Sample.{sample}
use Rattle.layout.specs.Refusals.{refusal}
use Rattle.layout.specs.Image.{
  kind,
  length_or_verdict,
  mark_byte,
  contents,
  body,
  image_of,
  read_right,
  read_rule,
  read_rules,
  read,
  valid,
}

-- names no fact: `unfolding computes` opens every definition of the image at once
computes : Unit {0}
unfolding
    flat_map kind length_or_verdict mark_byte symbols_of contents body image_of read_right read_rule read_rules read
    right_in_range rule_in_range in_range valid
computes = tt

-- The sample's image: S 4, three rules, V 2, E 3; three contents; three bodies.
pub sample_image :
    image_of sample
    ≡ 4 ∷ 3 ∷ 2 ∷ 3 ∷ 2 ∷ 0 ∷ 1 ∷ 0 ∷ 2 ∷ 0 ∷ 0 ∷ 0 ∷ 1 ∷ 1 ∷ 0 ∷ 0 ∷ 0 ∷ 1 ∷ 3 ∷ 3 ∷ 2 ∷ 1 ∷ []
unfolding sample computes
sample_image = refl

pub sample-bytes : length (image_of sample) ≡ 22
unfolding sample computes
sample-bytes = refl

pub sample-valid : valid (image_of sample) ≡ true
unfolding sample computes
sample-valid = refl

-- n rules with 8 symbols on each side, over the most symbols, events and verdicts
unfoldable pub widest : ℕ → RuleSet
widest n =
    record {
      symbols = 32;
      events = 32;
      verdicts = 16;
      rules = replicate n (replicate 8 31 ⇒ Put (replicate 8 31));
    }

-- 64 such rules are in range, and their image has exactly 1,284 bytes: the bound of `longest` is reached.
pub longest_reached : (in_range (widest 64) ≡ true) × (length (image_of (widest 64)) ≡ 1284)
unfolding widest computes
longest_reached = (refl, refl)

pub sixty_four_valid : valid (image_of (widest 64)) ≡ true
unfolding widest computes
sixty_four_valid = refl

pub sixty_five_refused : valid (image_of (widest 65)) ≡ false
unfolding widest computes
sixty_five_refused = refl

-- one byte more, whatever it is
pub longer_refused : (n : ℕ) → valid (image_of sample ++ n ∷ []) ≡ false
unfolding sample computes
longer_refused n = refl

-- without the last byte
pub cut_refused : valid (take 21 (image_of sample)) ≡ false
unfolding sample computes
cut_refused = refl

-- the fourth byte of rule 0's contents is 1: a mark; 2 is none
pub marked_valid : valid (set (image_of sample) 7 1) ≡ true
unfolding sample computes
marked_valid = refl

pub fourth_byte_refused : valid (set (image_of sample) 7 2) ≡ false
unfolding sample computes
fourth_byte_refused = refl

-- rule 0 is of kind 2
pub kind_two_refused : valid (set (image_of sample) 5 2) ≡ false
unfolding sample computes
kind_two_refused = refl

-- where two checks fail, the first decides
pub first_decides : refusal ((true, 1) ∷ (false, 2) ∷ (false, 3) ∷ []) ≡ Some 2
unfolding refusal
first_decides = refl
