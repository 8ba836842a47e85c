-- The refusals that what is lent calls for, as the code finds them: 7 and 9 by the check of image and table, 10 by the areas'
-- lengths, 11 by the check of head and areas.
-- Assumes nothing.
use Prim.Native.Nat.{ℕ}
use mathlib.Core.Path.{◌≡◌, refl, sym, ap, ◌∙◌}
use mathlib.Core.Bool.{Bool, true, false, and-false}
use Rattle.std.specs.Prelude.{Option, None, Some, Result, Ok, Err}
use mathlib.Core.List.{List, [], ◌∷◌}
use native.Mathlib.Omega.{arith}
use lib.ListN.{length}
use borrow.Author.Tests.{eq-eqb, ne_eqb}
use Rattle.rewriting.specs.Lists.{prefix}
use Rattle.rewriting.proofs.Lists.{and_both}
use Rattle.layout.specs.Image.{read, valid}
use Rattle.layout.specs.Refusals.{refusal, answered, number, numbered}
use Rattle.layout.proofs.Refusals.{
  refusal_nil,
  refusal_head,
  refusal_pass,
  refusal_passed,
  refusal_rest,
  refusal_append_none,
  refusal_append_some,
}
use Rattle.layout.specs.declared.Refusal.{Refusal}
use Rattle.layout.specs.Table.{table_of}
use Rattle.layout.specs.TableCheck.{table_checks, check_of}
use Rattle.machine.specs.Areas.{Head, Monitor, described}
use Rattle.machine.specs.Calls.{sized, lent_checks}
use Rattle.machine.specs.Lent.{monitor_in, Passed}

pub answered_passed : (o : Option ℕ) → answered o ≡ Ok tt → o ≡ None
unfolding answered
answered_passed None e = refl
answered_passed (Some n) e = let z : ◌≡◌ {A = ℕ} 0 1 = cc in absurd (omega arith)

pub answered_refused : (o : Option ℕ) (n : ℕ) → answered o ≡ Err n → o ≡ Some n
unfolding answered
answered_refused None n e = let z : ◌≡◌ {A = ℕ} 0 1 = cc in absurd (omega arith)
answered_refused (Some k) n e = let same : k ≡ n = cc in rw same

-- What the check of image and table answers: they are refused, or the other checks decide.
module _ (capacity : ℕ) (image table : List ℕ) {r : Result (Unit {0}) Refusal} (check : numbered r ≡ check_of image table) where
  pub table_refused : (m : Monitor) (x : Refusal) → r ≡ Err x → refusal (lent_checks capacity image table m) ≡ Some (number x)
  unfolding check_of lent_checks
  table_refused m x e =
      let first : refusal (table_checks image table) ≡ Some (number x) =
      answered_refused (refusal (table_checks image table)) (number x) (sym check ∙ ap numbered e)
      in
      refusal_append_some (table_checks image table) _ (number x) first

  module _ (e : r ≡ Ok tt) where
    first_pass : refusal (table_checks image table) ≡ None
    unfolding check_of
    first_pass = answered_passed (refusal (table_checks image table)) (sym check ∙ ap numbered e)

    pub passed_image : valid image ≡ true
    passed_image = refusal_passed (valid image) 7 _ first_pass

    pub passed_table : prefix (table_of (read image)) table ≡ true
    passed_table =
        refusal_passed (prefix (table_of (read image)) table) 9 _ (refusal_rest (valid image) 7 _ first_pass)

    module _ (m : Monitor) where
      others : refusal (lent_checks capacity image table m)
          ≡ refusal ((sized capacity m.bytes m.words, 10) ∷ (described (read image) capacity m, 11) ∷ [])
      unfolding lent_checks
      others = refusal_append_none (table_checks image table) _ first_pass

      other_size : sized capacity m.bytes m.words ≡ false → refusal (lent_checks capacity image table m) ≡ Some 10
      other_size s = others ∙ refusal_head (sized capacity m.bytes m.words) 10 _ s

      pub other_bytes : (length m.bytes ≡ capacity → ⊥) → refusal (lent_checks capacity image table m) ≡ Some 10
      unfolding sized
      other_bytes ne = other_size (rw (ne_eqb (length m.bytes) capacity ne))

      pub other_words : (length m.words ≡ capacity → ⊥) → refusal (lent_checks capacity image table m) ≡ Some 10
      unfolding sized
      other_words ne = other_size (rw (ne_eqb (length m.words) capacity ne, and-false))

    module _ (head : Head) (bytes words : List ℕ) (b : length bytes ≡ capacity) (w : length words ≡ capacity) where
      sized_right : sized capacity bytes words ≡ true
      unfolding sized
      sized_right = and_both (eq-eqb (length bytes) capacity b) (eq-eqb (length words) capacity w)

      last_check : refusal (lent_checks capacity image table (monitor_in head bytes words))
          ≡ refusal ((described (read image) (length bytes) (monitor_in head bytes words), 11) ∷ [])
      last_check =
          others (monitor_in head bytes words)
          ∙ refusal_pass (sized capacity bytes words) 10 _ sized_right
          ∙ ap (λ (k : ℕ). refusal ((described (read image) k (monitor_in head bytes words), 11) ∷ [])) (sym b)

      pub all_right : {a : Bool} → a ≡ described (read image) (length bytes) (monitor_in head bytes words) → a ≡ true
          → Passed capacity image table (monitor_in head bytes words)
      all_right d t = last_check ∙ refusal_pass _ 11 [] (sym d ∙ t) ∙ refusal_nil

      pub not_as_described : {a : Bool} → a ≡ described (read image) (length bytes) (monitor_in head bytes words) → a ≡ false
          → refusal (lent_checks capacity image table (monitor_in head bytes words)) ≡ Some 11
      not_as_described d f = last_check ∙ refusal_head _ 11 [] (sym d ∙ f)
