-- `tokens::bytes::is_name_pair` meets its contract: both places are inside, and the two bytes decide.
use mathlib.Core.Path.{sym, ◌∙◌}
use native.Mathlib.Omega.{arith}
use borrow.Author.Tests.{leb-true, leb-false, lt-leb}
use Rattle.std.proofs.lemmas.Bool.{false≢true}
use Rattle.tokens.proofs.RunBytes.{pair_short, pair_other, pair_second}
use Rattle.tokens.proofs.bytes.is_name_pair.Goals.{then-text-ge2, else-text-ge2, then-i-text, else-i-text}
use Rattle.tokens.proofs.bytes.is_name_pair.Goals as goal

pub returns-then-is_name_byte : goal.returns-then-is_name_byte
returns-then-is_name_byte c =
    elim c.if-i-text.branch [
      | then-i-text w ↦ elim c.if-text-ge2.branch [
        | then-text-ge2 v ↦
            let inside = leb-true _ _ (sym v.value-is ∙ w.if-i-text.true) in
            c.is_name_byte-then-is_name_byte.ensures
            ∙ pair_second _ _ (omega arith) (sym w.is_name_byte.ensures ∙ sym w.value-is ∙ c.if-is_name_byte.true)
        | else-text-ge2 v ↦ absurd (false≢true (sym (lt-leb 2 _ v.if-text-ge2.false) ∙ sym v.value-is ∙ w.if-i-text.true))
      ]
      | else-i-text w ↦ absurd (false≢true (sym w.if-i-text.false ∙ sym w.value-is ∙ c.if-is_name_byte.true))
    ]

pub returns-else-is_name_byte : goal.returns-else-is_name_byte
returns-else-is_name_byte c =
    elim c.if-i-text.branch [
      | then-i-text w ↦ elim c.if-text-ge2.branch [
        | then-text-ge2 v ↦
            let inside = leb-true _ _ (sym v.value-is ∙ w.if-i-text.true) in
            c.if-is_name_byte.false
            ∙ pair_other _ _ (omega arith) (sym w.is_name_byte.ensures ∙ sym w.value-is ∙ c.if-is_name_byte.false)
        | else-text-ge2 v ↦ absurd (false≢true (sym (lt-leb 2 _ v.if-text-ge2.false) ∙ sym v.value-is ∙ w.if-i-text.true))
      ]
      | else-i-text w ↦ elim c.if-text-ge2.branch [
        | then-text-ge2 v ↦
            let outside = leb-false _ _ (sym v.value-is ∙ w.if-i-text.false) in
            c.if-is_name_byte.false ∙ pair_short _ _ (omega arith)
        | else-text-ge2 v ↦ c.if-is_name_byte.false ∙ pair_short _ _ (omega arith)
      ]
    ]
