-- `is_list` meets its contract.
use Rattle.std.proofs.Common.{rules, ◌≡◌, true, length, ℕ, ◌≤◌, ◌/◌, List, get_or, sym, ◌∙◌, arith}
use borrow.Author.Tests.{eqb-true, eqb-false, lt-leb}
use Rattle.std.proofs.lemmas.Bool.{both_ways}
use Rattle.std.specs.List.{All}
use Rattle.calls.proofs.Numbers.{asked, encodes_few, encodes_long, pairs-odd}
use Rattle.calls.proofs.is_list.Goals.{then-numbers-le8589934590, else-numbers-le8589934590}
use Rattle.calls.proofs.is_list.Goals as goal

pub returns-then-is_empty : goal.returns-then-is_empty
returns-then-is_empty c =
    let numbers = c.args.numbers.now in
    let n = length numbers / 2 in
    let chunks = c.as_chunks.ensures in
    let says : (c.all.result ≡ true → All (λ (pair : List ℕ). get_or pair 0 0 ≤ 256) c.as_chunks.result.0.now) = search rules in
    let given : (All (λ (pair : List ℕ). get_or pair 0 0 ≤ 256) c.as_chunks.result.0.now → c.all.result ≡ true) = search rules in
    elim c.if-numbers-le8589934590.branch [
      | then-numbers-le8589934590 w ↦
          let none = eqb-true _ _ (sym (w.value-is ∙ w.is_empty.ensures) ∙ c.if-is_empty.true) in
          asked n numbers _ chunks.front chunks.front_len (omega (arith, chunks.back_len, none)) c.all.result says given
          ∙ sym (encodes_few numbers w.if-numbers-le8589934590.true)
      | else-numbers-le8589934590 w ↦
          let over = w.value-is ∙ lt-leb _ _ w.if-numbers-le8589934590.false in
          absurd (both_ways _ over c.if-is_empty.true)
    ]

pub returns-else-is_empty : goal.returns-else-is_empty
returns-else-is_empty c =
    let numbers = c.args.numbers.now in
    let n = length numbers / 2 in
    let chunks = c.as_chunks.ensures in
    elim c.if-numbers-le8589934590.branch [
      | then-numbers-le8589934590 w ↦
          let one = eqb-false _ _ (sym (w.value-is ∙ w.is_empty.ensures) ∙ c.if-is_empty.false) in
          let odd = pairs-odd n numbers (omega (arith, chunks.back_len, one)) in
          c.if-is_empty.false ∙ sym (encodes_few numbers w.if-numbers-le8589934590.true ∙ odd)
      | else-numbers-le8589934590 w ↦
          let over = w.value-is ∙ lt-leb _ _ w.if-numbers-le8589934590.false in
          over ∙ sym (encodes_long numbers w.if-numbers-le8589934590.false)
    ]
