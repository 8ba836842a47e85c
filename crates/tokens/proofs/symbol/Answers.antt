-- `tokens::symbol` meets its contract.
use mathlib.Core.Path.{sym, ap, ◌∙◌}
use mathlib.Core.List.{List}
use Prim.Native.Nat.{ℕ, ◌≤◌}
use native.Mathlib.Omega.{arith}
use lib.ListN.{length}
use borrow.Author.Rules.{rules}
use borrow.Author.Tests.{eqb-true}
use lib.ListN.{take}
use lib.Seq.{length-take-le}
use Rattle.grammar.specs.Lookup.{slot_at}
use Rattle.tokens.specs.Numbered.{slot_among}
use Rattle.tokens.proofs.Places.{slots_taken}
use Rattle.tokens.proofs.Numbering.{no_name, long_name, short_area, looked}
use Rattle.tokens.proofs.symbol.Goals.{
  then-is_empty-via-then-is_empty,
  then-is_empty-via-else-is_empty+then-x-gt-NAME_BYTES,
  then-is_empty-via-else-is_empty+else-x-gt-NAME_BYTES+then-names-lt-SYMBOLS_BYTES,
}
use Rattle.tokens.proofs.symbol.Goals as goal

pub returns-then-is_empty : goal.returns-then-is_empty
returns-then-is_empty c =
    elim c.then-is_empty.branch [
      | then-is_empty-via-then-is_empty w ↦
          no_name _ _ (omega (arith, eqb-true _ _ (sym c.is_empty.ensures ∙ w.if-is_empty.true)))
      | then-is_empty-via-else-is_empty+then-x-gt-NAME_BYTES w ↦ long_name _ _ w.if-x-gt-NAME_BYTES.true
      | then-is_empty-via-else-is_empty+else-x-gt-NAME_BYTES+then-names-lt-SYMBOLS_BYTES w ↦
          short_area _ _ w.if-names-lt-SYMBOLS_BYTES.true
    ]

pub returns : goal.returns
returns c =
    let some : 1 ≤ length c.args.x.now = search rules in
    c.find.ensures
    ∙ ap (λ (slots : List (List ℕ)). slot_among c.slot_of.result (take 32 slots)) c.as_chunks.ensures.front
    ∙ slots_taken c.slot_of.result 32 _ c.args.names.now (omega (arith, c.if-names-lt-SYMBOLS_BYTES.false))
    ∙ ap (λ (key : List ℕ). slot_at key 32 c.args.names.now) c.slot_of.ensures
    ∙ looked _ _ some c.if-x-gt-NAME_BYTES.false c.if-names-lt-SYMBOLS_BYTES.false

pub slice_bounds-find-end : goal.slice_bounds-find-end
slice_bounds-find-end c =
    sym (length-take-le 32 _ (omega (arith, c.as_chunks.ensures.front_len, c.if-names-lt-SYMBOLS_BYTES.false)))
