-- `monitor::Head::check_lent` meets its contract: the first check that fails has its number.
use Rattle.std.proofs.Common.{sym, ◌∙◌}
use Rattle.std.proofs.lemmas.Result.{err_from_is_err_and}
use Rattle.machine.specs.Areas.{document_capacity}
use Rattle.monitor.specs.Lent.{head_in, lent}
use Rattle.machine.proofs.LentRefusal.{table_refused, passed_image, passed_table, other_bytes, other_words, all_right}
use Rattle.machine.proofs.LentRefusal.{not_as_described}
use Rattle.monitor.proofs.Head.check_lent.Goals.{
  then-bytes-ne-CAPACITY-via-then-bytes-ne-CAPACITY,
  then-bytes-ne-CAPACITY-via-else-bytes-ne-CAPACITY+then-words-ne-CAPACITY,
}
use Rattle.monitor.proofs.Head.check_lent.Goals as goal

pub returns-in_err-check : goal.returns-in_err-check
returns-in_err-check c =
    let back = err_from_is_err_and c.from_residual.result c.from_residual.ensures.1 in
    rw (back.1, back.2)
    (table_refused document_capacity c.args.image.now c.args.table.now c.check.ensures
    (lent c.args.self c.args.bytes.now c.args.words.now) _ c.in_err-check.was)

pub returns-then-bytes-ne-CAPACITY : goal.returns-then-bytes-ne-CAPACITY
returns-then-bytes-ne-CAPACITY c =
    let image = c.args.image.now in
    let table = c.args.table.now in
    let m = lent c.args.self c.args.bytes.now c.args.words.now in
    elim c.then-bytes-ne-CAPACITY.branch [
      | then-bytes-ne-CAPACITY-via-then-bytes-ne-CAPACITY w ↦
          other_bytes document_capacity image table c.check.ensures c.in_ok-check.was m w.if-bytes-ne-CAPACITY.true
      | then-bytes-ne-CAPACITY-via-else-bytes-ne-CAPACITY+then-words-ne-CAPACITY w ↦
          other_words document_capacity image table c.check.ensures c.in_ok-check.was m w.if-words-ne-CAPACITY.true
    ]

pub invariant_of-new : goal.invariant_of-new
invariant_of-new c = record {
  valid = passed_image document_capacity c.args.image.now c.args.table.now c.check.ensures c.in_ok-check.was;
}

pub new-table-requires : goal.new-table-requires
new-table-requires c = passed_table document_capacity c.args.image.now c.args.table.now c.check.ensures c.in_ok-check.was

pub as_described-requires : goal.as_described-requires
as_described-requires c = c.if-words-ne-CAPACITY.false ∙ sym c.if-bytes-ne-CAPACITY.false

pub returns-then-not-as_described : goal.returns-then-not-as_described
returns-then-not-as_described c =
    let t = c.new-table in
    rw (← t.ensures.image, ← t.ensures.words)
    (not_as_described document_capacity t.result.image.bytes.now t.result.words.now
    (rw (← t.ensures.image, ← t.ensures.words) at c.check.ensures) c.in_ok-check.was (head_in c.args.self) c.args.bytes.now
    c.args.words.now c.if-bytes-ne-CAPACITY.false c.if-words-ne-CAPACITY.false c.as_described.ensures
    c.if-not-as_described.true)

pub returns : goal.returns
returns c =
    let t = c.new-table in (
      t.ensures.image,
      t.ensures.words,
      all_right document_capacity t.result.image.bytes.now t.result.words.now
          (rw (← t.ensures.image, ← t.ensures.words) at c.check.ensures) c.in_ok-check.was (head_in c.args.self)
          c.args.bytes.now c.args.words.now c.if-bytes-ne-CAPACITY.false c.if-words-ne-CAPACITY.false
          c.as_described.ensures c.if-not-as_described.false,
    )
