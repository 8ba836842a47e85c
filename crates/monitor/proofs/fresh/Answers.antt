-- `monitor::fresh` meets its contract: refused 10, or all 0.
use Rattle.machine.specs.State.{active, empty}
use Rattle.machine.specs.Areas.{document_capacity, head_of}
use Rattle.layout.specs.Refusals.{refused_by}
use Rattle.machine.proofs.Deciding.{other_length, other_bytes, other_words, cleared}
use Rattle.monitor.proofs.fresh.Goals.{
  then-bytes-ne-CAPACITY-via-then-bytes-ne-CAPACITY,
  then-bytes-ne-CAPACITY-via-else-bytes-ne-CAPACITY+then-words-ne-CAPACITY,
}
use Rattle.monitor.proofs.fresh.Goals as goal

pub returns-then-bytes-ne-CAPACITY : goal.returns-then-bytes-ne-CAPACITY
unfolding refused_by head_of empty active
returns-then-bytes-ne-CAPACITY c =
    let bytes = c.args.bytes.now in
    let words = c.args.words.now in
    other_length document_capacity _ _
    (elim c.then-bytes-ne-CAPACITY.branch [
      | then-bytes-ne-CAPACITY-via-then-bytes-ne-CAPACITY w ↦ other_bytes document_capacity bytes words
          w.if-bytes-ne-CAPACITY.true
      | then-bytes-ne-CAPACITY-via-else-bytes-ne-CAPACITY+then-words-ne-CAPACITY w ↦ other_words document_capacity bytes words
          w.if-bytes-ne-CAPACITY.false w.if-words-ne-CAPACITY.true
    ])

pub returns : goal.returns
unfolding refused_by head_of empty active
returns c =
    cleared document_capacity c.args.bytes.now c.args.words.now _ _ c.if-bytes-ne-CAPACITY.false c.if-words-ne-CAPACITY.false
    c.clear.ensures.bytes
    c.clear.ensures.words
