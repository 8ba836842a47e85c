-- `tokens::first_run` meets its contract: the two counts are those of the first run.
use native.Mathlib.Omega.{arith}
use Rattle.grammar.proofs.Runs.{run_from, run_to, run_first}
use Rattle.tokens.proofs.first_run.Goals as goal

pub slice_bounds-unbroken_length-count : goal.slice_bounds-unbroken_length-count
slice_bounds-unbroken_length-count c = omega (arith, run_from c.args.part.now c.gap_of-start.result c.gap_of-start.ensures)

pub slice_bounds-unbroken_length-start : goal.slice_bounds-unbroken_length-start
slice_bounds-unbroken_length-start c = run_from c.args.part.now c.gap_of-start.result c.gap_of-start.ensures

pub overflow_add-result : goal.overflow_add-result
overflow_add-result c = omega (arith, run_to _ _ _ c.gap_of-start.ensures c.unbroken_length-size.ensures)

pub returns : goal.returns
returns c = run_first _ _ _ c.gap_of-start.ensures c.unbroken_length-size.ensures
