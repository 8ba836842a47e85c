-- `watcher_fresh` meets its contract.
use mathlib.Core.Path.{ap, ◌∙◌}
use Rattle.monitor.specs.Lent.{stop_number}
use Rattle.ffi.specs.Numbers.{refused_number}
use Rattle.ffi.proofs.Made.{fresh-word, fresh_made_lem, err_number}
use Rattle.ffi.proofs.watcher_fresh.Goals as goal

pub head_words-requires : goal.head_words-requires
head_words-requires c =
    fresh-word _ _ _ _ c.fresh-begun.ensures

pub returns : goal.returns
unfolding refused_number
returns c =
    let refusal = c.refusal_of.ensures ∙ ap stop_number c.err.ensures.value ∙ err_number c.fresh-begun.result.answer in
    fresh_made_lem c.fresh-begun.ensures _ _ refusal c.head_words.ensures
