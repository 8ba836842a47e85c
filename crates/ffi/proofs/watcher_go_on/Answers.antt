-- `watcher_go_on` meets its contract.
use Rattle.machine.specs.Calls.{go_on_of}
use Rattle.ffi.proofs.Made.{call_words_lem, call_made_lem}
use Rattle.ffi.proofs.watcher_go_on.Goals as goal

pub call_told-requires : goal.call_told-requires
unfolding go_on_of
call_told-requires c =
    let fits = call_words_lem _ _ _ _ _ _ c.go_on-called.ensures in record {
      answer = fits.0;
      verdict = fits.1;
    }

pub returns : goal.returns
returns c =
    let given = c.head_from.ensures in
    call_made_lem _ (rw given at c.go_on-called.ensures) _ _ _ c.call_told.ensures.refusal c.call_told.ensures.head
    c.call_told.ensures.out
