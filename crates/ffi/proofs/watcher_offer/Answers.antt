-- `watcher_offer` meets its contract.
use Rattle.machine.specs.Calls.{offer_of}
use Rattle.ffi.proofs.Made.{call_words_lem, call_made_lem}
use Rattle.ffi.proofs.watcher_offer.Goals as goal

pub call_told-requires : goal.call_told-requires
unfolding offer_of
call_told-requires c =
    let fits = call_words_lem _ _ _ _ _ _ c.offer-called.ensures in record {
      answer = fits.0;
      verdict = fits.1;
    }

pub returns : goal.returns
returns c =
    let given = c.head_from.ensures in
    call_made_lem _ (rw given at c.offer-called.ensures) _ _ _ c.call_told.ensures.refusal c.call_told.ensures.head
    c.call_told.ensures.out
