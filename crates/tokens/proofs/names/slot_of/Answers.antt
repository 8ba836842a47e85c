-- `tokens::names::slot_of` meets its contract: the name is copied behind its length.
use Prim.Native.Nat.{◌+◌, ◌-◌}
use mathlib.Core.Path.{refl, ◌∙◌}
use native.Mathlib.Omega.{arith}
use lib.ListN.{length, set, replicate}
use Rattle.std.proofs.lemmas.Slice.{put_mid-paste}
use Rattle.grammar.proofs.Slots.{slot_made}
use Rattle.tokens.proofs.names.slot_of.Goals as goal

pub returns : goal.returns
returns c =
    let x = c.args.x.now in
    put_mid-paste 1 (1 + length x - 1) (set (replicate 25 0) 0 (length x)) _ x (length x) c.copy_from_slice.ensures.after
    (omega arith) refl
    ∙ slot_made x c.requires
