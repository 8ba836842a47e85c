-- `text::write_names` meets its contract.
use Prim.Native.Nat.{ℕ}
use mathlib.Core.Path.{◌≡◌, refl, sym, ◌∙◌}
use mathlib.Core.List.{List, ◌++◌}
use native.Mathlib.Omega.{arith}
use lib.ListN.{length, drop}
use lib.Seq.{length-take-le}
use Rattle.std.proofs.lemmas.Slice.{put_mid-paste}
use Rattle.text.proofs.Writing.{names_written}
use Rattle.text.proofs.write_names.Goals as goal

pub slice_bounds-copy_from_slice-end-2 : goal.slice_bounds-copy_from_slice-end-2
slice_bounds-copy_from_slice-end-2 c = sym (length-take-le 800 _ (omega (arith, c.requires)))

pub copy_from_slice-requires : goal.copy_from_slice-requires
copy_from_slice-requires c =
    length-take-le 800 _ (omega (arith, c.requires)) ∙ omega (arith, c.as_flattened.ensures.len, c.told-symbols)

pub returns : goal.returns
returns c =
    let a = c.args in
    let symbols : List ℕ = c.as_flattened.result.now in
    let words : List ℕ = c.as_flattened-2.result.now in
    let all_symbols : length symbols ≡ 800 = omega (arith, c.as_flattened.ensures.len, c.told-symbols) in
    let all_words : length words ≡ 400 = omega (arith, c.as_flattened-2.ensures.len, c.told-words) in
    rw (← c.as_flattened.ensures.value, ← c.as_flattened-2.ensures.value, c.copy_from_slice.ensures.after)
    (put_mid-paste 800 400 (symbols ++ drop 800 a.names.now) _ words 400 c.copy_from_slice-2.ensures.after refl (sym all_words)
    ∙ names_written symbols words a.names.now all_symbols all_words)
