-- `text::write_image` meets its contract.
use Prim.Native.Nat.{ℕ, ◌+◌, ◌-◌, ◌*◌}
use mathlib.Core.Path.{◌≡◌, sym, ap, ◌∙◌}
use mathlib.Core.List.{List, flat_map}
use native.Mathlib.Omega.{arith}
use lib.ListN.{length, set, take}
use lib.Seq.{paste, length-take-le}
use Rattle.std.proofs.lemmas.Slice.{put_mid-paste}
use Rattle.text.proofs.Writing.{image_size, image_written}
use Rattle.text.proofs.write_image.Goals as goal

pub returns : goal.returns
unfolding flat_map
returns c =
    let lent = c.args in
    let q = c.requires in
    let r = lent.reader.now in
    let rules : ℕ = r.rules in
    let size : ℕ = r.bodies in
    let four : List ℕ = set (set (set (set lent.image.now 0 r.symbols.count) 1 rules) 2 r.words.count) 3 r.events in
    let rows : List ℕ = c.as_flattened.result.now in
    let all_rows : 4 * rules ≡ length rows =
    omega (arith, c.as_flattened.ensures.len, length-take-le rules r.contents (omega (arith, q.small.rules)))
    in
    let inner =
    put_mid-paste 4 (4 + 4 * rules - 4) four _ rows (4 * rules) c.copy_from_slice.ensures.after (omega arith) all_rows
    in
    λ s sound here k. (
      image_size sound here k lent.image.now q.room,
      put_mid-paste (4 + 4 * rules) (4 + 4 * rules + size - (4 + 4 * rules)) _ _ (take size r.body_bytes) size
          c.copy_from_slice-2.ensures.after (omega arith)
          (sym (length-take-le size r.body_bytes (omega (arith, q.small.bodies))))
          ∙ ap (λ (v : List ℕ). paste v (4 + 4 * rules) (take size r.body_bytes) size) inner
          ∙ ap (λ (v : List ℕ). paste (paste four 4 v (4 * rules)) (4 + 4 * rules) (take size r.body_bytes) size)
          c.as_flattened.ensures.value
          ∙ image_written sound here k lent.image.now q.room,
    )
