-- `Line::put_counted` meets its contract.
use Prim.Native.Nat.{ℕ, ◌-◌, ◌≤◌}
use mathlib.Core.Path.{◌≡◌, sym, ap, ◌∙◌}
use mathlib.Core.List.{List, [], ◌∷◌, ◌++◌, append_assoc}
use native.Mathlib.Omega.{arith}
use lib.ListN.{length, take, drop, length-append, length-take}
use Rattle.machine.specs.Areas.{state_of}
use Rattle.monitor.specs.declared.Returned.{Returned}
use Rattle.machine.specs.Play.{string_of}
use Rattle.monitor.specs.Lent.{outcome_from}
use Rattle.printing.specs.Lines.{space, newline, decimal, joined, counted}
use Rattle.lines.proofs.Writing.{room_left_in, writes_then_in, writes_as_in}
use Rattle.lines.proofs.Joining.{counts_length, joined_length, string_in}
use Rattle.lines.proofs.Line.put_counted.Goals as goal

regrouped :
    (s r x : List ℕ) → (s ++ space ∷ r) ++ (space ∷ (x ++ newline ∷ [])) ≡ (s ++ space ∷ (r ++ space ∷ x)) ++ newline ∷ []
regrouped s r x =
    append_assoc s (space ∷ r) ((space ∷ x) ++ newline ∷ [])
    ∙ ap (λ (l : List ℕ). s ++ space ∷ l) (sym (append_assoc r (space ∷ x) (newline ∷ [])))
    ∙ sym (append_assoc s (space ∷ (r ++ space ∷ x)) (newline ∷ []))

all_parts :
    (called : Returned) (names bytes : List ℕ) → length bytes ≡ 2048
    → (decimal called.counts.steps ++ space ∷ decimal called.counts.rewrites)
    ++ (space
    ∷ (joined names
    (take called.head.settled bytes
    ++ take (2048 - (2048 - called.head.waiting)) (drop (2048 - called.head.waiting) bytes))
    ++ newline
    ∷ []))
    ≡ counted names (outcome_from called bytes []) ++ newline ∷ []
unfolding counted string_of state_of
all_parts called names bytes size =
    let string : List ℕ = take called.head.settled bytes ++ drop (length bytes - called.head.waiting) bytes in
    rw (string_in called.head.settled called.head.waiting bytes size)
    (regrouped (decimal called.counts.steps) (decimal called.counts.rewrites) (joined names string))

pub put_byte-requires : goal.put_byte-requires
put_byte-requires g c =
    omega (
      arith,
      c.requires.room,
      counts_length _ _ c.requires.small.steps c.requires.small.rewrites,
      room_left_in c.put_counts.ensures,
    )

pub put_string-requires : goal.put_string-requires
unfolding string_of state_of
put_string-requires g c = (
  omega arith,
  (
    rw (string_in c.args.called.head.settled c.args.called.head.waiting c.args.bytes.now c.told-bytes) c.requires.small.slots,
    (
      omega (
        arith,
        c.requires.room,
        counts_length _ _ c.requires.small.steps c.requires.small.rewrites,
        room_left_in c.put_counts.ensures,
        room_left_in c.put_byte.ensures,
      ),
      let bytes = c.args.bytes.now in
          let a = c.args.called.head.settled in
          let w = c.args.called.head.waiting in
          omega (
            arith,
            c.requires.room,
            c.requires.small.string,
            counts_length _ _ c.requires.small.steps c.requires.small.rewrites,
            room_left_in c.put_counts.ensures,
            room_left_in c.put_byte.ensures,
            length-take a bytes,
            length-take (2048 - (2048 - w)) (drop (2048 - w) bytes),
          ),
    ),
  ),
)

pub put_byte-requires-2 : goal.put_byte-requires-2
put_byte-requires-2 g c =
    let bytes = c.args.bytes.now in
    let a = c.args.called.head.settled in
    let w = c.args.called.head.waiting in
    let waits : List ℕ = take (2048 - (2048 - w)) (drop (2048 - w) bytes) in
    let few : length (take a bytes ++ waits) ≤ 2048 =
    omega (
      arith,
      c.requires.small.string,
      length-append (take a bytes) waits,
      length-take a bytes,
      length-take (2048 - (2048 - w)) (drop (2048 - w) bytes),
    ) in
    omega (
      arith,
      c.requires.room,
      counts_length _ _ c.requires.small.steps c.requires.small.rewrites,
      joined_length c.args.names.now (take a bytes ++ waits) 2048 few (omega arith),
      room_left_in c.put_counts.ensures,
      room_left_in c.put_byte.ensures,
      room_left_in c.put_string.ensures,
    )

pub returns : goal.returns
returns g c =
    writes_as_in (all_parts c.args.called c.args.names.now c.args.bytes.now c.told-bytes)
    (writes_then_in c.put_counts.ensures
    (writes_then_in c.put_byte.ensures (writes_then_in c.put_string.ensures c.put_byte-2.ensures)))
