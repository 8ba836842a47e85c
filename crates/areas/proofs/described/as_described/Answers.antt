-- `areas::described::as_described` meets its contract: false at the first test that fails, and the last test decides.
use Prim.Native.Nat.{◌≤◌}
use mathlib.Core.Path.{sym, ap, ◌∙◌}
use mathlib.Core.Bool.{not}
use native.Mathlib.Omega.{arith}
use lib.ListN.{length}
use lib.Seq.{length-take-le}
use Rattle.layout.specs.Image.{read}
use Rattle.layout.proofs.ImageCheck.{decided, denied, valid_header, valid_room}
use Rattle.machine.specs.Areas.{Head}
use Rattle.machine.proofs.AreaTests.{not-described, rest_decides, is-not, is_so}
use Rattle.areas.proofs.described.as_described.Goals.{Start, Else-not-stands_by}
use Rattle.areas.proofs.described.as_described.Goals as goal

-- the head that is given by its fields
abbrev given : Start → Head
given s = record { settled = s.args.settled; waiting = s.args.waiting; verdict = s.args.verdict; rule = s.args.rule }

pub returns-then-capacity-settled : goal.returns-then-capacity-settled
returns-then-capacity-settled c =
    not-described (read c.args.table.image.bytes.now)
    (given (goal.at.returns-then-capacity-settled c).Start) c.args.bytes.now c.args.words.now c.requires
    (λ t. omega (arith, t.room, c.if-capacity-settled.true))

pub returns-then-capacity-settled-2 : goal.returns-then-capacity-settled-2
returns-then-capacity-settled-2 c =
    not-described (read c.args.table.image.bytes.now)
    (given (goal.at.returns-then-capacity-settled-2 c).Start) c.args.bytes.now c.args.words.now c.requires
    (λ t. omega (arith, t.room, c.if-capacity-settled-2.true))

pub returns-then-not-stands_by : goal.returns-then-not-stands_by
returns-then-not-stands_by c =
    not-described (read c.args.table.image.bytes.now)
    (given (goal.at.returns-then-not-stands_by c).Start) c.args.bytes.now c.args.words.now c.requires
    (λ t. is-not c.stands_by.result c.stands_by.ensures (ap not c.if-not-stands_by.true) t.stands)

-- the settled symbols stand in the bytes
settled_fits : (c : Else-not-stands_by)
    → c.args.settled
    ≤ length c.args.bytes.now
settled_fits c = omega (arith, c.if-capacity-settled.false)

pub slice_bounds-settled_right-end : goal.slice_bounds-settled_right-end
slice_bounds-settled_right-end c =
    sym (length-take-le _ _ (settled_fits (goal.at.slice_bounds-settled_right-end c).Else-not-stands_by))

pub slice_bounds-settled_right-end-2 : goal.slice_bounds-settled_right-end-2
slice_bounds-settled_right-end-2 c =
    sym (length-take-le _ _ (omega
    (arith, settled_fits (goal.at.slice_bounds-settled_right-end-2 c).Else-not-stands_by, c.requires)))

pub settled_right-requires : goal.settled_right-requires
settled_right-requires c =
    let fits =
    settled_fits (goal.at.settled_right-requires c).Else-not-stands_by in length-take-le c.args.settled c.args.words.now
    (omega (arith, fits, c.requires))
    ∙ sym (length-take-le c.args.settled c.args.bytes.now fits)

pub returns-then-not-settled_right : goal.returns-then-not-settled_right
returns-then-not-settled_right c =
    not-described (read c.args.table.image.bytes.now)
    (given (goal.at.returns-then-not-settled_right c).Start) c.args.bytes.now c.args.words.now c.requires
    (λ t.
    denied c.settled_right.result c.if-not-settled_right.true
    c.settled_right.ensures t.settled_part)

pub returns-then-not-all_zero : goal.returns-then-not-all_zero
returns-then-not-all_zero c =
    not-described (read c.args.table.image.bytes.now)
    (given (goal.at.returns-then-not-all_zero c).Start) c.args.bytes.now c.args.words.now c.requires
    (λ t.
    denied c.all_zero.result c.if-not-all_zero.true
    c.all_zero.ensures t.middle)

pub bounds-table-0 : goal.bounds-table-0
bounds-table-0 c =
    omega (arith, valid_room c.args.table.image.bytes.now c.args.table.image.valid)

pub all_below-requires : goal.all_below-requires
all_below-requires c =
    (valid_header c.args.table.image.bytes.now c.args.table.image.valid).some-symbol

pub returns-then-not-all_below : goal.returns-then-not-all_below
unfolding read
returns-then-not-all_below c =
    not-described (read c.args.table.image.bytes.now)
    (given (goal.at.returns-then-not-all_below c).Start) c.args.bytes.now c.args.words.now c.requires
    (λ t. is-not c.all_below.result c.all_below.ensures (ap not c.if-not-all_below.true) t.waiting_part)

pub returns : goal.returns
unfolding read
returns c =
    rest_decides (read c.args.table.image.bytes.now)
    (given (goal.at.returns c).Start) c.args.bytes.now c.args.words.now c.requires
    c.all_zero-2.result c.all_zero-2.ensures
    (λ r.
    record {
      room = omega (arith, c.if-capacity-settled.false, c.if-capacity-settled-2.false);
      stands = is_so c.stands_by.result c.stands_by.ensures (ap not c.if-not-stands_by.false);
      settled_part =
          decided c.settled_right.result c.if-not-settled_right.false
          c.settled_right.ensures;
      middle =
          decided c.all_zero.result c.if-not-all_zero.false
          c.all_zero.ensures;
      waiting_part = is_so c.all_below.result c.all_below.ensures (ap not c.if-not-all_below.false);
      rest = r;
    })
