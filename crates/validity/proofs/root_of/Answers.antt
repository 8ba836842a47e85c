-- `validity::root_of` meets its contract: each turn by what its four bytes tell.
use Rattle.std.proofs.Common.{◌≡◌, ◌≤◌, ◌-◌, ◌*◌, ◌/◌, eqb, drop, length, arith, sym, ◌∙◌}
use native.Mathlib.Nat.{sub-zero}
use borrow.Author.Tests.{eq-eqb, ne_eqb}
use Rattle.layout.specs.ImageCheck.{first_size, announces}
use Rattle.layout.proofs.ImageCheck.{announces_end}
use Rattle.validity.proofs.Contents.{chunk_byte, chunk_size, turn_out, turn_more, turn_on, mark_new, mark_kept, none_marked}
use Rattle.validity.proofs.root_of.Goals.{After-loop-left, then-last-eq1, else-last-eq1}
use Rattle.validity.proofs.root_of.Goals as goal

pub loop-left-init : goal.loop-left-init
loop-left-init c = record {
  announced = rw sub-zero;
  marked = none_marked c.args.contents.now;
}

pub returns-in_err-body_size : goal.returns-in_err-body_size
returns-in_err-body_size c =
    let a = c.args in
    let l = c.loop-left in
    let n = length a.contents.now / 4 in
    let size = chunk_size n l.left-index a.contents.now _ c.as_chunks.ensures.front (omega arith) a.verdicts in
    rw c.from_residual.ensures
    (sym l.invariant.announced
    ∙ turn_out a.verdicts n a.contents.now l.unread l.left-index (omega arith) (omega (arith, size, c.in_err-body_size.ensures)))

pub returns-then-unread-size : goal.returns-then-unread-size
returns-then-unread-size c =
    let a = c.args in
    let l = c.loop-left in
    let n = length a.contents.now / 4 in
    let size = chunk_size n l.left-index a.contents.now _ c.as_chunks.ensures.front (omega arith) a.verdicts in
    sym l.invariant.announced
    ∙ turn_more a.verdicts n a.contents.now l.unread l.left-index (omega arith) (omega (arith, size, c.in_ok-body_size.ensures))

pub loop-left-preserved : goal.loop-left-preserved
loop-left-preserved c =
    let a = c.args in
    let l = c.loop-left in
    let n = length a.contents.now / 4 in
    let i = l.left-index in
    let size = chunk_size n i a.contents.now _ c.as_chunks.ensures.front (omega arith) a.verdicts in
    let last = chunk_byte n i a.contents.now _ c.as_chunks.ensures.front (omega arith) 3 (omega arith) in
    let same : c.from-size.result ≡ first_size a.verdicts (drop (4 * i) a.contents.now) =
    omega (arith, size, c.in_ok-body_size.ensures)
    in
    let some : 1 ≤ c.from-size.result = omega (arith, c.in_ok-body_size.ensures) in
    record {
      announced = rw same (turn_on a.verdicts n a.contents.now l.unread i (omega arith) (omega arith) (omega arith))
          ∙ l.invariant.announced;
      marked = elim c.if-last-eq1.branch [
        | then-last-eq1 w ↦ w.root-is ∙ mark_new i a.contents.now (sym last ∙ w.if-last-eq1.true)
        | else-last-eq1 w ↦ w.root-is ∙ l.invariant.marked ∙ mark_kept i a.contents.now (λ e. w.if-last-eq1.false (last ∙ e))
      ];
    }

-- with no rule left, the contents announce what follows them exactly where no symbol is left
all_told :
    (c : After-loop-left)
    → announces c.args.verdicts (length c.args.contents.now / 4) c.args.contents.now c.args.symbols
    ≡ eqb c.loop-left.unread 0
all_told c =
    let a = c.args in
    let l = c.loop-left in
    let n = length a.contents.now / 4 in
    let over : n - l.left-index ≡ 0 = omega arith in
    sym l.invariant.announced ∙ rw over (announces_end a.verdicts (drop (4 * l.left-index) a.contents.now) l.unread)

pub returns-then-unread-eq0 : goal.returns-then-unread-eq0
returns-then-unread-eq0 c =
    let l = c.loop-left in
    let over : l.left-index ≡ length c.args.contents.now / 4 = omega arith in (
      all_told (goal.at.returns-then-unread-eq0 c).After-loop-left ∙ eq-eqb l.unread 0 c.if-unread-eq0.true,
      rw over at l.invariant.marked,
    )

pub returns-else-unread-eq0 : goal.returns-else-unread-eq0
returns-else-unread-eq0 c =
    all_told (goal.at.returns-else-unread-eq0 c).After-loop-left ∙ ne_eqb c.loop-left.unread 0 c.if-unread-eq0.false
