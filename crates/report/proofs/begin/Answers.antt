-- `begin` meets its contract: too long, refused, or ready for the first event.
use Prim.Native.Nat.{ℕ}
use mathlib.Core.List.{List}
use mathlib.Core.Path.{refl, sym, ap, ◌∙◌}
use native.Mathlib.Omega.{arith}
use lib.ListN.{length, take}
use lib.Seq.{length-take-le}
use Rattle.printing.specs.Ascii.{bytes}
use Rattle.printing.specs.Lines.{refused_line, too_long_line}
use Rattle.printing.specs.Watch.{rule_text_read}
use Rattle.printing.specs.Turns.{Areas, areas, begins_from}
use Rattle.report.specs.Lent.{begun_in}
use Rattle.rewriting.specs.Lists.{over}
use Rattle.lines.specs.Wrote.{Written, written_in, area_in}
use Rattle.printing.proofs.Split.{rule_part_le, rule-text}
use Rattle.printing.proofs.Starting.{GoodRead, read_bad, read_good, begin_long, begin_bad, begin_good, message-is, ready_is}
use Rattle.report.proofs.Walking.{begun_events, refused-length, line_bytes_in, line_area_in, cleared_area}
use Rattle.report.proofs.begin.Goals as goal
use Rattle.report.proofs.begin.Goals.{In-Ok}

pub returns-then-input-gt-INPUT_BYTES-clause-outcome : goal.returns-then-input-gt-INPUT_BYTES-clause-outcome
unfolding too_long_line bytes
returns-then-input-gt-INPUT_BYTES-clause-outcome c =
    let l =
    areas c.args.image.now c.args.names.now c.args.table.now c.args.bytes.now c.args.words.now (area_in c.args.message.now)
    in
    let begins = ap (λ (w : Written). w.bytes) c.clear.ensures.line in
    let there = cleared_area c.args.message.now c.clear.new.self c.clear.ensures.line in
    (message-is _ l too_long_line _ _ _ _ (begin_long _ l c.if-input-gt-INPUT_BYTES.true) refl refl
    (ap length (line_bytes_in begins c.put.ensures)) (line_area_in begins c.put.ensures ∙ ap (over too_long_line) there)).0

pub slice_bounds-read_rules-end : goal.slice_bounds-read_rules-end
slice_bounds-read_rules-end c =
    sym (length-take-le _ _ (omega (arith, c.rule_length-end.ensures, rule_part_le c.args.input.now)))

-- the rule text is taken
good_read :
    (c : In-Ok)
    → GoodRead (take c.rule_length-end.result c.args.input.now) c.args.image.now c.args.names.now c.in-Ok.size
good_read c =
    read_good _ c.args.image.now c.args.names.now _ _ (omega arith) (omega arith) c.read_rules.ensures.answer
    c.in-Ok.is

pub shared_ref_as_front-make_ready : goal.shared_ref_as_front-make_ready
shared_ref_as_front-make_ready c =
    let good = good_read (goal.at.shared_ref_as_front-make_ready c).In-Ok in
    omega (arith, good.image_short, c.read_rules.auto.image)

pub make_ready-requires : goal.make_ready-requires
make_ready-requires c =
    let good = good_read (goal.at.make_ready-requires c).In-Ok in
    rw (c.read_rules.ensures.image, good.image_there) good.rules-valid

pub returns-in-Err-clause-outcome : goal.returns-in-Err-clause-outcome
returns-in-Err-clause-outcome c =
    let l =
    areas c.args.image.now c.args.names.now c.args.table.now c.args.bytes.now c.args.words.now (area_in c.args.message.now)
    in
    let begins = ap (λ (w : Written). w.bytes) c.clear.ensures.line in
    let there = cleared_area c.args.message.now c.clear.new.self c.clear.ensures.line in
    let text = rule-text _ _ c.rule_length-end.ensures in
    let bad = read_bad _ c.args.image.now c.args.names.now _ _ (omega arith) (omega arith) c.read_rules.ensures.answer
    c.in-Err.is in
    let line = rw c.number.ensures at c.put_rules_refused.ensures in
    (message-is _ l (refused_line _ _) _ _ _ _
    (begin_bad _ l _ _ c.if-input-gt-INPUT_BYTES.false (ap rule_text_read (sym text) ∙ bad.bad_text))
    (c.read_rules.ensures.image ∙ bad.image_stays) (c.read_rules.ensures.names ∙ bad.names_stay)
    (ap length (line_bytes_in begins line))
    (line_area_in begins line ∙ ap (over (refused_line _ _)) there)).0

pub returns-in-Err-clause-inside : goal.returns-in-Err-clause-inside
returns-in-Err-clause-inside c =
    let line = ap length (line_bytes_in (ap (λ (w : Written). w.bytes) c.clear.ensures.line) c.put_rules_refused.ensures) in
    omega (arith, line, refused-length c.number.result c.in-Err.error.place (omega arith) (omega arith))

pub returns-in-Ok-clause-outcome : goal.returns-in-Ok-clause-outcome
returns-in-Ok-clause-outcome c =
    let l =
    areas c.args.image.now c.args.names.now c.args.table.now c.args.bytes.now c.args.words.now (area_in c.args.message.now)
    in
    let text = rule-text _ _ c.rule_length-end.ensures in
    let good = good_read (goal.at.returns-in-Ok-clause-outcome c).In-Ok in
    let image = c.read_rules.ensures.image in
    let made = c.make_ready.ensures in
    let there = ap (λ (area : List ℕ). take c.in-Ok.size area) image ∙ good.image_there in
    let begins = begin_good _ l good.reading c.if-input-gt-INPUT_BYTES.false (ap rule_text_read (sym text) ∙ good.good_text) in
    let p = ready_is _ l good.reading _ _ _ _ _ _ _ _ begins there good.rules_back c.events_start.ensures
    (begun_events _ _ (written_in c.clear.new.self) made.answer)
    (image ∙ good.image_over) (c.read_rules.ensures.names ∙ good.names_over) made.table made.bytes
    made.words in
    let rules = c.read_rules.new in
    let ready = c.make_ready.new in
    let left : List ℕ → Areas = λ line. areas rules.image rules.names ready.table ready.bytes ready.words line in
    ap (λ (line : List ℕ). begins_from (begun_in c.make_ready.result (written_in c.clear.new.self)) (left line))
    (cleared_area c.args.message.now c.clear.new.self c.clear.ensures.line)
    ∙ p.0
