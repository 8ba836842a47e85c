-- `monitor::Head::refusal` meets its contract: the first of a call's own checks that fails decides.
use mathlib.Core.Path.{sym, ap, ◌∙◌}
use Rattle.image.specs.Sets.{set_of}
use Rattle.layout.specs.Refusals.{answered}
use Rattle.monitor.specs.Lent.{head_in}
use Rattle.machine.proofs.Deciding.{is-some, is-nothing, refuses_event, refuses_fuel, refuses_verdict, refuses_room, refuses_none}
use Rattle.monitor.proofs.Head.refusal.Goals as goal

pub returns-then-not-allowed : goal.returns-then-not-allowed
unfolding answered
returns-then-not-allowed c =
    sym
    (ap answered
    (refuses_event (set_of c.args.image) c.args.capacity (head_in c.args.self) c.args.fuel
    c.args.offered (sym c.allowed.ensures ∙ c.if-not-allowed.true)))

pub returns-then-fuel-gt-FUEL_MOST : goal.returns-then-fuel-gt-FUEL_MOST
unfolding answered
returns-then-fuel-gt-FUEL_MOST c =
    sym
    (ap answered
    (refuses_fuel (set_of c.args.image) c.args.capacity (head_in c.args.self) c.args.fuel
    c.args.offered (sym c.allowed.ensures ∙ c.if-not-allowed.false) c.if-fuel-gt-FUEL_MOST.true))

pub returns-then-is_some : goal.returns-then-is_some
unfolding answered
returns-then-is_some c =
    sym
    (ap answered
    (refuses_verdict (set_of c.args.image) c.args.capacity (head_in c.args.self) c.args.fuel
    c.if-fuel-gt-FUEL_MOST.false c.args.offered (sym c.allowed.ensures ∙ c.if-not-allowed.false)
    (is-some _ (sym c.is_some.ensures ∙ c.if-is_some.true)).0
    (is-some _ (sym c.is_some.ensures ∙ c.if-is_some.true)).1))

pub returns-then-not-has_room : goal.returns-then-not-has_room
unfolding answered
returns-then-not-has_room c =
    sym
    (ap answered
    (refuses_room (set_of c.args.image) c.args.capacity (head_in c.args.self) c.args.fuel
    c.if-fuel-gt-FUEL_MOST.false c.args.offered (sym c.allowed.ensures ∙ c.if-not-allowed.false)
    (is-nothing _ (sym c.is_some.ensures ∙ c.if-is_some.false))
    (sym c.has_room.ensures ∙ c.if-not-has_room.true)))

pub returns : goal.returns
unfolding answered
returns c =
    sym
    (ap answered
    (refuses_none (set_of c.args.image) c.args.capacity (head_in c.args.self) c.args.fuel
    c.if-fuel-gt-FUEL_MOST.false c.args.offered (sym c.allowed.ensures ∙ c.if-not-allowed.false)
    (is-nothing _ (sym c.is_some.ensures ∙ c.if-is_some.false))
    (sym c.has_room.ensures ∙ c.if-not-has_room.false)))
