-- `parser::Reader::close_rule` meets its contract.
use native.Mathlib.Omega.{arith}
use Rattle.std.proofs.Math.Logic.{∥∥₁_elim, ∥∥₁_map}
use Rattle.std.proofs.Math.Bridge.{le_prop}
use Rattle.layout.specs.Image.{mark_byte}
use Rattle.grammar.proofs.Sound.{sound_stop}
use Rattle.parser.specs.Held.{Held}
use Rattle.parser.proofs.Room.{close_room}
use Rattle.parser.proofs.Taking.{rule_closed, still_held}
use Rattle.parser.proofs.Reader.close_rule.Goals as goal

pub offset_bounds-self-self : goal.offset_bounds-self-self
offset_bounds-self-self c =
    let few = ∥∥₁_elim c.args.self.now.held le_prop (λ h. close_room h c.requires) in omega (arith, few)

pub bounds-self-self : goal.bounds-self-self
bounds-self-self c = ∥∥₁_elim c.args.self.now.held le_prop (λ h. close_room h c.requires)

pub overflow_add-self : goal.overflow_add-self
overflow_add-self c =
    let few = ∥∥₁_elim c.args.self.now.held le_prop (λ h. close_room h c.requires) in omega (arith, few)

pub invariant_of-self : goal.invariant_of-self
unfolding mark_byte
invariant_of-self c =
    record {
      held = ∥∥₁_map c.args.self.now.held (λ h.
          still_held _ (sound_stop h.reading h.reading.place h.sound h.sound.here)
          (rule_closed h.keeps _ _ c.requires c.byte.ensures c.from.ensures
          (rw h.keeps.contents_size_lem (close_room h c.requires))));
    }

pub returns : goal.returns
unfolding mark_byte
returns c = λ s sound k.
    let h : Held _ _ _ _ _ = record { reading = s; sound = sound; keeps = k } in
    rule_closed k _ _ c.requires c.byte.ensures c.from.ensures (rw k.contents_size_lem (close_room h c.requires))
