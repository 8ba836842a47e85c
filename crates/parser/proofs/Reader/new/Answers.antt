-- `parser::Reader::new` meets its contract.
use mathlib.Core.Path.{refl}
use mathlib.Core.List.{flat_map}
use Rattle.rewriting.specs.Rules.{symbols_of}
use Rattle.layout.specs.Image.{body}
use Rattle.grammar.specs.Names.{slot}
use Rattle.tokens.specs.Numbered.{slots_of}
use Rattle.grammar.specs.Grammar.{begun}
use Rattle.grammar.proofs.Sound.{sound_begun}
use Rattle.parser.specs.Held.{place_of, rule_at, left_of, side_of, kind_of, numbers_of}
use Rattle.parser.proofs.Reader.new.Goals as goal

pub invariant_of-result-3 : goal.invariant_of-result-3
unfolding begun numbers_of place_of rule_at left_of side_of kind_of body symbols_of flat_map slot slots_of
invariant_of-result-3 c =
    record {
      held = ∣ record {
        reading = begun;
        sound = sound_begun;
        keeps =
            record {
              numbers = refl;
              symbol-slots = refl;
              word-slots = rw (c.slot_of.ensures, c.slot_of-2.ensures) refl;
              contents_begin = refl;
              contents_size_lem = refl;
              bodies_begin = refl;
              bodies_size_lem = refl;
            };
      } ∣₁;
    }

pub returns : goal.returns
unfolding begun numbers_of place_of rule_at left_of side_of kind_of body symbols_of flat_map slot slots_of
returns c =
    record {
      numbers = refl;
      symbol-slots = refl;
      word-slots = rw (c.slot_of.ensures, c.slot_of-2.ensures) refl;
      contents_begin = refl;
      contents_size_lem = refl;
      bodies_begin = refl;
      bodies_size_lem = refl;
    }
