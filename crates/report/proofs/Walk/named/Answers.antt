-- `Walk::named` meets its contract: the parts of the line, and what the offer gives back.
use Prim.Native.Nat.{ℕ}
use mathlib.Core.Path.{◌≡◌, sym, ap, ◌∙◌}
use native.Mathlib.Omega.{arith}
use Rattle.std.specs.Prelude.{Some}
use mathlib.Core.List.{List, [], ◌∷◌, ◌++◌}
use lib.ListN.{length, length-append}
use Rattle.machine.specs.Areas.{Monitor, document_capacity}
use Rattle.machine.specs.Calls.{Outcome, offer_of}
use Rattle.grammar.specs.Lookup.{symbol_named}
use Rattle.tokens.proofs.Numbering.{lookup_below}
use Rattle.printing.specs.Watch.{Watch, offered, offered_name}
use Rattle.printing.specs.Turns.{offering, watch_in}
use Rattle.report.specs.Lent.{walk_in}
use Rattle.lines.proofs.Writing.{room_left_in, writes_then_in, writes_as_in}
use Rattle.report.proofs.Walking.{first_part, line_bytes_in, line_area_in, turn_is_in}
use Rattle.report.proofs.Offered.{named_short, made_slot, made_small, line_unknown, line_offered}
use Rattle.report.proofs.Offered.{answered_length, unknown_length}
use Rattle.layout.specs.Refusals.{numbered}
use Rattle.monitor.specs.Lent.{outcome_from}
use Rattle.printing.specs.Lines.{space, newline, refused_word, decimal, answer_word, told}
use Rattle.report.proofs.Walk.named.Goals as goal

-- the monitor that the offer of a known name leaves
left_by :
    (w : Watch) (x : List ℕ) (a : ℕ) (m : Monitor) → symbol_named w.names x ≡ Some a
    → m ≡ (offer_of document_capacity w.image w.table w.monitor a 1000).monitor → m ≡ (offered_name w x).monitor
unfolding offered_name offered
left_by w x a m known e = rw known e

pub overflow_cast-a : goal.overflow_cast-a
overflow_cast-a c =
    omega (arith, lookup_below _ _ _ (sym c.symbol.ensures ∙ c.in-Some.is))

pub put_told-requires : goal.put_told-requires
put_told-requires c = (
  omega arith,
  (
    made_slot _ _ _ _ _ _ _ c.offer-called.ensures,
    (
      made_small _ _ _ _ _ _ _ c.offer-called.ensures,
      omega (
        arith,
        c.requires.room,
        named_short _ _ _ (sym c.symbol.ensures ∙ c.in-Some.is),
        room_left_in c.put.ensures,
        room_left_in c.put_byte.ensures,
      ),
    ),
  ),
)

pub returns-in-None-clause-turn : goal.returns-in-None-clause-turn
unfolding offering offered_name offered
returns-in-None-clause-turn c =
    let w = watch_in (walk_in c.args.self) c.args.image.now c.args.table.now c.args.names.now c.args.bytes.now c.args.words.now in
    let unknown = sym c.symbol.ensures ∙ c.in-None.is in
    let line = writes_as_in (line_unknown w c.args.x.now unknown)
    (writes_then_in c.put.ensures (writes_then_in c.put_byte.ensures (rw c.number.ensures at c.put_refused.ensures))) in
    (turn_is_in _ _ _ _ _ _ c.put_refused.new.self (line_bytes_in c.requires.line line) (line_area_in c.requires.line line)
    (rw unknown)).0

-- the line's length is that of its parts
pub returns-in-None-clause-fits : goal.returns-in-None-clause-fits
returns-in-None-clause-fits c =
    let line = writes_then_in c.put.ensures (writes_then_in c.put_byte.ensures c.put_refused.ensures) in
    let rest : List ℕ = refused_word ++ space ∷ (decimal c.number.result ++ newline ∷ []) in
    omega (
      arith,
      ap length (line_bytes_in c.requires.line line),
      length-append c.args.x.now (space ∷ rest),
      c.requires.short,
      unknown_length c.number.result (omega arith),
    )

pub returns-in-Some-clause-fits : goal.returns-in-Some-clause-fits
returns-in-Some-clause-fits c =
    let names = c.args.names.now in
    let a = numbered c.offer-called.result.answer in
    let o = outcome_from c.offer-called.result c.offer-called.new.bytes [] in
    let line = writes_then_in c.put.ensures (writes_then_in c.put_byte.ensures c.put_told.ensures) in
    let rest : List ℕ = answer_word names a ++ space ∷ (told names o a ++ newline ∷ []) in
    omega (
      arith,
      ap length (line_bytes_in c.requires.line line),
      length-append c.args.x.now (space ∷ rest),
      named_short _ _ _ (sym c.symbol.ensures ∙ c.in-Some.is),
      answered_length names o c.offer-called.result.answer (made_small _ _ _ _ _ _ _ c.offer-called.ensures),
    )

pub returns-in-Some-clause-turn : goal.returns-in-Some-clause-turn
unfolding offering offered_name offered
returns-in-Some-clause-turn c =
    let self = c.args.self in
    let w = watch_in (walk_in self) c.args.image.now c.args.table.now c.args.names.now c.args.bytes.now c.args.words.now in
    let image = first_part self.image 1284 c.args.image.now (omega arith) in
    let table = first_part self.table 16964 c.args.table.now (omega arith) in
    let known = sym c.symbol.ensures ∙ c.in-Some.is in
    let made = rw (c.min.ensures, c.min-in-Some.ensures, image, table) at c.offer-called.ensures in
    let line = writes_as_in (line_offered w c.args.x.now _ _ _ _ known made)
    (writes_then_in c.put.ensures (writes_then_in c.put_byte.ensures c.put_told.ensures)) in
    (turn_is_in _ _ _ _ _ _ c.put_told.new.self (line_bytes_in c.requires.line line) (line_area_in c.requires.line line)
    (left_by w c.args.x.now _ _ known (ap (λ (o : Outcome). o.monitor) made))).0
