-- `areas::rewrite` meets its contract: the step that its rule makes, or none where it does not fit.
use Rattle.std.specs.Prelude.{None}
use Prim.Native.Nat.{ℕ, ◌+◌, ◌-◌, ◌≤◌, ◌<◌}
use mathlib.Core.Path.{◌≡◌, refl, sym, ap, ◌∙◌}
use mathlib.Core.Bool.{true}
use mathlib.Core.List.{List}
use native.Mathlib.Omega.{arith}
use lib.ListN.{length}
use Rattle.rewriting.specs.Rules.{Put, Close, rule}
use Rattle.layout.specs.declared.RightSide.{RightSide}
use Rattle.layout.specs.Image.{read, valid}
use Rattle.layout.specs.Places.{right_at, right_side_of}
use Rattle.machine.specs.Areas.{Monitor}
use Rattle.machine.specs.Lent.{monitor_with}
use Rattle.machine.proofs.RightSides.{is_put, is_close, left_few, close_few, put_few, put_within, put_here}
use Rattle.machine.proofs.Stepping.{
  Held,
  held,
  first_place,
  matched_rule,
  left_some,
  left_fits,
  put_step,
  full_step,
  close_step,
}
use Rattle.areas.proofs.rewrite.Goals.{Start}
use Rattle.areas.proofs.rewrite.Goals as goal

-- what is lent

abbrev given : Start → Monitor
given s = monitor_with s.args.settled s.args.waiting None 0 s.args.bytes.now s.args.words.now

facts : (s : Start) → Held (read s.args.rules.table.image.bytes.now) (length s.args.bytes.now) (given s)
facts s = held (length s.args.bytes.now) s.args.rules.table.image.bytes.now s.args.rules.table.words.now (given s) s.requires.lent

good : (s : Start) → valid s.args.rules.table.image.bytes.now ≡ true
good s = s.args.rules.table.image.valid

is_rule : (s : Start) → s.args.i < length (read s.args.rules.table.image.bytes.now).rules
is_rule s =
    matched_rule (read s.args.rules.table.image.bytes.now) (length s.args.bytes.now) (given s) (facts s) s.args.i s.requires.next

-- the left side has 1 to 8 symbols, the last of them waits, and those before it are settled

record Sizes (s : Start) (size : ℕ) : Type 0 where
  some : 1 ≤ size
  few : size ≤ 8
  fits : size ≤ s.args.settled + 1
  waits : 1 ≤ s.args.waiting
  room : s.args.settled + s.args.waiting ≤ length s.args.bytes.now
  words : length s.args.words.now ≡ length s.args.bytes.now

sizes : (s : Start) (size : ℕ) → size ≡ length (rule (read s.args.rules.table.image.bytes.now).rules s.args.i).left → Sizes s size
sizes s size e =
    let set = read s.args.rules.table.image.bytes.now in
    let capacity = length s.args.bytes.now in
    let q = s.requires.next in
    record {
      some = rw e (left_some set capacity (given s) (facts s) s.args.i q);
      few = rw e (left_few s.args.rules.table.image.bytes.now (good s) s.args.i (is_rule s));
      fits = rw e (left_fits set capacity (given s) (facts s) s.args.i q);
      waits = (let w = first_place set capacity (given s) (facts s) q.0 q.1 q.2 in omega arith);
      room = omega (arith, facts s);
      words = omega (arith, facts s);
    }

-- the right side is a string, with its symbols in the image

string :
    (s : Start) (n : ℕ) → right_side_of (rule (read s.args.rules.table.image.bytes.now).rules s.args.i).right ≡ RightSide.Put n
    → (v : List ℕ) × ((rule (read s.args.rules.table.image.bytes.now).rules s.args.i).right ≡ Put v) × (n ≡ length v)
string s n e = is_put (rule (read s.args.rules.table.image.bytes.now).rules s.args.i).right n e

few :
    (s : Start) (n : ℕ) → right_side_of (rule (read s.args.rules.table.image.bytes.now).rules s.args.i).right ≡ RightSide.Put n
    → n ≤ 8
few s n e =
    let r = string s n e in
    omega (arith, r.2, put_few s.args.rules.table.image.bytes.now (good s) s.args.i (is_rule s) r.0 r.1)

within :
    (s : Start) (n : ℕ) → right_side_of (rule (read s.args.rules.table.image.bytes.now).rules s.args.i).right ≡ RightSide.Put n
    → right_at (read s.args.rules.table.image.bytes.now) s.args.i + n ≤ length s.args.rules.table.image.bytes.now
within s n e =
    let r = string s n e in
    omega (arith, r.2, put_within s.args.rules.table.image.bytes.now (good s) s.args.i (is_rule s) r.0 r.1)

-- or a verdict

verdict :
    (s : Start) (v : ℕ) → right_side_of (rule (read s.args.rules.table.image.bytes.now).rules s.args.i).right ≡ RightSide.Close v
    → (rule (read s.args.rules.table.image.bytes.now).rules s.args.i).right ≡ Close v
verdict s v e = is_close (rule (read s.args.rules.table.image.bytes.now).rules s.args.i).right v e

pub overflow_sub-first : goal.overflow_sub-first
overflow_sub-first c =
    let s = (goal.at.overflow_sub-first c).Start in
    omega (arith, facts s)

pub left_length-size-requires : goal.left_length-size-requires
left_length-size-requires c =
    let s = (goal.at.left_length-size-requires c).Start in
    is_rule s

pub overflow_sub-rest : goal.overflow_sub-rest
overflow_sub-rest c =
    let s = (goal.at.overflow_sub-rest c).Start in
    (sizes s _ c.left_length-size.ensures).waits

pub right_side-requires : goal.right_side-requires
right_side-requires c =
    let s = (goal.at.right_side-requires c).Start in
    is_rule s

pub overflow_add-behind-in-Put : goal.overflow_add-behind-in-Put
overflow_add-behind-in-Put c =
    let s = (goal.at.overflow_add-behind-in-Put c).Start in
    omega (arith, sizes s _ c.left_length-size.ensures)

pub overflow_add-settled : goal.overflow_add-settled
overflow_add-settled c =
    let s = (goal.at.overflow_add-settled c).Start in
    omega (arith, sizes s _ c.left_length-size.ensures)

pub overflow_add-settled-in-Put : goal.overflow_add-settled-in-Put
overflow_add-settled-in-Put c =
    let s = (goal.at.overflow_add-settled-in-Put c).Start in
    omega (arith, sizes s _ c.left_length-size.ensures, few s _ (sym c.right_side.ensures ∙ c.in-Put.is))

pub returns-then-behind-size : goal.returns-then-behind-size
returns-then-behind-size c =
    let s = (goal.at.returns-then-behind-size c).Start in
    let r = string s _ (sym c.right_side.ensures ∙ c.in-Put.is) in
    record {
      tried =
          full_step (read c.args.rules.table.image.bytes.now) (length c.args.bytes.now) (given s)
          (facts s) c.args.i c.requires.next _
          (c.args.settled + 1 - c.left_length-size.result) r.0 _ refl
          (ap (λ (x : ℕ). c.args.settled + 1 - x) c.left_length-size.ensures) r.1 r.2
          (omega (arith, sizes s _ c.left_length-size.ensures, c.if-behind-size.true));
      verdict = tt;
    }

pub take_off-kept-requires : goal.take_off-kept-requires
take_off-kept-requires c =
    let s = (goal.at.take_off-kept-requires c).Start in
    let z = sizes s _ c.left_length-size.ensures in record {
      first = omega (arith, z);
      some = z.some;
      few = z.few;
      order = z.fits;
      bytes = omega (arith, z);
      words = omega (arith, z);
    }

pub start-requires : goal.start-requires
start-requires c = is_rule (goal.at.start-requires c).Start

pub put_back-held-requires : goal.put_back-held-requires
put_back-held-requires c =
    let s = (goal.at.put_back-held-requires c).Start in
    let z = sizes s _ c.left_length-size.ensures in
    let e = sym c.right_side.ensures ∙ c.in-Put.is in record {
      few = few s _ e;
      source = rw c.start.ensures (within s _ e);
      target = omega (arith, z, c.if-behind-size.false, c.take_off-kept.auto.bytes);
    }

pub take_off-kept-requires-in-Close : goal.take_off-kept-requires-in-Close
take_off-kept-requires-in-Close c =
    let s = (goal.at.take_off-kept-requires-in-Close c).Start in
    let z = sizes s _ c.left_length-size.ensures in record {
      first = omega (arith, z);
      some = z.some;
      few = z.few;
      order = z.fits;
      bytes = omega (arith, z);
      words = omega (arith, z);
    }

pub returns-else-behind-size : goal.returns-else-behind-size
returns-else-behind-size c =
    let s = (goal.at.returns-else-behind-size c).Start in
    let i = c.args.i in
    let z = sizes s _ c.left_length-size.ensures in
    let r = string s _ (sym c.right_side.ensures ∙ c.in-Put.is) in
    record {
      tried =
          put_step (read c.args.rules.table.image.bytes.now) (length c.args.bytes.now) (given s) (facts s) i c.requires.next
          (record {
            first_is = refl;
            kept_is = c.take_off-kept.ensures.kept ∙ ap (λ (x : ℕ). c.args.settled + 1 - x) c.left_length-size.ensures;
            bytes-is = c.take_off-kept.ensures.bytes;
            words_is = c.take_off-kept.ensures.words;
          }) r.0 _ _ r.1 r.2
          (rw c.start.ensures (put_here c.args.rules.table.image.bytes.now (good s) i (is_rule s) r.0 r.1 _ r.2))
          (omega (arith, z, c.take_off-kept.ensures.kept, c.if-behind-size.false)) c.put_back-held.ensures.waiting
          (length c.take_off-kept.new.bytes - (c.args.waiting - 1 + c.in-Put.n))
          (omega (arith, z, c.take_off-kept.auto.bytes, c.if-behind-size.false))
          c.put_back-held.ensures.bytes;
      verdict = λ v e. absurd (let z : ◌≡◌ {A = ℕ} 0 1 = cc in omega arith);
    }

pub returns-in-Close : goal.returns-in-Close
returns-in-Close c =
    let s = (goal.at.returns-in-Close c).Start in
    let e = verdict s _ (sym c.right_side.ensures ∙ c.in-Close.is) in
    record {
      tried =
          close_step (read c.args.rules.table.image.bytes.now) (length c.args.bytes.now) (given s)
          (facts s) c.args.i c.requires.next
          (record {
            first_is = refl;
            kept_is = c.take_off-kept-in-Close.ensures.kept ∙ ap (λ (x : ℕ). c.args.settled + 1 - x) c.left_length-size.ensures;
            bytes-is = c.take_off-kept-in-Close.ensures.bytes;
            words_is = c.take_off-kept-in-Close.ensures.words;
          }) _ e;
      verdict = λ v same.
          let one : c.in-Close.v ≡ v = cc in
          omega (arith, one, close_few c.args.rules.table.image.bytes.now (good s) c.args.i (is_rule s) _ e);
    }
