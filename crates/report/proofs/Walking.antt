-- The walk over the names of an input: the next name, as the code finds it, and what a turn gives back.
-- Assumes nothing.
use Prim.Native.Nat.{ℕ, ◌+◌, ◌-◌, ◌≤◌, ◌<◌, ◌^◌, min}
use mathlib.Core.Path.{◌≡◌, refl, sym, ap, ◌∙◌}
use mathlib.Core.Bool.{Bool, true, false, cond, not}
use mathlib.Core.List.{List, [], ◌∷◌, ◌++◌}
use native.Mathlib.Omega.{arith}
use lib.Dec.{eqb, leb, ltb}
use lib.ListN.{length, take, drop, length-append, drop_of_length-le}
use lib.Seq.{take_all}
use borrow.Author.Tests.{le-leb, lt-leb, ltb-true, ltb-false}
use Rattle.rewriting.specs.Lists.{over}
use Rattle.monitor.specs.declared.Head.{Head}
use Rattle.monitor.specs.Lent.{lent}
use Rattle.std.specs.declared.ops.Range.{Range}
use Rattle.grammar.specs.Tokens.{unbroken}
use Rattle.grammar.specs.FirstRun.{gap, first_run}
use Rattle.grammar.proofs.Runs.{unbroken-take, run_end}
use Rattle.std.specs.Prelude.{None, Some, Option, option_map}
use Rattle.std.specs.List.{position, position_or_len}
use Rattle.std.specs.Option.{unwrap_or}
use Rattle.std.specs.Ordering.{is_lt, nat_cmp}
use Rattle.std.proofs.Common.{Less, Equal, Greater}
use Rattle.std.proofs.lemmas.List.Recursion.{is_position_or_len}
use Rattle.printing.proofs.Split.{rule_part_le}
use Rattle.machine.specs.Calls.{Outcome}
use Rattle.lines.specs.declared.Line.{Line}
use Rattle.lines.specs.Wrote.{Written, area, empty, Writes, written_in, area_in, WritesIn}
use Rattle.lines.proofs.Writing.{area_parts, as_written}
use Rattle.printing.specs.Ascii.{bytes}
use Rattle.printing.specs.Lines.{space, newline, decimal, answer_word, told, event_line, refused_line}
use Rattle.printing.proofs.Decimals.{decimal-length}
use Rattle.printing.specs.Watch.{percent, rule_part, Watch, offered_name, line_for}
use Rattle.printing.specs.Turns as Turns
use Rattle.printing.specs.Turns.{Next, Events, nothing, offering, named, first_named, next_of, Turn, turn_of, line_most}
use Rattle.report.specs.declared.RuleAreas.{RuleAreas}
use Rattle.report.specs.declared.Walk.{Walk}
use Rattle.report.specs.Lent.{walk_in, begun_in, walk_behind, watched, turn_from, turn_in}

-- the rule text ends where the first `%` is found
rule_none : length (rule_part []) ≡ 0
unfolding rule_part
rule_none = refl

rule_next : (b : ℕ) (l : List ℕ) → length (rule_part (b ∷ l)) ≡ cond (eqb b percent) 0 (1 + length (rule_part l))
unfolding rule_part
rule_next b l = step (eqb b percent)
  where
    step : (p : Bool) → length (cond p [] (b ∷ rule_part l)) ≡ cond p 0 (1 + length (rule_part l))
    step true = refl
    step false = omega arith

pub rule_position : (t : List ℕ) → unwrap_or (position (λ b. eqb b percent) t) (length t) ≡ length (rule_part t)
rule_position t = go (ltb (position_or_len (λ b. eqb b percent) t) (length t)) refl
  where
    first : length (rule_part t) ≡ position_or_len (λ b. eqb b percent) t
    first = is_position_or_len (λ l. length (rule_part l)) (λ b. eqb b percent) rule_none rule_next t

    go :
        (p : Bool) → ltb (position_or_len (λ b. eqb b percent) t) (length t) ≡ p
        → unwrap_or (position (λ b. eqb b percent) t) (length t) ≡ length (rule_part t)
    go true e = rw e (sym first)
    go false e = rw e (omega (arith, first, ltb-false _ _ e, rule_part_le t))

-- an input that is too long, or at its end, has no further name
pub next_long : (w : Watch) (input : List ℕ) (at : ℕ) → 20480 < length input → next_of w input at ≡ nothing w at
unfolding next_of
next_long w input at h = rw (lt-leb (length input) 20480 h)

pub next_end : (w : Watch) (input : List ℕ) (at : ℕ) → length input ≤ at → next_of w input at ≡ nothing w at
unfolding next_of first_named named gap unbroken
next_end w input at h = rw (drop_of_length-le input h) (go (leb (length input) 20480))
  where
    go : (b : Bool) → cond b (nothing w at) (nothing w at) ≡ nothing w at
    go true = refl
    go false = refl

-- a range is empty where it does not begin before its end
less : (a b : ℕ) → is_lt (nat_cmp a b) ≡ ltb a b
less a b = go (ltb a b) (eqb a b)
  where
    go : (p q : Bool) → is_lt (cond p Less (cond q Equal Greater)) ≡ p
    go true q = refl
    go false true = refl
    go false false = refl

pub no_byte : (a b : ℕ) → not (is_lt (nat_cmp a b)) ≡ true → b ≤ a
no_byte a b e = ltb-false a b (go (ltb a b) (rw (less a b) at e))
  where
    go : (p : Bool) → not p ≡ true → p ≡ false
    go true e = sym e
    go false e = refl

pub some_byte : (a b : ℕ) → not (is_lt (nat_cmp a b)) ≡ false → a < b
some_byte a b e = ltb-true a b (go (ltb a b) (rw (less a b) at e))
  where
    go : (p : Bool) → not p ≡ false → p ≡ true
    go true e = refl
    go false e = sym e

-- The first run of the rest of an input, from a place on.
module _ (input : List ℕ) (at : ℕ) (rest : List ℕ) (r : Range ℕ) (found : r ≡ first_run rest) where
  abbrev pub name_there : List ℕ
  name_there = unbroken (drop (gap rest) rest)

  pub run-starts : r.start ≡ gap rest
  unfolding first_run
  run-starts = rw found

  pub run_ends : r.end ≡ gap rest + length name_there
  unfolding first_run
  run_ends = rw found

  -- it is inside the rest
  pub run_inside : r.end ≤ length rest
  run_inside = omega (arith, run_ends, run_end rest)

  -- its bytes, as the code takes them from the rest
  pub run-bytes : take (r.end - r.start) (drop r.start rest) ≡ name_there
  run-bytes =
      let size : r.end - r.start ≡ length name_there = omega (arith, run-starts, run_ends) in
      rw (size, run-starts) (sym (unbroken-take (drop (gap rest) rest)))

  pub next-none : (w : Watch) → rest ≡ drop at input → length input ≤ 20480 → r.end ≤ r.start → next_of w input at ≡ nothing w at
  unfolding next_of first_named named
  next-none w behind h e = rw (le-leb (length input) 20480 h, ← behind) (go name_there (omega (arith, run-starts, run_ends, e)))
    where
      go : (x : List ℕ) → length x ≡ 0 → named w at (at + (gap rest + length x)) x ≡ nothing w at
      go [] z = refl
      go (b ∷ x) z = absurd (omega arith)

  pub next-some :
      (w : Watch) → rest ≡ drop at input → length input ≤ 20480 → r.start < r.end
      → next_of w input at ≡ offering w (at + r.end) name_there
  unfolding next_of first_named named
  next-some w behind h e =
      rw (le-leb (length input) 20480 h, run_ends, ← behind) (go name_there (omega (arith, run-starts, run_ends, e)))
    where
      go :
          (x : List ℕ) → 0 < length x
          → named w at (at + (gap rest + length x)) x ≡ offering w (at + (gap rest + length x)) x
      go [] z = absurd (omega arith)
      go (b ∷ x) z = refl

-- A line that is written from its beginning.
module _ {x : List ℕ} {l l' : Written} (begins : l.bytes ≡ []) (w : Writes x l l') where
  pub line_bytes : l'.bytes ≡ x
  line_bytes = rw (w.line, begins) refl

  pub line_area : area l' ≡ over x (area l)
  unfolding over
  line_area = rw (w.line, begins) refl

-- One as the code has it.
module _ {N : ℕ} {x : List ℕ} {l l' : Line N} (begins : (written_in l).bytes ≡ []) (w : WritesIn x l l') where
  pub line_bytes_in : (written_in l').bytes ≡ x
  line_bytes_in = line_bytes begins (as_written w)

  pub line_area_in : area_in l' ≡ over x (area_in l)
  line_area_in = area_parts l' ∙ line_area begins (as_written w) ∙ ap (over x) (sym (area_parts l))

-- a line that begins anew lies in the area of the one before
pub cleared_area : {N : ℕ} (line left : Line N) → written_in left ≡ empty (area_in line) → area_in left ≡ area_in line
cleared_area line left cleared = area_parts left ∙ ap area cleared

-- how long the line for a rule text that is refused is
pub refused-length : (n place : ℕ) → n < 10 ^ 10 → place < 10 ^ 20 → length (refused_line n place) ≤ 80
unfolding refused_line bytes
refused-length n place h g =
    omega (
      arith,
      length-append (decimal n) (space ∷ (decimal place ++ newline ∷ [])),
      length-append (decimal place) (newline ∷ []),
      decimal-length 9 n h,
      decimal-length 19 place g,
    )

-- What the code gave back, by its parts: a line, which is no longer than `line_most` where its area is not ..
pub turn_is :
    (n : Next) (walk : Walk) (head : Head) (bytes words a : List ℕ) (line : Written) → line.bytes ≡ n.line
    → area line ≡ over n.line a → lent head bytes words ≡ n.monitor
    → ((record {
      walk = walk_in (record { head = head; at = n.at; image = walk.image; table = walk.table });
      length = length line.bytes;
      bytes = bytes;
      words = words;
      buffer = area line;
    })
    ≡ turn_of (walk_in walk) n a)
    × (length (area line) ≤ line_most → length line.bytes ≤ line_most)
unfolding turn_of over
turn_is n walk head bytes words a line is there monitor = (
  λ i.
      record {
        walk = record { head = (monitor i).head; at = n.at; image = walk.image; table = walk.table };
        length = length (is i);
        bytes = (monitor i).bytes;
        words = (monitor i).words;
        buffer = there i;
      },
  λ most. omega (arith, ap length is, most, ap length there, length-append n.line (drop (length n.line) a)),
)

-- .. or nothing, where no name is left
pub turn_nothing :
    (n : Next) (walk : Walk) (r : RuleAreas) (bytes words : List ℕ) (line left : Written)
    → n ≡ nothing (watched walk r bytes words) walk.at → left ≡ empty (area line)
    → turn_from walk None bytes words left ≡ turn_of (walk_in walk) n (area line)
unfolding turn_of over nothing
turn_nothing n walk r b ws line left e cleared = rw (e, cleared) refl

-- the walk goes on where the name ends, and the line has a byte
pub turn_place :
    (w : Watch) (walk next : Walk) (end : ℕ) (x a bytes words : List ℕ) (line : Written)
    → turn_from walk (Some next) bytes words line ≡ turn_of (walk_in walk) (offering w end x) a → next.at ≡ end
unfolding turn_of offering
turn_place w walk next end x a b ws line e = ap (λ (t : Turn). t.walk.at) e

pub turn_some :
    (w : Watch) (walk next : Walk) (end : ℕ) (x a bytes words : List ℕ) (line : Written)
    → turn_from walk (Some next) bytes words line ≡ turn_of (walk_in walk) (offering w end x) a → 0 < length line.bytes
unfolding turn_of offering line_for event_line
turn_some w walk next end x a b ws line e =
    let o : Outcome = offered_name w x in
    let behind : List ℕ = answer_word w.names o.answer ++ space ∷ (told w.names o o.answer ++ newline ∷ []) in
    omega (arith, ap (λ (t : Turn). t.length) e, length-append x (space ∷ behind))

-- The same of lines as the code has them.
pub turn_parts :
    {N : ℕ} (walk : Walk) (r : Option Walk) (bytes words : List ℕ) (line : Line N)
    → turn_in walk r bytes words line ≡ turn_from walk r bytes words (written_in line)
turn_parts walk r bytes words line i =
    record {
      walk = walk_in (walk_behind walk r);
      length = length (written_in line).bytes;
      bytes = bytes;
      words = words;
      buffer = area_parts line i;
    }

pub turn_is_in :
    {N : ℕ} (n : Next) (walk : Walk) (head : Head) (bytes words a : List ℕ) (line : Line N)
    → (written_in line).bytes ≡ n.line → area_in line ≡ over n.line a → lent head bytes words ≡ n.monitor
    → ((record {
      walk = walk_in (record { head = head; at = n.at; image = walk.image; table = walk.table });
      length = length (written_in line).bytes;
      bytes = bytes;
      words = words;
      buffer = area_in line;
    })
    ≡ turn_of (walk_in walk) n a)
    × (length (area_in line) ≤ line_most → length (written_in line).bytes ≤ line_most)
turn_is_in n walk head bytes words a line is there monitor =
    let next : Walk = record { head = head; at = n.at; image = walk.image; table = walk.table } in
    let p = turn_is n walk head bytes words a (written_in line) is (sym (area_parts line) ∙ there) monitor in (
      turn_parts walk (Some next) bytes words line ∙ p.0,
      λ most. omega (arith, p.1 (omega (arith, most, ap length (area_parts line)))),
    )

pub turn_nothing_in :
    {N : ℕ} (n : Next) (walk : Walk) (r : RuleAreas) (bytes words : List ℕ) (line left : Line N)
    → n ≡ nothing (watched walk r bytes words) walk.at → written_in left ≡ empty (area_in line)
    → turn_in walk None bytes words left ≡ turn_of (walk_in walk) n (area_in line)
turn_nothing_in n walk r b ws line left e cleared =
    turn_parts walk None b ws left
    ∙ turn_nothing n walk r b ws (written_in line) (written_in left) e (cleared ∙ ap empty (area_parts line))
    ∙ ap (turn_of (walk_in walk) n) (sym (area_parts line))

pub turn_place_in :
    {N : ℕ} (w : Watch) (walk next : Walk) (end : ℕ) (x a bytes words : List ℕ) (line : Line N)
    → turn_in walk (Some next) bytes words line ≡ turn_of (walk_in walk) (offering w end x) a → next.at ≡ end
turn_place_in w walk next end x a b ws line e =
    turn_place w walk next end x a b ws (written_in line) (sym (turn_parts walk (Some next) b ws line) ∙ e)

pub turn_some_in :
    {N : ℕ} (w : Watch) (walk next : Walk) (end : ℕ) (x a bytes words : List ℕ) (line : Line N)
    → turn_in walk (Some next) bytes words line ≡ turn_of (walk_in walk) (offering w end x) a
    → 0 < length (written_in line).bytes
turn_some_in w walk next end x a b ws line e =
    turn_some w walk next end x a b ws (written_in line) (sym (turn_parts walk (Some next) b ws line) ∙ e)

-- a walk that is begun
pub begun_events :
    (r : Option Walk) (w : Turns.Walk) (line : Written) → option_map walk_in r ≡ Some w → begun_in r line ≡ Events w
begun_events None w line e = cc
begun_events (Some walk) w line e = cc

-- the first part of an area, as the code takes it
pub first_part : (n most : ℕ) (area : List ℕ) → length area ≡ most → take (min n most) area ≡ take n area
first_part n most area size = go (ltb n most) refl
  where
    go : (b : Bool) → ltb n most ≡ b → take (min n most) area ≡ take n area
    go true e = let m : min n most ≡ n = omega (arith, ltb-true n most e) in rw m
    go false e =
        let m : min n most ≡ most = omega (arith, ltb-false n most e) in
        rw m (take_all most area (omega arith) ∙ sym (take_all n area (omega (arith, ltb-false n most e))))
