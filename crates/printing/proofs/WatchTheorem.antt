-- `watch_theorem`: what `begin`, and then `next` until it writes nothing, give is what `watch` prints.
-- Assumes nothing.
use Rattle.std.specs.Prelude.{Ok, Err}
use Prim.Native.Nat.{ℕ, zero, suc, ◌+◌, ◌≤◌, ◌<◌}
use mathlib.Core.Path.{◌≡◌, refl, sym, ap, ◌∙◌}
use mathlib.Core.Bool.{Bool, true, false, cond}
use mathlib.Core.List.{List, [], ◌∷◌, ◌++◌, append-nil}
use native.Mathlib.Omega.{arith}
use native.Mathlib.Nat.{not-suc-le-zero}
use lib.Dec.{leb, ltb}
use lib.ListN.{length, take, drop, length-drop, drop_of_length-le}
use lib.Seq.{take-append_seam, drop-drop}
use borrow.Author.Tests.{leb-true, le-leb, ltb-true, ltb-false}
use Rattle.rewriting.specs.Lists.{over}
use Rattle.layout.specs.Image.{image_of}
use Rattle.layout.specs.Table.{table_of}
use Rattle.grammar.specs.Tokens.{unbroken, runs_from, runs}
use Rattle.grammar.specs.FirstRun.{gap}
use Rattle.grammar.specs.Grammar.{Reading, rule_set_of}
use Rattle.grammar.specs.Read.{ReadText, read_text, names_of}
use Rattle.grammar.proofs.Runs.{gap_le, unbroken_le, run-some, runs_none, runs-next, end_of}
use Rattle.grammar.proofs.Sound.{read_length_names}
use Rattle.printing.specs.Lines.{event_line, refused_line, too_long_line}
use Rattle.printing.specs.Watch.{
  rule_part,
  event_part,
  Watch,
  begun,
  holding,
  offered_name,
  line_for,
  event_lines,
  rule_text_read,
  reported,
  printed,
}
use Rattle.printing.specs.Turns.{
  Next,
  nothing,
  offering,
  named,
  first_named,
  next_of,
  Areas,
  message,
  events_at,
  started,
  begin_read,
  begin_of,
  then_rest,
  lines_from,
  written_by,
  WatchPrints,
}
use Rattle.printing.proofs.Split.{drop_events}
use Rattle.printing.proofs.Starting.{rule_text_good}

-- a line, and then the lines of the rest
abbrev line_then : List ℕ → ℕ → Watch → Next → List ℕ
line_then input k w n = then_rest (λ m. lines_from k (holding w m.monitor) input m.at) n n.line

-- A name has a line, and the next one is looked for where the name ends; without a name there is no line.
line_some :
    (input : List ℕ) (k : ℕ) (w : Watch) (at end : ℕ) (x : List ℕ) → 1 ≤ length x
    → line_then input k w (named w at end x) ≡ line_for w x ++ lines_from k (holding w (offered_name w x).monitor) input end
unfolding then_rest named offering line_for event_line
line_some input k w at end [] h = absurd (not-suc-le-zero h)
line_some input k w at end (b ∷ x) h = refl

line_none :
    (input : List ℕ) (k : ℕ) (w : Watch) (at end : ℕ) (x : List ℕ) → length x ≤ 0
    → line_then input k w (named w at end x) ≡ []
unfolding then_rest named nothing
line_none input k w at end [] h = refl
line_none input k w at end (b ∷ x) h = absurd (not-suc-le-zero h)

module _ (input : List ℕ) (short : length input ≤ 20480) where
  lines_next :
      (k : ℕ) (w : Watch) (at : ℕ) → lines_from (suc k) w input at ≡ line_then input k w (first_named w at (drop at input))
  unfolding lines_from next_of
  lines_next k w at = rw (le-leb (length input) 20480 short)

  -- The lines from a place on are those of the runs from there on, whatever place these are said to have.
  pub lines_from_lem :
      (k : ℕ) (w : Watch) (at i : ℕ) → length (drop at input) < k
      → lines_from k w input at ≡ event_lines w (runs_from true i (drop at input))
  unfolding first_named event_lines
  lines_from_lem zero w at i h = absurd (not-suc-le-zero h)
  lines_from_lem (suc k) w at i h =
      lines_next k w at ∙ go (ltb (gap part) (length part)) refl (λ w' at' i' h'. lines_from_lem k w' at' i' h')
    where
      part : List ℕ
      part = drop at input

      x : List ℕ
      x = unbroken (drop (gap part) part)

      end : ℕ
      end = at + end_of part

      go :
          (b : Bool) → ltb (gap part) (length part) ≡ b
          → ((w' : Watch) (at' i' : ℕ) → length (drop at' input) < k
          → lines_from k w' input at' ≡ event_lines w' (runs_from true i' (drop at' input)))
          → line_then input k w (first_named w at part) ≡ event_lines w (runs_from true i part)
      go true e ih =
          let more : gap part < length part = ltb-true (gap part) (length part) e in
          let some_x : 1 ≤ length x = run-some part more in
          let fewer : length (drop end input) < k = omega (arith, length-drop at input, length-drop end input) in
          let later = ih (holding w (offered_name w x).monitor) end (i + end_of part) fewer in
          line_some input k w at end x some_x
          ∙ ap (λ (l : List ℕ). line_for w x ++ l) (later ∙ rw (drop-drop (end_of part) at input))
          ∙ sym (ap (event_lines w) (runs-next i part more))
      go false e ih =
          let none_left : gap part ≡ length part = omega (arith, ltb-false (gap part) (length part) e, gap_le part) in
          line_none input k w at end x
          (omega (arith, unbroken_le (drop (gap part) part), length-drop (gap part) part))
          ∙ sym (ap (event_lines w) (runs_none i part none_left))

-- What is written over the beginning of an area, or over all of it.
over_there : (v area : List ℕ) → take (length v) (over v area) ≡ v
unfolding over
over_there v area = take-append_seam v (drop (length v) area)

over_all : (v area : List ℕ) → length area ≤ length v → over v area ≡ v
unfolding over
over_all v area h = rw (drop_of_length-le area h, append-nil)

-- a message is all that is written
written-message : (k : ℕ) (input m : List ℕ) (l : Areas) → written_by k input (message m l).answer (message m l).areas ≡ m
unfolding written_by message
written-message k input m l = over_there m l.line

-- what is lent to `next` is the good text's
started_watch : (text : List ℕ) (s : Reading) (l : Areas) → length l.names ≡ 1200 → read_text text ≡ Ok s
    → (k : ℕ) (input : List ℕ) (at : ℕ)
    → written_by k input (started s at l).answer (started s at l).areas ≡ lines_from k (begun s) input at
unfolding written_by started begun
started_watch text s l sized e k input at =
    let image = image_of (rule_set_of s) in
    let table = table_of (rule_set_of s) in
    rw (
      over_there image l.image,
      over_there table l.table,
      over_all (names_of s) l.names (omega (arith, sized, read_length_names text s e)),
    )

pub watch_theorem : WatchPrints
unfolding begin_of begin_read printed reported runs
watch_theorem input l sized k h = go (leb (length input) 20480) refl (rule_text_read (rule_part input)) refl
  where
    go :
        (b : Bool) → leb (length input) 20480 ≡ b → (r : ReadText) → rule_text_read (rule_part input) ≡ r
        → written_by k input (cond b (begin_read r (events_at input) l) (message too_long_line l)).answer
        (cond b (begin_read r (events_at input) l) (message too_long_line l)).areas
        ≡ cond b (reported r (event_part input)) too_long_line
    go false long r e = written-message k input too_long_line l
    go true fits (Err (n, place)) e = written-message k input (refused_line n place) l
    go true fits (Ok s) e =
        let good = rule_text_good (rule_part input) s e in
        let short : length input ≤ 20480 = leb-true (length input) 20480 fits in
        let fewer : length (drop (events_at input) input) < k = omega (arith, length-drop (events_at input) input) in
        started_watch (rule_part input) s l sized good.1 k input (events_at input)
        ∙ lines_from_lem input short k (begun s) (events_at input) 0 fewer
        ∙ ap (λ (t : List ℕ). event_lines (begun s) (runs_from true 0 t)) (drop_events input)
