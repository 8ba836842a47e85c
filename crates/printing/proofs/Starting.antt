-- What `begin` rests on: compile takes a valid image, fresh areas of 2,048, and what is read is that of the rule part.
-- Assumes nothing.
use Rattle.std.specs.Prelude.{Result, Ok, Err}
use Prim.Native.Nat.{ℕ, ◌≤◌, ◌<◌}
use mathlib.Core.Path.{◌≡◌, refl, sym, ap, ◌∙◌}
use mathlib.Core.Bool.{Bool, true, false}
use mathlib.Core.List.{List, [], ◌∷◌}
use native.Mathlib.Omega.{arith}
use lib.Dec.{leb}
use lib.ListN.{length, take, drop, length-append}
use lib.Seq.{take-append_seam}
use borrow.Author.Tests.{leb-true, le-leb, lt-leb, eq-eqb}
use Rattle.rewriting.specs.Lists.{over}
use Rattle.layout.specs.Image.{image_of, read, valid}
use Rattle.layout.specs.Refusals.{number, refusal}
use Rattle.layout.proofs.Image.{valid-in_range, read_image}
use Rattle.layout.specs.Table.{table_most, table_of}
use Rattle.layout.specs.Compile.{compile_of}
use Rattle.layout.proofs.Table.{table_length}
use Rattle.layout.proofs.Compilation.{compile_words}
use Rattle.machine.specs.Areas.{document_capacity}
use Rattle.machine.specs.Calls.{sized, freshened, fresh_of}
use Rattle.grammar.specs.declared.TextError.{TextError}
use Rattle.grammar.specs.Grammar.{Reading, rule_set_of}
use Rattle.grammar.specs.Read.{ReadText, Outcome as ReadOutcome, read_text, names_of, read_checks, written, unless, read_of}
use Rattle.grammar.specs.Read.{answered}
use Rattle.grammar.proofs.Sound.{read-valid, read_image_short}
use Rattle.printing.specs.Lines.{refused_line, too_long_line}
use Rattle.printing.specs.Watch.{rule_part, fresh_monitor, rule_text_read}
use Rattle.printing.specs.Turns.{line_most, Begun, Message, Events, Areas, areas, begins_from, Inside, message, events_at}
use Rattle.printing.specs.Turns.{started, begin_read, begin_of}

module _ (image table : List ℕ) (good : valid image ≡ true) (size : length table ≡ table_most) where
  fits : length (table_of (read image)) ≤ length table
  fits = omega (arith, table_length (read image) (valid-in_range image good))

  -- compile writes the table ..
  pub compile_answers : (compile_of image table).answer ≡ Ok (length (table_of (read image)))
  compile_answers = sym (compile_words image table good fits _ refl _ refl).0

  pub compile_writes : (compile_of image table).area ≡ over (table_of (read image)) table
  unfolding over
  compile_writes = sym (compile_words image table good fits _ refl _ refl).1

  -- .. and refuses nothing
  pub compile_takes : (n : ℕ) → Err n ≡ (compile_of image table).answer → ⊥
  compile_takes n e =
      let w : Err n ≡ Ok (length (table_of (read image))) = e ∙ compile_answers in
      let z : ◌≡◌ {A = ℕ} 0 1 = cc in
      absurd (omega arith)

pub is-fresh :
    (bytes words : List ℕ) → length bytes ≡ document_capacity → length words ≡ document_capacity
    → (fresh_of document_capacity bytes words).monitor ≡ fresh_monitor
unfolding fresh_of freshened refusal sized fresh_monitor
is-fresh bytes words b w = rw (eq-eqb (length bytes) document_capacity b, eq-eqb (length words) document_capacity w)

-- The reader, lent areas of the lengths that it asks for, refuses what `rule_text_read` does, and nothing more.
reads_as :
    (text image names : List ℕ) → length image ≡ 1284 → length names ≡ 1200
    → read_of text image names ≡ written (rule_text_read text) image names
unfolding read_of read_checks refusal rule_text_read unless
reads_as text image names i n =
    rw (le-leb 1284 (length image) (omega arith), le-leb 1200 (length names) (omega arith))
    (go (leb (length text) 16384))
  where
    go :
        (b : Bool)
        → written (unless (refusal ((b, 1) ∷ (true, 2) ∷ [])) (read_text text)) image names
        ≡ written (unless (refusal ((b, 1) ∷ [])) (read_text text)) image names
    go true = refl
    go false = refl

-- A text that is read as good is short enough, and good.
pub rule_text_good : (text : List ℕ) (s : Reading) → rule_text_read text ≡ Ok s → (length text ≤ 16384) × (read_text text ≡ Ok s)
unfolding rule_text_read unless refusal
rule_text_good text s e = go (leb (length text) 16384) refl e
  where
    go :
        (b : Bool) → leb (length text) 16384 ≡ b → unless (refusal ((b, 1) ∷ [])) (read_text text) ≡ Ok s
        → (length text ≤ 16384) × (read_text text ≡ Ok s)
    go true short p = (leb-true (length text) 16384 short, p)
    go false short p = let z : ◌≡◌ {A = ℕ} 0 1 = cc in absurd (omega arith)

-- a text that it refuses
pub record BadRead (text image names : List ℕ) (n place : ℕ) : Type 0 where
  pub bad_text : rule_text_read text ≡ Err (n, place)
  pub image_stays : (read_of text image names).image ≡ image
  pub names_stay : (read_of text image names).names ≡ names

pub read_bad :
    (text image names : List ℕ) (a : Result ℕ TextError) (bad : TextError) → length image ≡ 1284 → length names ≡ 1200
    → answered a ≡ (read_of text image names).answer → a ≡ Err bad → BadRead text image names (number bad.refusal) bad.place
unfolding written
read_bad text image names a bad i m e p =
    go (rule_text_read text) refl (sym (ap answered p) ∙ e ∙ ap (λ (o : ReadOutcome). o.answer) (reads_as text image names i m))
  where
    go :
        (r : ReadText) → rule_text_read text ≡ r → Err (number bad.refusal, bad.place) ≡ (written r image names).answer
        → BadRead text image names (number bad.refusal) bad.place
    go (Err (b, q)) t f =
        let is : ◌≡◌ {A = ReadText} (Err (b, q)) (Err (number bad.refusal, bad.place)) = cc in
        record {
          bad_text = t ∙ is;
          image_stays = rw (reads_as text image names i m, t);
          names_stay = rw (reads_as text image names i m, t);
        }
    go (Ok s) t f = let z : ◌≡◌ {A = ℕ} 0 1 = cc in absurd (omega arith)

-- a text that it takes
pub record GoodRead (text image names : List ℕ) (size : ℕ) : Type 0 where
  pub reading : Reading
  pub good_text : rule_text_read text ≡ Ok reading
  pub image_size : size ≡ length (image_of (rule_set_of reading))
  pub image_short : size ≤ 1284
  pub image_there : take size (read_of text image names).image ≡ image_of (rule_set_of reading)
  pub image_over : (read_of text image names).image ≡ over (image_of (rule_set_of reading)) image
  pub names_over : (read_of text image names).names ≡ over (names_of reading) names
  pub rules-valid : valid (image_of (rule_set_of reading)) ≡ true
  pub rules_back : read (image_of (rule_set_of reading)) ≡ rule_set_of reading

pub read_good :
    (text image names : List ℕ) (a : Result ℕ TextError) (size : ℕ) → length image ≡ 1284 → length names ≡ 1200
    → answered a ≡ (read_of text image names).answer → a ≡ Ok size → GoodRead text image names size
unfolding written over
read_good text image names a size i m e p =
    go (rule_text_read text) refl (sym (ap answered p) ∙ e ∙ ap (λ (o : ReadOutcome). o.answer) (reads_as text image names i m))
  where
    go :
        (r : ReadText) → rule_text_read text ≡ r → Ok size ≡ (written r image names).answer
        → GoodRead text image names size
    go (Err (n, q)) t f = let z : ◌≡◌ {A = ℕ} 0 1 = cc in absurd (omega arith)
    go (Ok s) t f =
        let good : read_text text ≡ Ok s = (rule_text_good text s t).1 in
        let long : size ≡ length (image_of (rule_set_of s)) = cc in
        record {
          reading = s;
          good_text = t;
          image_size = long;
          image_short = omega (arith, long, read_image_short text s good);
          image_there = rw (reads_as text image names i m, t, long) (take-append_seam (image_of (rule_set_of s)) _);
          image_over = rw (reads_as text image names i m, t);
          names_over = rw (reads_as text image names i m, t);
          rules-valid = read-valid text s good;
          rules_back = read_image (rule_set_of s);
        }

-- `begin`, of an input that is too long, and of any other
pub begin_long : (input : List ℕ) (l : Areas) → 20480 < length input → begin_of input l ≡ message too_long_line l
unfolding begin_of
begin_long input l h = rw (lt-leb (length input) 20480 h)

pub begin_bad :
    (input : List ℕ) (l : Areas) (n place : ℕ) → length input ≤ 20480 → rule_text_read (rule_part input) ≡ Err (n, place)
    → begin_of input l ≡ message (refused_line n place) l
unfolding begin_of begin_read
begin_bad input l n place h e = rw (le-leb (length input) 20480 h, e)

pub begin_good :
    (input : List ℕ) (l : Areas) (s : Reading) → length input ≤ 20480 → rule_text_read (rule_part input) ≡ Ok s
    → begin_of input l ≡ started s (events_at input) l
unfolding begin_of begin_read
begin_good input l s h e = rw (le-leb (length input) 20480 h, e)

-- a message is written, and nothing else; it is no longer than `line_most` where its area is not
pub message-is :
    (input : List ℕ) (l : Areas) (m : List ℕ) (n : ℕ) (image names line : List ℕ) → begin_of input l ≡ message m l
    → image ≡ l.image → names ≡ l.names → n ≡ length m → line ≡ over m l.line
    → (begins_from (Message n) (areas image names l.table l.bytes l.words line) ≡ begin_of input l)
    × (length line ≤ line_most → n ≤ line_most)
unfolding message over
message-is input l m n image names line e same_image same_names size written = (
  rw e
      (λ i.
      record {
        answer = Message (size i);
        areas =
            record {
              image = same_image i;
              names = same_names i;
              table = l.table;
              bytes = l.bytes;
              words = l.words;
              line = written i;
            };
      }),
  λ most. omega (arith, size, most, ap length written, length-append m (drop (length m) l.line)),
)

-- all is ready for the first event
pub ready_is :
    (input : List ℕ) (l : Areas) (s : Reading) (at : ℕ) (r : Begun) (part image names table bytes words : List ℕ)
    → begin_of input l ≡ started s (events_at input) l → part ≡ image_of (rule_set_of s)
    → read (image_of (rule_set_of s)) ≡ rule_set_of s → at ≡ events_at input
    → r
    ≡ Events
    (record { head = fresh_monitor.head; at = at; image = length part; table = length (table_of (read part)) })
    → image ≡ over (image_of (rule_set_of s)) l.image → names ≡ over (names_of s) l.names
    → table ≡ over (table_of (read part)) l.table → bytes ≡ fresh_monitor.bytes → words ≡ fresh_monitor.words
    → (begins_from r (areas image names table bytes words l.line) ≡ begin_of input l) × Inside r
unfolding started
ready_is input l s at r part image names table bytes words begins is_image back place answer i n t b w =
    rw (begins, answer, t, i, n, b, w, is_image, back, place) (refl, tt)
