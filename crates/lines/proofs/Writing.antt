-- Laws of a line that is written part by part.
-- Assumes nothing.
use Prim.Native.Nat.{ℕ, suc, ◌+◌, ◌-◌, ◌≤◌, ◌<◌}
use mathlib.Core.Path.{◌≡◌, refl, sym, ap, ◌∙◌}
use mathlib.Core.List.{List, [], ◌∷◌, ◌++◌, append_assoc, append-nil}
use native.Mathlib.Numerals.{add-one}
use native.Mathlib.Omega.{arith}
use lib.ListN.{length, set, take, drop, length-append, length-drop, drop_of_length-le, take-append-drop}
use lib.Seq.{drop-drop, take_all, length-take-le, take-append_seam, take-append-add, drop-append-add, set_split}
use Rattle.std.proofs.Common.{ap₂}
use Rattle.std.proofs.Math.Seq.{drop-append_seam}
use borrow.Rule.Slice.PartMut.{put_mid, post_of}
use Rattle.rewriting.specs.Lists.{over}
use Rattle.printing.specs.Turns.{line_most}
use Rattle.lines.specs.declared.TheConstants.{LINE_BYTES}
use Rattle.lines.specs.declared.Line.{Line}
use Rattle.lines.specs.Wrote.{Written, area, Writes, written_in, area_in, SameArea, WritesIn}

-- an area of so many bytes has room for the longest line, and for no more
pub line_fits : LINE_BYTES ≡ line_most
line_fits = refl

-- the room that a part leaves
pub room_left : {x : List ℕ} {l l' : Written} → Writes x l l' → length l'.behind + length x ≡ length l.behind
room_left {x} {l} {l'} w = rw w.line (omega (arith, length-drop (length x) l.behind, w.room))

-- nothing is written
pub writes_nothing : (l : Written) → Writes [] l l
writes_nothing l = record { line = rw (append-nil l.bytes) refl; room = omega arith }

-- one part and then another
pub writes_then : {x y : List ℕ} {l l' l'' : Written} → Writes x l l' → Writes y l' l'' → Writes (x ++ y) l l''
writes_then {x} {y} {l} {l'} {l''} f g =
    record {
      line = g.line ∙ rw (f.line, append_assoc l.bytes x y, drop-drop (length y) (length x) l.behind, length-append x y) refl;
      room = omega (arith, length-append x y, room_left f, g.room);
    }

-- the same part by another name
pub writes_as : {x y : List ℕ} {l l' : Written} → x ≡ y → Writes x l l' → Writes y l l'
writes_as e f = rw (← e) f

-- x is written over what is behind the line, in the part of the area from the line's end on
pub writes_behind :
    (x a y : List ℕ) (n d : ℕ) → n ≤ length a → length x ≤ length (drop n a) → d ≡ length x
    → y ≡ over x (take (length a - n) (drop n a))
    → Writes x (record { bytes = take n a; behind = drop n a })
    (record { bytes = take (n + d) (put_mid n (length a - n) a y); behind = drop (n + d) (put_mid n (length a - n) a y) })
unfolding over
writes_behind x a y n d inside room digits written =
    let rest : List ℕ = drop (length x) (drop n a) in
    let whole : take (length a - n) (drop n a) ≡ drop n a = take_all (length a - n) (drop n a) (omega (arith, length-drop n a)) in
    let past_end : post_of n (length a - n) a ≡ [] = drop_of_length-le (drop n a) (omega (arith, length-drop n a)) in
    let is : put_mid n (length a - n) a y ≡ take n a ++ (x ++ rest) =
    rw (written, whole, past_end, append-nil (x ++ rest)) refl in
    let size : length (take n a) ≡ n = length-take-le n a inside in
    let first : take (n + d) (take n a ++ (x ++ rest)) ≡ take n a ++ x =
    ap (λ k. take (k + d) (take n a ++ (x ++ rest))) (sym size) ∙ take-append-add (take n a) (x ++ rest) d
    ∙ ap (λ k. take n a ++ take k (x ++ rest)) digits ∙ ap (λ l. take n a ++ l) (take-append_seam x rest) in
    let last : drop (n + d) (take n a ++ (x ++ rest)) ≡ rest =
    ap (λ k. drop (k + d) (take n a ++ (x ++ rest))) (sym size) ∙ drop-append-add (take n a) (x ++ rest) d
    ∙ ap (λ k. drop k (x ++ rest)) digits ∙ drop-append_seam x rest in
    record {
      line = ap₂ (λ p q. record { bytes = p; behind = q }) (ap (take (n + d)) is ∙ first) (ap (drop (n + d)) is ∙ last);
      room = room;
    }

-- Lines as the code has them. The area is what is written and what is behind.
pub area_parts : {N : ℕ} (l : Line N) → area_in l ≡ area (written_in l)
area_parts l = sym (take-append-drop l.written l.area.now)

-- such a line writes, and keeps its area
pub writes_in :
    {N : ℕ} {x : List ℕ} {l l' : Line N} → Writes x (written_in l) (written_in l') → SameArea l l' → WritesIn x l l'
writes_in w same = record { line = w.line; room = w.room; same = same }

pub as_written : {N : ℕ} {x : List ℕ} {l l' : Line N} → WritesIn x l l' → Writes x (written_in l) (written_in l')
as_written w = record { line = w.line; room = w.room }

-- the laws on `Writes` above, of such lines; `writes_behind` has bytes and places alone
pub room_left_in :
    {N : ℕ} {x : List ℕ} {l l' : Line N} → WritesIn x l l'
    → length (written_in l').behind + length x ≡ length (written_in l).behind
room_left_in w = room_left (as_written w)

pub writes_nothing_in : {N : ℕ} (l : Line N) → WritesIn [] l l
writes_nothing_in l = writes_in (writes_nothing (written_in l)) refl

pub writes_then_in :
    {N : ℕ} {x y : List ℕ} {l l' l'' : Line N} → WritesIn x l l' → WritesIn y l' l'' → WritesIn (x ++ y) l l''
writes_then_in f g = writes_in (writes_then (as_written f) (as_written g)) (g.same ∙ f.same)

pub writes_as_in : {N : ℕ} {x y : List ℕ} {l l' : Line N} → x ≡ y → WritesIn x l l' → WritesIn y l l'
writes_as_in e f = rw (← e) f

-- digits written one behind the other
pub over_byte :
    (v area line : List ℕ) (b at : ℕ) → line ≡ over v area → at ≡ length v → at < length line
    → set line at b ≡ over (v ++ b ∷ []) area
unfolding over
over_byte v area line b at is ends h =
    let d : List ℕ = drop (length v) area in
    let next : drop (suc (length v)) (v ++ d) ≡ drop (length (v ++ b ∷ [])) area =
    ap (λ (n : ℕ). drop n (v ++ d)) (sym (add-one (length v))) ∙ drop-append-add v d 1 ∙ drop-drop 1 (length v) area
    ∙ ap (λ (n : ℕ). drop n area) (sym (length-append v (b ∷ [])))
    in
    rw (is, ends)
    (set_split (v ++ d) (length v) b (rw (is, ends) at h)
    ∙ rw (take-append_seam v d, next, append_assoc))

pub over_none : (area : List ℕ) → over [] area ≡ area
unfolding over
over_none area = refl
