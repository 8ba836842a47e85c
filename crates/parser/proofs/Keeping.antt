-- What the code keeps of a reading (`Keeps`), token by token.
-- Assumes nothing.
use Prim.Native.Nat.{ℕ, ◌+◌, ◌≤◌, ◌<◌}
use mathlib.Core.Path.{◌≡◌, refl, sym, ap, ◌∙◌}
use mathlib.Core.Bool.{Bool, true, false}
use mathlib.Core.List.{List, [], ◌∷◌, ◌++◌, append_assoc, append-nil, flat_map}
use native.Mathlib.Omega.{arith}
use lib.ListN.{length, set, take, drop, length-append, length-set}
use lib.Seq.{sets, sets-eq, take-append_seam}
use Rattle.rewriting.specs.Lists.{prefix}
use Rattle.rewriting.specs.Rules.{Close, symbols_of, Rule}
use Rattle.rewriting.proofs.Lists.{prefix_rest, prefix_append, flat_map_snoc}
use Rattle.layout.specs.Image.{length_or_verdict, contents, body}
use Rattle.parser.specs.declared.Place as code
use Rattle.parser.specs.declared.Place.TheVariants as places
use Rattle.parser.specs.declared.RightKind.TheVariants as kinds
use Rattle.std.specs.Prelude.{map}
use Rattle.std.proofs.lemmas.List.{map-append}
use Rattle.std.proofs.lemmas.Grind.{take-set_at}
use Rattle.grammar.specs.Names.{Numbered, slots}
use Rattle.tokens.specs.Numbered.{slots_of}
use Rattle.grammar.specs.Grammar.{Place, Events, Between, Marked, InLeft, InRight, Ending, Reading, placed}
use Rattle.parser.specs.Held.{rule_at, place_of, left_of, side_of, kind_of, bodies_of}
use Rattle.parser.specs.Held.{Numbers, numbers_of, Keeps, Lengthens}
use Rattle.tokens.proofs.Numbering.{slots_flat}
use Rattle.parser.proofs.Places.{At, place_at}

-- what an area begins with
pub prefix-take : (p b : List ℕ) (n : ℕ) → n ≡ length p → prefix p b ≡ true → take n b ≡ p
prefix-take p b n size e = rw size (ap (take (length p)) (prefix_rest p b e) ∙ take-append_seam p (drop (length p) b))

-- an area that begins with p, with v written behind p
pub prefix-sets : (p v b : List ℕ) → prefix p b ≡ true → length p + length v ≤ length b
    → prefix (p ++ v) (sets b (length p) v) ≡ true
prefix-sets p v b e room =
    rw (sets-eq v b (length p) room, prefix-take p b (length p) refl e) (prefix_append (p ++ v) (drop (length p + length v) b))

-- The same numbers at another place, with other symbols, with other words, and behind the list of events.
abbrev pub at_place : Numbers → code.Place → Numbers
at_place r q =
    record {
      place = q;
      symbols = r.symbols;
      words = r.words;
      events = r.events;
      rules = r.rules;
      bodies = r.bodies;
      left = r.left;
      side = r.side;
      kind = r.kind;
      marked = r.marked;
    }

abbrev pub with_symbols : Numbers → ℕ → Numbers
with_symbols r count =
    record {
      place = r.place;
      symbols = count;
      words = r.words;
      events = r.events;
      rules = r.rules;
      bodies = r.bodies;
      left = r.left;
      side = r.side;
      kind = r.kind;
      marked = r.marked;
    }

abbrev pub with_words : Numbers → ℕ → Numbers
with_words r count =
    record {
      place = r.place;
      symbols = r.symbols;
      words = count;
      events = r.events;
      rules = r.rules;
      bodies = r.bodies;
      left = r.left;
      side = r.side;
      kind = r.kind;
      marked = r.marked;
    }

abbrev pub behind_events : Numbers → Numbers
behind_events r =
    record {
      place = places.Between;
      symbols = r.symbols;
      words = r.words;
      events = r.symbols;
      rules = r.rules;
      bodies = r.bodies;
      left = r.left;
      side = r.side;
      kind = r.kind;
      marked = r.marked;
    }

-- The numbers, one by one.
module _ (s : Reading) {r : Numbers} (e : r ≡ numbers_of s) where
  pub place_number : r.place ≡ place_of s.place
  unfolding numbers_of
  place_number = ap (λ (x : Numbers). x.place) e

  pub symbols_number : r.symbols ≡ length s.symbols
  unfolding numbers_of
  symbols_number = ap (λ (x : Numbers). x.symbols) e

  pub words_number : r.words ≡ length s.words
  unfolding numbers_of
  words_number = ap (λ (x : Numbers). x.words) e

  pub events_number : r.events ≡ s.events
  unfolding numbers_of
  events_number = ap (λ (x : Numbers). x.events) e

  pub rules-number : r.rules ≡ length s.rules
  unfolding numbers_of
  rules-number = ap (λ (x : Numbers). x.rules) e

  pub bodies_number : r.bodies ≡ length (bodies_of s)
  unfolding numbers_of
  bodies_number = ap (λ (x : Numbers). x.bodies) e

  pub left_number : r.left ≡ left_of s.place
  unfolding numbers_of
  left_number = ap (λ (x : Numbers). x.left) e

  pub side_number : r.side ≡ side_of s.place
  unfolding numbers_of
  side_number = ap (λ (x : Numbers). x.side) e

  pub kind-number : r.kind ≡ kind_of (rule_at s.place).right
  unfolding numbers_of
  kind-number = ap (λ (x : Numbers). x.kind) e

  pub mark-told : r.marked ≡ (rule_at s.place).marked
  unfolding numbers_of
  mark-told = ap (λ (x : Numbers). x.marked) e

-- Those of the rule begun, where the place is p.
module _ (s : Reading) {r : Numbers} (e : r ≡ numbers_of s) {p : Place} (here : s.place ≡ p) where
  pub bodies_at : r.bodies ≡ length (flat_map body s.rules ++ body (rule_at p))
  bodies_at = bodies_number s e ∙ ap (λ (q : Place). length (flat_map body s.rules ++ body (rule_at q))) here

  pub left_at : r.left ≡ left_of p
  left_at = left_number s e ∙ ap left_of here

  pub side_at : r.side ≡ side_of p
  side_at = side_number s e ∙ ap side_of here

  pub kind_at : r.kind ≡ kind_of (rule_at p).right
  kind_at = kind-number s e ∙ ap (λ (q : Place). kind_of (rule_at q).right) here

  pub mark_at : r.marked ≡ (rule_at p).marked
  mark_at = mark-told s e ∙ ap (λ (q : Place). (rule_at q).marked) here

-- the rule begun is the same at both places
pub record Alike (p q : Place) : Type 0 where
  pub left : left_of p ≡ left_of q
  pub side : side_of p ≡ side_of q
  pub kinds : kind_of (rule_at p).right ≡ kind_of (rule_at q).right
  pub marks : (rule_at p).marked ≡ (rule_at q).marked
  pub bodies : body (rule_at p) ≡ body (rule_at q)

module _ {s : Reading} {r : Numbers} {a b c : List (List ℕ)} {d : List ℕ} (k : Keeps s r a b c d) where
  -- at another place
  pub keeps_placed :
      (q : Place) → Alike s.place q
      → Keeps (placed s q)
      (at_place r (place_of q)) a b c d
  unfolding placed numbers_of
  keeps_placed q h =
      let old : List ℕ = flat_map body s.rules in
      record {
        numbers =
            λ i.
            record {
              place = place_of q;
              symbols = symbols_number s k.numbers i;
              words = words_number s k.numbers i;
              events = events_number s k.numbers i;
              rules = rules-number s k.numbers i;
              bodies = (bodies_number s k.numbers ∙ ap (λ (v : List ℕ). length (old ++ v)) h.bodies) i;
              left = (left_number s k.numbers ∙ h.left) i;
              side = (side_number s k.numbers ∙ h.side) i;
              kind = (kind-number s k.numbers ∙ h.kinds) i;
              marked = (mark-told s k.numbers ∙ h.marks) i;
            };
        symbol-slots = k.symbol-slots;
        word-slots = k.word-slots;
        contents_begin = k.contents_begin;
        contents_size_lem = k.contents_size_lem;
        bodies_begin = rw h.bodies at k.bodies_begin;
        bodies_size_lem = k.bodies_size_lem;
      }

  -- one symbol more in a side
  pub keeps_longer :
      {side : List ℕ} {to : List ℕ → Place} {q : _} (n : Numbered) (number count : ℕ) (area : List (List ℕ))
      → Lengthens s.place side to q → number ≡ n.number → count ≡ length n.names → area ≡ slots_of 32 n.names
      → r.bodies < length d
      → Keeps
      (record {
        symbols = n.names;
        words = s.words;
        events = s.events;
        rules = s.rules;
        place = to (side ++ n.number ∷ []);
      })
      (record {
        place = q;
        symbols = count;
        words = r.words;
        events = r.events;
        rules = r.rules;
        bodies = r.bodies + 1;
        left = r.left;
        side = r.side + 1;
        kind = r.kind;
        marked = r.marked;
      }) area b c (set d r.bodies number)
  unfolding numbers_of
  keeps_longer {side} {to} {q} n number count area h at_number at_count at_area room =
      let x : ℕ = n.number in
      let old : List ℕ = flat_map body s.rules in
      let longer : old ++ body (rule_at (to (side ++ x ∷ []))) ≡ bodies_of s ++ x ∷ [] =
      ap (λ (v : List ℕ). old ++ v) (h.more x) ∙ sym (append_assoc old (body (rule_at s.place)) (x ∷ []))
      in
      let size : r.bodies + 1 ≡ length (old ++ body (rule_at (to (side ++ x ∷ [])))) =
      rw (longer, length-append) (omega (arith, bodies_number s k.numbers))
      in
      let side_size : r.side + 1 ≡ side_of (to (side ++ x ∷ [])) =
      rw (h.longer x) (omega (arith, side_number s k.numbers, h.size))
      in
      record {
        numbers =
            λ i.
            record {
              place = sym (h.called x) i;
              symbols = at_count i;
              words = words_number s k.numbers i;
              events = events_number s k.numbers i;
              rules = rules-number s k.numbers i;
              bodies = size i;
              left = (left_number s k.numbers ∙ sym (h.left x)) i;
              side = side_size i;
              kind = (kind-number s k.numbers ∙ sym (h.kinds x)) i;
              marked = (mark-told s k.numbers ∙ sym (h.marks x)) i;
            };
        symbol-slots = at_area;
        word-slots = k.word-slots;
        contents_begin = k.contents_begin;
        contents_size_lem = k.contents_size_lem;
        bodies_begin =
            rw (longer, at_number, bodies_number s k.numbers)
            (prefix-sets (bodies_of s) (x ∷ []) d k.bodies_begin (omega (arith, bodies_number s k.numbers)));
        bodies_size_lem = length-set d r.bodies number ∙ k.bodies_size_lem;
      }

  -- one event more
  pub keeps_event :
      (n : Numbered) (count : ℕ) (area : List (List ℕ)) → s.place ≡ Events → count ≡ length n.names → area ≡ slots_of 32 n.names
      → Keeps
      (record { symbols = n.names; words = s.words; events = s.events; rules = s.rules; place = Events })
      (with_symbols r count) area b c d
  unfolding numbers_of
  keeps_event n count area here at_count at_area =
      record {
        numbers =
            λ i.
            record {
              place = (place_number s k.numbers ∙ ap place_of here) i;
              symbols = at_count i;
              words = words_number s k.numbers i;
              events = events_number s k.numbers i;
              rules = rules-number s k.numbers i;
              bodies = bodies_at s k.numbers here i;
              left = left_at s k.numbers here i;
              side = side_at s k.numbers here i;
              kind = kind_at s k.numbers here i;
              marked = mark_at s k.numbers here i;
            };
        symbol-slots = at_area;
        word-slots = k.word-slots;
        contents_begin = k.contents_begin;
        contents_size_lem = k.contents_size_lem;
        bodies_begin = rw here at k.bodies_begin;
        bodies_size_lem = k.bodies_size_lem;
      }

  -- behind `->`
  pub keeps_arrow :
      (m : Bool) (l : List ℕ) → s.place ≡ InLeft m l
      → Keeps (placed s (InRight m l []))
      (record {
        place = places.Right;
        symbols = r.symbols;
        words = r.words;
        events = r.events;
        rules = r.rules;
        bodies = r.bodies;
        left = r.side;
        side = 0;
        kind = r.kind;
        marked = r.marked;
      }) a b c d
  unfolding placed numbers_of place_of left_of side_of rule_at
  keeps_arrow m l here =
      record {
        numbers =
            λ i.
            record {
              place = places.Right;
              symbols = symbols_number s k.numbers i;
              words = words_number s k.numbers i;
              events = events_number s k.numbers i;
              rules = rules-number s k.numbers i;
              bodies = bodies_at s k.numbers here i;
              left = side_at s k.numbers here i;
              side = 0;
              kind = kind_at s k.numbers here i;
              marked = mark_at s k.numbers here i;
            };
        symbol-slots = k.symbol-slots;
        word-slots = k.word-slots;
        contents_begin = k.contents_begin;
        contents_size_lem = k.contents_size_lem;
        bodies_begin = rw here at k.bodies_begin;
        bodies_size_lem = k.bodies_size_lem;
      }

  -- behind `^`
  pub keeps_mark :
      s.place ≡ Between
      → Keeps (placed s Marked)
      (record {
        place = places.Marked;
        symbols = r.symbols;
        words = r.words;
        events = r.events;
        rules = r.rules;
        bodies = r.bodies;
        left = r.left;
        side = r.side;
        kind = r.kind;
        marked = true;
      }) a b c d
  unfolding placed numbers_of place_of left_of side_of rule_at body
  keeps_mark here =
      record {
        numbers =
            λ i.
            record {
              place = places.Marked;
              symbols = symbols_number s k.numbers i;
              words = words_number s k.numbers i;
              events = events_number s k.numbers i;
              rules = rules-number s k.numbers i;
              bodies = bodies_at s k.numbers here i;
              left = left_at s k.numbers here i;
              side = side_at s k.numbers here i;
              kind = kind_at s k.numbers here i;
              marked = true;
            };
        symbol-slots = k.symbol-slots;
        word-slots = k.word-slots;
        contents_begin = k.contents_begin;
        contents_size_lem = k.contents_size_lem;
        bodies_begin = rw here at k.bodies_begin;
        bodies_size_lem = k.bodies_size_lem;
      }

  -- behind a word that is the verdict n
  pub keeps_verdict :
      (m : Bool) (l : List ℕ) (n : Numbered) (number count : ℕ) (area : List (List ℕ)) → s.place ≡ InRight m l []
      → number ≡ n.number → count ≡ length n.names → area ≡ slots_of 16 n.names
      → Keeps
      (record {
        symbols = s.symbols;
        words = n.names;
        events = s.events;
        rules = s.rules;
        place = Ending m l (Close n.number);
      })
      (record {
        place = places.Ending;
        symbols = r.symbols;
        words = count;
        events = r.events;
        rules = r.rules;
        bodies = r.bodies;
        left = r.left;
        side = number;
        kind = kinds.Close;
        marked = r.marked;
      }) a area c d
  unfolding numbers_of place_of left_of side_of rule_at kind_of length_or_verdict body symbols_of
  keeps_verdict m l n number count area here at_number at_count at_area =
      record {
        numbers =
            λ i.
            record {
              place = places.Ending;
              symbols = symbols_number s k.numbers i;
              words = at_count i;
              events = events_number s k.numbers i;
              rules = rules-number s k.numbers i;
              bodies = bodies_at s k.numbers here i;
              left = left_at s k.numbers here i;
              side = at_number i;
              kind = kinds.Close;
              marked = mark_at s k.numbers here i;
            };
        symbol-slots = k.symbol-slots;
        word-slots = at_area;
        contents_begin = k.contents_begin;
        contents_size_lem = k.contents_size_lem;
        bodies_begin = rw here at k.bodies_begin;
        bodies_size_lem = k.bodies_size_lem;
      }

  -- the list of events is closed
  pub keeps_events :
      s.place ≡ Events
      → Keeps
      (record {
        symbols = s.symbols;
        words = s.words;
        events = length s.symbols;
        rules = s.rules;
        place = Between;
      })
      (behind_events r) a b c d
  unfolding numbers_of place_of left_of side_of rule_at
  keeps_events here =
      record {
        numbers =
            λ i.
            record {
              place = places.Between;
              symbols = symbols_number s k.numbers i;
              words = words_number s k.numbers i;
              events = symbols_number s k.numbers i;
              rules = rules-number s k.numbers i;
              bodies = bodies_at s k.numbers here i;
              left = left_at s k.numbers here i;
              side = side_at s k.numbers here i;
              kind = kind_at s k.numbers here i;
              marked = mark_at s k.numbers here i;
            };
        symbol-slots = k.symbol-slots;
        word-slots = k.word-slots;
        contents_begin = k.contents_begin;
        contents_size_lem = k.contents_size_lem;
        bodies_begin = rw here at k.bodies_begin;
        bodies_size_lem = k.bodies_size_lem;
      }

  -- one rule more: its contents
  pub keeps_rule :
      (row : List ℕ) → row ≡ contents (rule_at s.place) → r.rules < length c
      → Keeps
      (record {
        symbols = s.symbols;
        words = s.words;
        events = s.events;
        rules = s.rules ++ rule_at s.place ∷ [];
        place = Between;
      })
      (record {
        place = places.Between;
        symbols = r.symbols;
        words = r.words;
        events = r.events;
        rules = r.rules + 1;
        bodies = r.bodies;
        left = 0;
        side = 0;
        kind = kinds.Put;
        marked = false;
      }) a b (set c r.rules row) d
  unfolding numbers_of place_of left_of side_of kind_of rule_at body symbols_of
  keeps_rule row written room =
      let old : List Rule = s.rules in
      let new : Rule = rule_at s.place in
      let all_bodies : bodies_of s ≡ flat_map body (old ++ new ∷ []) ++ body (rule_at Between) =
      sym (append-nil (flat_map body (old ++ new ∷ [])) ∙ flat_map_snoc body old new)
      in
      let size : r.rules + 1 ≡ length (old ++ new ∷ []) = rw length-append (omega (arith, rules-number s k.numbers)) in
      let first : take r.rules c ≡ map contents old =
      ap (λ (n : ℕ). take n c) (rules-number s k.numbers) ∙ k.contents_begin
      in
      record {
        numbers =
            λ i.
            record {
              place = places.Between;
              symbols = symbols_number s k.numbers i;
              words = words_number s k.numbers i;
              events = events_number s k.numbers i;
              rules = size i;
              bodies = (bodies_number s k.numbers ∙ ap length all_bodies) i;
              left = 0;
              side = 0;
              kind = kinds.Put;
              marked = false;
            };
        symbol-slots = k.symbol-slots;
        word-slots = k.word-slots;
        contents_begin =
            take-set_at c r.rules (length (old ++ new ∷ [])) row (sym size) room
            ∙ rw (first, written) (sym (map-append contents old (new ∷ [])));
        contents_size_lem = length-set c r.rules row ∙ k.contents_size_lem;
        bodies_begin = rw (← all_bodies) k.bodies_begin;
        bodies_size_lem = k.bodies_size_lem;
      }

-- the place, where the code's is q
pub here_at : {s : Reading} {r : Numbers} {a b c : List (List ℕ)} {d : List ℕ} (k : Keeps s r a b c d) (q : code.Place)
    → r.place ≡ q → At q s.place
here_at {s} k q e = place_at q s.place (sym (place_number s k.numbers) ∙ e)

-- the bytes of the slots
pub symbol_bytes : {s : Reading} {r : Numbers} {a b c : List (List ℕ)} {d : List ℕ} → Keeps s r a b c d
    → flat_map (λ (x : List ℕ). x) a ≡ slots 32 s.symbols
symbol_bytes {s} k = ap (flat_map (λ (x : List ℕ). x)) k.symbol-slots ∙ slots_flat 32 s.symbols

pub word_bytes : {s : Reading} {r : Numbers} {a b c : List (List ℕ)} {d : List ℕ} → Keeps s r a b c d
    → flat_map (λ (x : List ℕ). x) b ≡ slots 16 s.words
word_bytes {s} k = ap (flat_map (λ (x : List ℕ). x)) k.word-slots ∙ slots_flat 16 s.words
