-- What the code answers to a token is what the grammar makes of it (`TakenIs`), case by case.
-- Assumes nothing.
use Prim.Native.Nat.{ℕ, ◌+◌, ◌≤◌, ◌<◌}
use mathlib.Core.Path.{◌≡◌, refl, sym, ap, ◌∙◌}
use mathlib.Core.Bool.{Bool, true, false, cond}
use Rattle.std.specs.Prelude.{Option, None, Some, Result, Ok, Err}
use mathlib.Core.List.{List, [], ◌∷◌, ◌++◌, append-nil, append_assoc}
use native.Mathlib.Omega.{arith}
use lib.Dec.{ltb}
use lib.ListN.{length, set, length-append}
use borrow.Author.Tests.{lt-ltb, le-ltb, ltb-true, ltb-false}
use Rattle.std.specs.Option.{ok_or}
use Rattle.std.specs.Result.{IsErrAnd}
use Rattle.std.proofs.lemmas.Result.{err_from_is_err_and}
use Rattle.rewriting.specs.Lists.{same}
use Rattle.rewriting.specs.Rules.{Right, Put, Close, symbols_of, Rule}
use Rattle.layout.specs.Image.{kind, length_or_verdict, mark_byte, contents, body}
use Rattle.parser.specs.declared.Place as code
use Rattle.parser.specs.declared.Place.TheVariants as places
use Rattle.parser.specs.declared.RightKind.TheVariants as kinds
use Rattle.layout.specs.declared.Refusal.{Refusal}
use Rattle.grammar.specs.Names.{number_of, Numbered, or_new, numbered}
use Rattle.grammar.specs.Grammar.{
  Place,
  First,
  Events,
  Between,
  Marked,
  InLeft,
  InRight,
  Ending,
  Reading,
  Taken,
  events_word,
  epsilon_word,
  placed,
  with_symbol,
  symbol,
  event,
  side_symbol,
  first_symbol,
  name,
  with_verdict,
  right_word,
  word,
  arrow,
  mark,
  close_events,
  rule_with,
  close_rule,
  stop,
}
use Rattle.parser.specs.Held.{rule_at, place_of, left_of, side_of, kind_of, byte_of}
use Rattle.parser.specs.Held.{Numbers, Keeps, Held, MayBegin, LeadsTo, Lengthens, MayClose, Closed}
use Rattle.parser.specs.Reads.{TakenIs}
use Rattle.tokens.specs.Numbered.{slots_of, NumberedIs}
use Rattle.grammar.specs.Tokens.{is_name}
use Rattle.grammar.proofs.Sound.{number-below, KeepsSound, sound_name}
use Rattle.parser.proofs.Keeping.{
  at_place,
  with_symbols,
  with_words,
  behind_events,
  here_at,
  left_number,
  words_number,
  kind-number,
  mark-told,
  keeps_rule,
  place_number,
  symbols_number,
  rules-number,
  side_number,
  side_at,
  keeps_placed,
  keeps_longer,
  keeps_event,
  keeps_arrow,
  keeps_mark,
  keeps_verdict,
  keeps_events,
}

-- what a `?` behind `ok_or` answers
pub err_by : {A B : Type 0} (o : Option A) (r : Result B Refusal) (m e : Refusal) → IsErrAnd r (λ y. y ≡ m)
    → ◌≡◌ {A = Result A Refusal} (Err m) (ok_or o e) → r ≡ Err e
err_by None r m e back value = let b = err_from_is_err_and r back in let p : m ≡ e = cc in b.1 ∙ ap Err (b.2 ∙ p)
err_by (Some x) r m e back value = let z : ◌≡◌ {A = ℕ} 0 1 = cc in absurd (omega arith)

-- the name x has a number, and the code has it, with how many names there are then and their slots
pub record HasNumber (most : ℕ) (names : List (List ℕ)) (x : List ℕ) (number count : ℕ) (slots : List (List ℕ)) : Type 0 where
  pub is : Numbered
  pub found : numbered most names x ≡ Some is
  pub at_number : number ≡ is.number
  pub at_count : count ≡ length is.names
  pub at_slots : slots ≡ slots_of most is.names

-- A name's number as the code has it.
module _ (most : ℕ) (names : List (List ℕ)) (x : List ℕ) (count : ℕ) (slots : List (List ℕ)) where
  -- all names and slots are as they were
  abbrev pub AsBefore : Type 0
  AsBefore = (count ≡ length names) × (slots ≡ slots_of most names)

  module _ (h : NumberedIs most names (numbered most names x) None count slots) where
    -- no number: a name too many
    pub too_many : numbered most names x ≡ None
    too_many = go (numbered most names x) refl h
      where
        go : (o : Option Numbered) → numbered most names x ≡ o → NumberedIs most names o None count slots
            → numbered most names x ≡ None
        go None e g = e
        go (Some m) e g = absurd g

    pub too_many_kept : AsBefore
    too_many_kept = go (numbered most names x) h
      where
        go : (o : Option Numbered) → NumberedIs most names o None count slots → AsBefore
        go None g = g
        go (Some m) g = absurd g

    -- which is new
    pub too_many_new : number_of names x ≡ None
    unfolding numbered or_new
    too_many_new = go (number_of names x) refl h
      where
        go : (o : Option ℕ) → number_of names x ≡ o → NumberedIs most names (or_new most names x o) None count slots
            → number_of names x ≡ None
        go None e g = e
        go (Some i) e g = absurd g

  module _ (number : ℕ) (is : NumberedIs most names (numbered most names x) (Some number) count slots) where
    -- a number, and the names with it
    pub has_number : HasNumber most names x number count slots
    has_number = go (numbered most names x) refl is
      where
        go : (o : Option Numbered) → numbered most names x ≡ o → NumberedIs most names o (Some number) count slots
            → HasNumber most names x number count slots
        go None e g = absurd g
        go (Some m) e g = record { is = m; found = e; at_number = g.0; at_count = g.1; at_slots = g.2 }

    -- what the number of one name more would be
    no_less : (b : Bool)
        → NumberedIs most names
        (cond b (Some (record { number = length names; names = names ++ x ∷ [] })) None)
        (Some number)
        count
        slots
        → length names ≤ number
    no_less true g = omega (arith, g.0)
    no_less false g = absurd g

    module _ (low : number < length names) where
      -- a number below that of the names is one of theirs
      pub old_number : (i : ℕ) × (number_of names x ≡ Some i)
      unfolding numbered or_new
      old_number = go (number_of names x) refl is
        where
          go : (o : Option ℕ) → number_of names x ≡ o → NumberedIs most names (or_new most names x o) (Some number) count slots
              → (i : ℕ) × (number_of names x ≡ Some i)
          go None e g = absurd (omega (arith, no_less (ltb (length names) most) g, low))
          go (Some i) e g = (i, e)

      pub old_kept : AsBefore
      unfolding numbered or_new
      old_kept = go (number_of names x) is
        where
          go : (o : Option ℕ) → NumberedIs most names (or_new most names x o) (Some number) count slots → AsBefore
          go None g = absurd (omega (arith, no_less (ltb (length names) most) g, low))
          go (Some i) g = (g.1, g.2)

    -- and one that is not is new
    pub new_number : length names ≤ number → number_of names x ≡ None
    unfolding numbered or_new
    new_number high = go (number_of names x) refl is
      where
        go : (o : Option ℕ) → number_of names x ≡ o → NumberedIs most names (or_new most names x o) (Some number) count slots
            → number_of names x ≡ None
        go None e g = e
        go (Some i) e g = absurd (omega (arith, g.0, number-below names x i e, high))

module _ {s : Reading} {r : Numbers} {a b c : List (List ℕ)} {d : List ℕ} (k : Keeps s r a b c d) where
  -- The first token.
  pub first_events : (x : List ℕ) → s.place ≡ First → same x events_word ≡ true
      → TakenIs (name s x s.place) (Ok tt) (at_place r places.Events) a b c d
  unfolding name placed place_of left_of side_of rule_at
  first_events x here e =
      rw (here, e)
      (keeps_placed k Events
      (rw here (record { left = refl; side = refl; kinds = refl; marks = refl; bodies = refl })))

  pub first_other : (x : List ℕ) → s.place ≡ First → same x events_word ≡ false
      → TakenIs (name s x s.place) (Err Refusal.Misplaced) r a b c d
  unfolding name
  first_other x here e = rw (here, e) refl

  -- The list of events.
  module _ (x : List ℕ) (count : ℕ) (area : List (List ℕ)) (here : s.place ≡ Events) where
    pub event_33 : NumberedIs 32 s.symbols (numbered 32 s.symbols x) None count area → (r' : Numbers)
        → TakenIs (name s x s.place) (Err Refusal.TooMany) r' area b c d
    unfolding name event symbol with_symbol
    event_33 is r' = rw (here, too_many_new 32 s.symbols x count area is, too_many 32 s.symbols x count area is) refl

    module _ (number : ℕ) (is : NumberedIs 32 s.symbols (numbered 32 s.symbols x) (Some number) count area) where
      pub event_twice : number < r.symbols → (r' : Numbers) → TakenIs (name s x s.place) (Err Refusal.Repeated) r' area b c d
      unfolding name event
      event_twice low r' =
          let old = old_number 32 s.symbols x count area number is (omega (arith, symbols_number s k.numbers)) in
          rw (here, old.1) refl

      pub event_new : r.symbols ≤ number
          → TakenIs (name s x s.place) (Ok tt) (with_symbols r count) area b c d
      unfolding name event symbol with_symbol
      event_new high =
          let m = has_number 32 s.symbols x count area number is in
          let new : number_of s.symbols x ≡ None =
          new_number 32 s.symbols x count area number is (omega (arith, symbols_number s k.numbers)) in
          rw (here, new, m.found) (keeps_event k m.is count area here m.at_count m.at_slots)

  -- A symbol of a side.
  module _ (x side : List ℕ) (to : List ℕ → Place) where
    pub ninth : side_of s.place ≡ length side → 8 ≤ r.side → TakenIs (side_symbol s x side to) (Err Refusal.TooMany) r a b c d
    unfolding side_symbol
    ninth size full = rw (le-ltb (length side) 8 (omega (arith, side_number s k.numbers))) refl

    module _ {q : code.Place} (h : Lengthens s.place side to q) (count : ℕ) (area : List (List ℕ)) (room : r.side < 8) where
      short : ltb (length side) 8 ≡ true
      short = lt-ltb (length side) 8 (omega (arith, side_number s k.numbers, h.size))

      pub symbol_33 : NumberedIs 32 s.symbols (numbered 32 s.symbols x) None count area → (r' : Numbers)
          → TakenIs (side_symbol s x side to) (Err Refusal.TooMany) r' area b c d
      unfolding side_symbol symbol with_symbol
      symbol_33 is r' = rw (short, too_many 32 s.symbols x count area is) refl

      pub side_longer : (number : ℕ) → NumberedIs 32 s.symbols (numbered 32 s.symbols x) (Some number) count area
          → r.bodies < length d
          → TakenIs (side_symbol s x side to)
          (Ok tt)
          (record {
            place = q;
            symbols = count;
            words = r.words;
            events = r.events;
            rules = r.rules;
            bodies = r.bodies + 1;
            left = r.left;
            side = r.side + 1;
            kind = r.kind;
            marked = r.marked;
          }) area b c (set d r.bodies number)
      unfolding side_symbol symbol with_symbol
      side_longer number is inside =
          let m = has_number 32 s.symbols x count area number is in
          rw (short, m.found) (keeps_longer k m.is number count area h m.at_number m.at_count m.at_slots inside)

  -- A rule's first name, with a mark or without.
  module _ (x : List ℕ) (m : Bool) where
    pub rule_65 : 64 ≤ r.rules → TakenIs (first_symbol s x m) (Err Refusal.TooMany) r a b c d
    unfolding first_symbol
    rule_65 full = rw (le-ltb (length s.rules) 64 (omega (arith, rules-number s k.numbers))) refl

    pub few_rules : r.rules < 64 → first_symbol s x m ≡ side_symbol s x [] (InLeft m)
    unfolding first_symbol
    few_rules few = rw (lt-ltb (length s.rules) 64 (omega (arith, rules-number s k.numbers)))

  -- Behind `->`.
  module _ (m : Bool) (l v : List ℕ) (here : s.place ≡ InRight m l v) where
    -- the side is empty where the code says so
    open_side : r.side ≡ length v
    unfolding side_of
    open_side = side_at s k.numbers here

    -- the side that the code has no symbol of
    empty_side : r.side ≡ 0 → s.place ≡ InRight m l []
    empty_side none_yet = here ∙ ap (InRight m l) (go v (sym open_side ∙ none_yet))
      where
        go : (w : List ℕ) → length w ≡ 0 → w ≡ []
        go [] e = refl
        go (y ∷ w) e = absurd (omega arith)

    -- the side that the code has some symbol of
    some_side : (r.side ≡ 0 → ⊥) → length v ≡ 0 → ⊥
    some_side some_yet e = some_yet (open_side ∙ e)

    -- a `.` behind `->`
    pub stop-empty : r.side ≡ 0 → TakenIs (stop s s.place) (Err Refusal.Misplaced) r a b c d
    unfolding stop
    stop-empty none_yet = rw (empty_side none_yet) refl

    -- the rule is closed
    pub stop_right : (r.side ≡ 0 → ⊥) → stop s s.place ≡ close_rule s (rule_at s.place)
    unfolding stop rule_at
    stop_right some_yet =
        ap (stop s) here ∙ go v (some_side some_yet) ∙ ap (λ (p : Place). close_rule s (rule_at p)) (sym here)
      where
        go : (w : List ℕ) → (length w ≡ 0 → ⊥) → stop s (InRight m l w) ≡ close_rule s (rule_with m l (Put w))
        go [] Some_of = absurd (Some_of refl)
        go (y ∷ w) Some_of = refl

    -- A `#` word as a right side.
    module _ (x : List ℕ) where
      pub word_behind : (r.side ≡ 0 → ⊥) → TakenIs (word s x s.place) (Err Refusal.Misplaced) r a b c d
      unfolding word
      word_behind some_yet = rw (ap (word s x) here) (go v (some_side some_yet))
        where
          go : (w : List ℕ) → (length w ≡ 0 → ⊥) → TakenIs (word s x (InRight m l w)) (Err Refusal.Misplaced) r a b c d
          go [] Some_of = absurd (Some_of refl)
          go (y ∷ w) Some_of = refl

      pub word_epsilon : r.side ≡ 0 → same x epsilon_word ≡ true
          → TakenIs (word s x s.place) (Ok tt) (at_place r places.Ending) a b c d
      unfolding word right_word placed place_of left_of side_of kind_of rule_at length_or_verdict
      word_epsilon none_yet e =
          rw (empty_side none_yet, e)
          (keeps_placed k (Ending m l (Put []))
          (rw (empty_side none_yet) (record { left = refl; side = refl; kinds = refl; marks = refl; bodies = refl })))

      module _ (none_yet : r.side ≡ 0) (other : same x epsilon_word ≡ false) (count : ℕ) (area : List (List ℕ)) where
        pub word_17 : NumberedIs 16 s.words (numbered 16 s.words x) None count area → (r' : Numbers)
            → TakenIs (word s x s.place) (Err Refusal.TooMany) r' a area c d
        unfolding word right_word with_verdict
        word_17 is r' = rw (empty_side none_yet, other, too_many 16 s.words x count area is) refl

        pub word_verdict : (number : ℕ) → NumberedIs 16 s.words (numbered 16 s.words x) (Some number) count area
            → TakenIs (word s x s.place)
            (Ok tt)
            (record {
              place = places.Ending;
              symbols = r.symbols;
              words = count;
              events = r.events;
              rules = r.rules;
              bodies = r.bodies;
              left = r.left;
              side = number;
              kind = kinds.Close;
              marked = r.marked;
            }) a area c d
        unfolding word right_word with_verdict
        word_verdict number is =
            let w = has_number 16 s.words x count area number is in
            rw (empty_side none_yet, other, w.found)
            (keeps_verdict k m l w.is number count area (empty_side none_yet) w.at_number w.at_count w.at_slots)

  -- `->`
  pub arrow_left : (m : Bool) (l : List ℕ) → s.place ≡ InLeft m l
      → TakenIs (arrow s s.place)
      (Ok tt)
      (record {
        place = places.Right;
        symbols = r.symbols;
        words = r.words;
        events = r.events;
        rules = r.rules;
        bodies = r.bodies;
        left = r.side;
        side = 0;
        kind = r.kind;
        marked = r.marked;
      }) a b c d
  unfolding arrow placed
  arrow_left m l here = rw here (keeps_arrow k m l here)

  -- `^`
  pub mark-between : s.place ≡ Between
      → TakenIs (mark s s.place)
      (Ok tt)
      (record {
        place = places.Marked;
        symbols = r.symbols;
        words = r.words;
        events = r.events;
        rules = r.rules;
        bodies = r.bodies;
        left = r.left;
        side = r.side;
        kind = r.kind;
        marked = true;
      }) a b c d
  unfolding mark placed
  mark-between here = rw here (keeps_mark k here)

  -- The end of the list of events.
  pub no_events : s.place ≡ Events → r.symbols ≡ 0 → TakenIs (stop s s.place) (Err Refusal.Misplaced) r a b c d
  unfolding stop close_events
  no_events here none_yet = rw (ap (stop s) here) (go s.symbols (sym (symbols_number s k.numbers) ∙ none_yet))
    where
      go : (names : List (List ℕ)) → length names ≡ 0 → TakenIs (close_events s names) (Err Refusal.Misplaced) r a b c d
      go [] e = refl
      go (y ∷ names) e = absurd (omega arith)

  pub some_events : s.place ≡ Events → (r.symbols ≡ 0 → ⊥)
      → TakenIs (stop s s.place) (Ok tt) (behind_events r) a b c d
  unfolding stop close_events
  some_events here some_yet = rw (ap (stop s) here) (go s.symbols (λ e. some_yet (symbols_number s k.numbers ∙ e)))
    where
      go : (names : List (List ℕ)) → (length names ≡ 0 → ⊥)
          → TakenIs (close_events s names) (Ok tt) (behind_events r) a b c d
      go [] e = absurd (e refl)
      go (y ∷ names) e = keeps_events k here

-- The sides of a rule that the next symbol goes to.

pub first_left : (p : Place) → p ≡ Between → Lengthens p [] (InLeft false) places.Left
unfolding left_of side_of rule_at place_of kind_of body symbols_of
first_left p e =
    rw e
    (record {
      size = refl;
      left = λ x. refl;
      longer = λ x. refl;
      kinds = λ x. refl;
      marks = λ x. refl;
      more = λ x. refl;
      called = λ x. refl;
    })

pub marked_left : (p : Place) → p ≡ Marked → Lengthens p [] (InLeft true) places.Left
unfolding left_of side_of rule_at place_of kind_of body symbols_of
marked_left p e =
    rw e
    (record {
      size = refl;
      left = λ x. refl;
      longer = λ x. refl;
      kinds = λ x. refl;
      marks = λ x. refl;
      more = λ x. refl;
      called = λ x. refl;
    })

pub next_left : (p : Place) (m : Bool) (l : List ℕ) → p ≡ InLeft m l → Lengthens p l (InLeft m) places.Left
unfolding left_of side_of rule_at place_of kind_of body symbols_of
next_left p m l e =
    rw e
    (record {
      size = refl;
      left = λ x. refl;
      longer = λ x. length-append l (x ∷ []);
      kinds = λ x. refl;
      marks = λ x. refl;
      more = λ x. append-nil (l ++ x ∷ []) ∙ ap (λ (v : List ℕ). v ++ x ∷ []) (sym (append-nil l));
      called = λ x. refl;
    })

pub next_right : (p : Place) (m : Bool) (l v : List ℕ) → p ≡ InRight m l v → Lengthens p v (InRight m l) places.Right
unfolding left_of side_of rule_at place_of kind_of body symbols_of
next_right p m l v e =
    rw e
    (record {
      size = refl;
      left = λ x. refl;
      longer = λ x. length-append v (x ∷ []);
      kinds = λ x. refl;
      marks = λ x. refl;
      more = λ x. sym (append_assoc l v (x ∷ []));
      called = λ x. refl;
    })

-- both sides are known
pub closed_right : (p : Place) (m : Bool) (l v : List ℕ) → p ≡ InRight m l v → Closed p
unfolding left_of side_of rule_at length_or_verdict
closed_right p m l v e = rw e (record { left = refl; right = refl })

pub closed_ending : (p : Place) (m : Bool) (l : List ℕ) (x : Right) → p ≡ Ending m l x → Closed p
unfolding left_of side_of rule_at
closed_ending p m l x e = rw e (record { left = refl; right = refl })

pub stop-ending :
    (s : Reading) (m : Bool) (l : List ℕ) (x : Right) → s.place ≡ Ending m l x
    → stop s s.place ≡ close_rule s (rule_at s.place)
unfolding stop rule_at close_rule
stop-ending s m l x e = rw e refl

-- A name, by its place.
module _ (s : Reading) (x : List ℕ) where
  pub name-between : s.place ≡ Between → name s x s.place ≡ first_symbol s x false
  unfolding name
  name-between here = ap (name s x) here

  pub name_marked : s.place ≡ Marked → name s x s.place ≡ first_symbol s x true
  unfolding name
  name_marked here = ap (name s x) here

  pub name_left : (m : Bool) (l : List ℕ) → s.place ≡ InLeft m l → name s x s.place ≡ side_symbol s x l (InLeft m)
  unfolding name
  name_left m l here = ap (name s x) here

  pub name_right : (m : Bool) (l v : List ℕ) → s.place ≡ InRight m l v → name s x s.place ≡ side_symbol s x v (InRight m l)
  unfolding name
  name_right m l v here = ap (name s x) here

  pub name-ending : (m : Bool) (l : List ℕ) (r : Right) → s.place ≡ Ending m l r → name s x s.place ≡ Err 4
  unfolding name
  name-ending m l r here = ap (name s x) here

-- A name of a side: the side, and the place behind it.
pub record InSide (s : Reading) (x : List ℕ) (q : code.Place) : Type 0 where
  pub side : List ℕ
  pub to : List ℕ → Place
  pub longer : Lengthens s.place side to q
  pub is : name s x s.place ≡ side_symbol s x side to

pub in_side : {s : Reading} {r : Numbers} {a b c : List (List ℕ)} {d : List ℕ} (k : Keeps s r a b c d) (x : List ℕ)
    (q : code.Place) → LeadsTo r.place q → r.rules < 64 → InSide s x q
unfolding place_of
in_side {s} {r} k x q leads few = go s.place refl (rw (place_number s k.numbers) at leads)
  where
    go : (p : Place) → s.place ≡ p → LeadsTo (place_of p) q → InSide s x q
    go First e l = absurd l
    go Events e l = absurd l
    go Between e l =
        rw l
        (record {
          side = [];
          to = InLeft false;
          longer = first_left s.place e;
          is = name-between s x e ∙ few_rules k x false few;
        })
    go Marked e l =
        rw l
        (record {
          side = [];
          to = InLeft true;
          longer = marked_left s.place e;
          is = name_marked s x e ∙ few_rules k x true few;
        })
    go (InLeft m v) e l =
        rw l (record { side = v; to = InLeft m; longer = next_left s.place m v e; is = name_left s x m v e })
    go (InRight m v w) e l =
        rw l (record { side = w; to = InRight m v; longer = next_right s.place m v w e; is = name_right s x m v w e })
    go (Ending m v w) e l = absurd l

-- where there are 64 rules, and the name would be the first of one more
pub name_65 : {s : Reading} {r : Numbers} {a b c : List (List ℕ)} {d : List ℕ} (k : Keeps s r a b c d) (x : List ℕ)
    → MayBegin r.place → 64 ≤ r.rules → TakenIs (name s x s.place) (Err Refusal.TooMany) r a b c d
unfolding place_of
name_65 {s} {r} {a} {b} {c} {d} k x begins full = go s.place refl (rw (place_number s k.numbers) at begins)
  where
    go : (p : Place) → s.place ≡ p → MayBegin (place_of p) → TakenIs (name s x s.place) (Err Refusal.TooMany) r a b c d
    go First e l = absurd l
    go Events e l = absurd l
    go Between e l = rw (name-between s x e) (rule_65 k x false full)
    go Marked e l = rw (name_marked s x e) (rule_65 k x true full)
    go (InLeft m v) e l = absurd l
    go (InRight m v w) e l = absurd l
    go (Ending m v w) e l = absurd l

-- A `.` behind a rule: both sides are known.
pub may_close : {s : Reading} {r : Numbers} {a b c : List (List ℕ)} {d : List ℕ} (k : Keeps s r a b c d) → MayClose r.place r.side
    → Closed s.place × (stop s s.place ≡ close_rule s (rule_at s.place))
unfolding place_of
may_close {s} {r} k may = go s.place refl (rw (place_number s k.numbers) at may)
  where
    go : (p : Place) → s.place ≡ p → MayClose (place_of p) r.side
        → Closed s.place × (stop s s.place ≡ close_rule s (rule_at s.place))
    go First e h = absurd h
    go Events e h = absurd h
    go Between e h = absurd h
    go Marked e h = absurd h
    go (InLeft m v) e h = absurd h
    go (InRight m v w) e h = (closed_right s.place m v w e, stop_right k m v w e h)
    go (Ending m v w) e h = (closed_ending s.place m v w e, stop-ending s m v w e)

-- the byte of a right side's kind
byte_is : (v : Right) → byte_of (kind_of v) ≡ kind v
unfolding byte_of kind_of kind
byte_is (Put v) = refl
byte_is (Close n) = refl

-- A rule is closed: its contents are written.
pub rule_closed :
    {s : Reading} {r : Numbers} {a b c : List (List ℕ)} {d : List ℕ} (k : Keeps s r a b c d) (kind_byte mark : ℕ)
    → MayClose r.place r.side → kind_byte ≡ byte_of r.kind → mark ≡ mark_byte r.marked → r.rules < length c
    → TakenIs (stop s s.place)
    (Ok tt)
    (record {
      place = places.Between;
      symbols = r.symbols;
      words = r.words;
      events = r.events;
      rules = r.rules + 1;
      bodies = r.bodies;
      left = 0;
      side = 0;
      kind = kinds.Put;
      marked = false;
    }) a b (set c r.rules (r.left ∷ kind_byte ∷ r.side ∷ mark ∷ [])) d
unfolding close_rule contents
rule_closed {s} {r} {c = c} k kind_byte mark may at_kind at_mark room =
    let m = may_close k may in
    let new : Rule = rule_at s.place in
    let written : r.left ∷ kind_byte ∷ r.side ∷ mark ∷ [] ≡ contents new =
    let left : r.left ≡ length new.left = left_number s k.numbers ∙ m.0.left in
    let kinds_byte : kind_byte ≡ kind new.right = at_kind ∙ ap byte_of (kind-number s k.numbers) ∙ byte_is new.right in
    let right : r.side ≡ length_or_verdict new.right = side_number s k.numbers ∙ m.0.right in
    let marks_byte : mark ≡ mark_byte new.marked = at_mark ∙ ap mark_byte (mark-told s k.numbers) in
    cc
    in
    rw m.1 (keeps_rule k (r.left ∷ kind_byte ∷ r.side ∷ mark ∷ []) written room)

-- What a token leaves kept: where it is taken a sound reading, where not the one from before.
pub still_held : (t : Taken) → KeepsSound t → {r : Numbers} {a b c : List (List ℕ)} {d : List ℕ} → TakenIs t (Ok tt) r a b c d
    → Held r a b c d
still_held (Ok s) sound k = record { reading = s; sound = sound s refl; keeps = k }
still_held (Err i) sound k = absurd k

module _ {r : Numbers} {a b c : List (List ℕ)} {d : List ℕ} (h : Held r a b c d) (count : ℕ) (slots : List (List ℕ)) where
  pub held_symbols : AsBefore 32 h.reading.symbols [] count slots
      → Held (with_symbols r count) slots b c d
  held_symbols e =
      let same_count : count ≡ r.symbols = e.0 ∙ sym (symbols_number h.reading h.keeps.numbers) in
      let same_slots : slots ≡ a = e.1 ∙ sym h.keeps.symbol-slots in
      rw (same_count, same_slots) h

  pub held_words : AsBefore 16 h.reading.words [] count slots
      → Held (with_words r count) a slots c d
  held_words e =
      let same_count : count ≡ r.words = e.0 ∙ sym (words_number h.reading h.keeps.numbers) in
      let same_slots : slots ≡ b = e.1 ∙ sym h.keeps.word-slots in
      rw (same_count, same_slots) h

-- behind a name in the list of events, whatever its number
pub event_held : {r : Numbers} {a b c : List (List ℕ)} {d : List ℕ} (h : Held r a b c d) (x : List ℕ) → is_name x ≡ true
    → r.place ≡ places.Events → (o : Option ℕ) (count : ℕ) (slots : List (List ℕ))
    → NumberedIs 32 h.reading.symbols (numbered 32 h.reading.symbols x) o count slots
    → Held (with_symbols r count) slots b c d
event_held h x named here None count slots is = held_symbols h count slots (too_many_kept 32 h.reading.symbols x count slots is)
event_held {r} {a} {b} {c} {d} h x named here (Some i) count slots is = go (ltb i (length h.reading.symbols)) refl
  where
    s : Reading
    s = h.reading

    go : (low : Bool) → ltb i (length s.symbols) ≡ low
        → Held (with_symbols r count) slots b c d
    go true e = held_symbols h count slots (old_kept 32 s.symbols x count slots i is (ltb-true i (length s.symbols) e))
    go false e =
        still_held _ (sound_name s x s.place h.sound h.sound.here named)
        (event_new h.keeps x count slots (here_at h.keeps places.Events here) i is
        (omega (arith, ltb-false i (length s.symbols) e, symbols_number s h.keeps.numbers)))
