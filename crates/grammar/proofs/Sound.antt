-- What every reading keeps (`Sound`): it holds before the first token, and each token keeps it. So the rules that a text
-- gives are in range, and their image is valid.
-- Assumes nothing.
use Prim.Native.Nat.{ℕ, suc, ◌≤◌, ◌<◌}
use mathlib.Core.Path.{◌≡◌, refl, subst}
use mathlib.Core.Bool.{Bool, true, false, cond, ◌&&◌}
use Rattle.std.specs.Prelude.{Option, None, Some, option_map, Ok, Err}
use mathlib.Core.List.{List, [], ◌∷◌, ◌++◌}
use native.Mathlib.Omega.{arith}
use lib.Dec.{eqb, leb, ltb}
use lib.ListN.{length, length-append}
use borrow.Author.Tests.{ltb-true, le-leb, lt-ltb}
use Rattle.rewriting.specs.Lists.{all, same, below}
use Rattle.rewriting.specs.Rules.{Right, Put, Close, symbols_of, Rule, RuleSet, right_in_range, rule_in_range, in_range}
use Rattle.rewriting.proofs.Lists.{and_left, and_right, and_both, all_append, below_weaken}
use Rattle.rewriting.proofs.Ranges.{right_below, RuleRanges, rule_ranges}
use Rattle.layout.specs.Image.{image_of, valid}
use Rattle.layout.proofs.Image.{image_valid, longest}
use Rattle.grammar.specs.Tokens.{letter, name_byte, is_name, digit, Token, Name, Word, Arrow, Stop, Mark, token_of, Run, runs}
use Rattle.grammar.specs.Names.{number_of, Numbered, or_new, numbered}
use Rattle.grammar.specs.Grammar.{
  Place,
  First,
  Events,
  Between,
  Marked,
  InLeft,
  InRight,
  Ending,
  Reading,
  Taken,
  events_word,
  epsilon_word,
  begun,
  placed,
  with_symbol,
  symbol,
  event,
  side_symbol,
  first_symbol,
  name,
  with_verdict,
  right_word,
  word,
  arrow,
  mark,
  close_events,
  rule_with,
  close_rule,
  stop,
  after_token,
  after_run,
  complete,
  rule_set_of,
}
use Rattle.grammar.specs.Read.{ReadText, ended, or_broken, read_runs, read_text, names_of}
use Rattle.grammar.specs.Sound.{EventsKnown, RuleBegun, SoundAt, Sound}
use Rattle.grammar.proofs.Slots.{length-slots}

-- What holds of both sides of a choice holds of it.
pub cond_either :
    {A : Type 0} (P : A → Type 0) (b : Bool) (x y : A) → (b ≡ true → P x) → (b ≡ false → P y) → P (cond b x y)
cond_either P true x y p q = p refl
cond_either P false x y p q = q refl

-- the name that a token has, if it has one, is a name
abbrev pub NamedToken : Token → Type 0
NamedToken (Name x) = is_name x ≡ true
NamedToken (Word x) = is_name x ≡ true
NamedToken Arrow = Unit {0}
NamedToken Stop = Unit {0}
NamedToken Mark = Unit {0}

abbrev NamedIn : Option Token → Type 0
NamedIn None = Unit {0}
NamedIn (Some t) = NamedToken t

token_named : (bytes : List ℕ) → NamedIn (token_of bytes)
unfolding token_of
token_named [] = tt
token_named (b ∷ t) =
    cond_either NamedIn (is_name (b ∷ t)) _ _ (λ e. e) λ _.
    cond_either NamedIn (eqb b 35 && is_name t) _ _ (and_right (eqb b 35) (is_name t)) λ _.
    cond_either NamedIn (same (b ∷ t) (45 ∷ 62 ∷ [])) _ _ (λ _. tt) λ _.
    cond_either NamedIn (same (b ∷ t) (46 ∷ [])) _ _ (λ _. tt) λ _.
    cond_either NamedIn (same (b ∷ t) (94 ∷ [])) _ _ (λ _. tt) (λ _. tt)

-- A run of bytes that is a token has such a name.
pub named-is_name : (bytes : List ℕ) (t : Token) → token_of bytes ≡ Some t → NamedToken t
named-is_name bytes t e = rw e at (token_named bytes)

-- found at the head of a list, or in the rest, which has n
pub next-below :
    (b : Bool) (o : Option ℕ) (n i : ℕ) → ((j : ℕ) → o ≡ Some j → j < n) → cond b (Some 0) (option_map suc o) ≡ Some i
    → i < suc n
next-below true o n i rest p = let q : 0 ≡ i = cc in omega arith
next-below false None n i rest p = let z : ◌≡◌ {A = ℕ} 0 1 = cc in absurd (omega arith)
next-below false (Some j) n i rest p = let q : suc j ≡ i = cc in omega (arith, rest j refl)

-- A number found is that of one of the names.
pub number-below : (names : List (List ℕ)) (x : List ℕ) (i : ℕ) → number_of names x ≡ Some i → i < length names
unfolding number_of
number-below [] x i e = let z : ◌≡◌ {A = ℕ} 0 1 = cc in absurd (omega arith)
number-below (y ∷ names) x i e = next-below (same y x) (number_of names x) (length names) i (number-below names x) e

-- What a name's number, and the names with it, keep.
pub record Kept (most : ℕ) (names : List (List ℕ)) (n : Numbered) : Type 0 where
  pub number_in : n.number < length n.names
  pub no_fewer : length names ≤ length n.names
  pub few_names : length n.names ≤ most
  pub all_named : all is_name n.names ≡ true

pub numbered_kept :
    (most : ℕ) (names : List (List ℕ)) (x : List ℕ) (n : Numbered) → length names ≤ most → all is_name names ≡ true
    → is_name x ≡ true → numbered most names x ≡ Some n → Kept most names n
unfolding numbered or_new
numbered_kept most names x n few named nx e = go (number_of names x) refl e
  where
    added : Numbered
    added = record { number = length names; names = names ++ x ∷ [] }

    last : (b : Bool) → ltb (length names) most ≡ b → cond b (Some added) None ≡ Some n → Kept most names n
    last true room p =
        let q : added ≡ n = cc in
        let lt : length names < most = ltb-true (length names) most room in
        let long : length (names ++ x ∷ []) ≡ suc (length names) = simp length-append (omega arith) in
        rw (← q)
        (record {
          number_in = omega arith;
          no_fewer = omega arith;
          few_names = omega arith;
          all_named = all_append is_name names (x ∷ []) named (and_both nx refl);
        })
    last false room p = let z : ◌≡◌ {A = ℕ} 0 1 = cc in absurd (omega arith)

    go : (o : Option ℕ) → number_of names x ≡ o → or_new most names x o ≡ Some n → Kept most names n
    go (Some i) found p =
        let q : record { number = i; names = names } ≡ n = cc in
        rw (← q)
        (record {
          number_in = number-below names x i found;
          no_fewer = omega arith;
          few_names = few;
          all_named = named;
        })
    go None found p = last (ltb (length names) most) refl p

-- A rule in range is so too where there are more symbols and more verdicts.
pub right_grows :
    (few many : RuleSet) (r : Right) → few.symbols ≤ many.symbols → few.verdicts ≤ many.verdicts
    → right_in_range few r ≡ true → right_in_range many r ≡ true
unfolding right_in_range
right_grows few many (Put v) s w e =
    and_both (and_left (leb (length v) 8) (below few.symbols v) e)
    (below_weaken few.symbols many.symbols v s (and_right (leb (length v) 8) (below few.symbols v) e))
right_grows few many (Close v) s w e =
    let lt : v < few.verdicts = ltb-true v few.verdicts e in
    lt-ltb v many.verdicts (omega arith)

pub rule-in_range : (set : RuleSet) (r : Rule) → RuleRanges set r → rule_in_range set r ≡ true
unfolding rule_in_range
rule-in_range set r h =
    and_both
    (and_both (and_both (le-leb 1 (length r.left) h.some_left) (le-leb (length r.left) 8 h.short_left))
    h.left_below)
    h.right_in_range_lem

pub rule_grows :
    (few many : RuleSet) (r : Rule) → few.symbols ≤ many.symbols → few.verdicts ≤ many.verdicts
    → rule_in_range few r ≡ true → rule_in_range many r ≡ true
rule_grows few many r s w e =
    let h : RuleRanges few r = rule_ranges few r e in
    rule-in_range many r
    (record {
      some_left = h.some_left;
      short_left = h.short_left;
      left_below = below_weaken few.symbols many.symbols r.left s h.left_below;
      right_in_range_lem = right_grows few many r.right s w h.right_in_range_lem;
    })

pub rules_grow :
    (few many : RuleSet) (rs : List Rule) → few.symbols ≤ many.symbols → few.verdicts ≤ many.verdicts
    → all (rule_in_range few) rs ≡ true → all (rule_in_range many) rs ≡ true
rules_grow few many [] s w e = refl
rules_grow few many (r ∷ rs) s w e =
    and_both (rule_grows few many r s w (and_left (rule_in_range few r) (all (rule_in_range few) rs) e))
    (rules_grow few many rs s w (and_right (rule_in_range few r) (all (rule_in_range few) rs) e))

-- what is kept where the place is p
pub place_sound : (s : Reading) → Sound s → {p : Place} → s.place ≡ p → SoundAt s p
place_sound s h e = subst (SoundAt s) e h.here

-- Before the first token.
pub sound_begun : Sound begun
unfolding begun is_name letter name_byte digit
sound_begun =
    record {
      symbols_named = refl;
      few_symbols = omega arith;
      words_named = refl;
      some_words = omega arith;
      few_words = omega arith;
      few_rules = omega arith;
      all_rules = refl;
      here = tt;
    }

-- What a token makes of a reading keeps it sound, where the text goes on.
abbrev pub KeepsSound : Taken → Type 0
KeepsSound t = (s' : Reading) → t ≡ Ok s' → Sound s'

pub keeps_goes : (s : Reading) → Sound s → KeepsSound (Ok s)
keeps_goes s h s' e = let p : s ≡ s' = cc in rw (← p) h

pub keeps_breaks : (n : ℕ) → KeepsSound (Err n)
keeps_breaks n s' e = let z : ◌≡◌ {A = ℕ} 0 1 = cc in absurd (omega arith)

-- A reading with at least these symbols and words, and these events and rules.
pub record Grows (s s' : Reading) : Type 0 where
  pub more_symbols : length s.symbols ≤ length s'.symbols
  pub more_words : length s.words ≤ length s'.words
  pub same_events : s'.events ≡ s.events
  pub same-rules : s'.rules ≡ s.rules

-- What a place keeps, it keeps in such a reading.
pub events_grow : (s s' : Reading) → Grows s s' → EventsKnown s → EventsKnown s'
events_grow s s' g h = (omega arith, omega arith)

pub begun_grows : (s s' : Reading) (r : Rule) → Grows s s' → RuleBegun s r → RuleBegun s' r
unfolding rule_set_of
begun_grows s s' r g h = (
  events_grow s s' g h.0,
  rw g.same-rules h.1,
  rule_grows (rule_set_of s) (rule_set_of s') r g.more_symbols g.more_words h.2,
)

pub place_grows : (s s' : Reading) (p : Place) → Grows s s' → SoundAt s p → SoundAt s' p
place_grows s s' First g h = tt
place_grows s s' Events g h = tt
place_grows s s' Between g h = events_grow s s' g h
place_grows s s' Marked g h = events_grow s s' g h
place_grows s s' (InLeft m l) g h = begun_grows s s' (rule_with m l (Put [])) g h
place_grows s s' (InRight m l v) g h = begun_grows s s' (rule_with m l (Put v)) g h
place_grows s s' (Ending m l r) g h = begun_grows s s' (rule_with m l r) g h

-- the same at another place
pub grows_placed : (s : Reading) (p : Place) → Grows s (placed s p)
unfolding placed
grows_placed s p =
    record { more_symbols = omega arith; more_words = omega arith; same_events = refl; same-rules = refl }

pub sound_placed : (s : Reading) (p : Place) → Sound s → SoundAt s p → Sound (placed s p)
unfolding placed rule_set_of
sound_placed s p h sound_at =
    record {
      symbols_named = h.symbols_named;
      few_symbols = h.few_symbols;
      words_named = h.words_named;
      some_words = h.some_words;
      few_words = h.few_words;
      few_rules = h.few_rules;
      all_rules = h.all_rules;
      here = place_grows s (placed s p) p (grows_placed s p) sound_at;
    }

-- the names with one more, at another place
abbrev pub with_names : Reading → Numbered → Place → Reading
with_names s n p =
    record { symbols = n.names; words = s.words; events = s.events; rules = s.rules; place = p }

pub grows_names :
    (s : Reading) (n : Numbered) (p : Place) → Kept 32 s.symbols n → Grows s (with_names s n p)
grows_names s n p k =
    record { more_symbols = k.no_fewer; more_words = omega arith; same_events = refl; same-rules = refl }

pub sound_names :
    (s : Reading) (n : Numbered) (p : Place) → Sound s → Kept 32 s.symbols n → SoundAt (with_names s n p) p
    → Sound (with_names s n p)
unfolding rule_set_of
sound_names s n p h k sound_at =
    record {
      symbols_named = k.all_named;
      few_symbols = k.few_names;
      words_named = h.words_named;
      some_words = h.some_words;
      few_words = h.few_words;
      few_rules = h.few_rules;
      all_rules =
          rules_grow (rule_set_of s) (rule_set_of (with_names s n p)) s.rules k.no_fewer (omega arith) h.all_rules;
      here = sound_at;
    }

-- A name, at whatever place that its symbol leads to.
pub sound_symbol :
    (s : Reading) (x : List ℕ) (to : ℕ → Place) → Sound s → is_name x ≡ true
    → ((n : Numbered) → Kept 32 s.symbols n → SoundAt (with_names s n (to n.number)) (to n.number))
    → KeepsSound (symbol s x to)
unfolding symbol with_symbol
sound_symbol s x to h nx sound_at = go (numbered 32 s.symbols x) refl
  where
    go : (o : Option Numbered) → numbered 32 s.symbols x ≡ o → KeepsSound (with_symbol s to o)
    go None e = keeps_breaks 5
    go (Some n) e =
        let k : Kept 32 s.symbols n = numbered_kept 32 s.symbols x n h.few_symbols h.symbols_named nx e in
        keeps_goes (with_names s n (to n.number)) (sound_names s n (to n.number) h k (sound_at n k))

-- One more event.
pub sound_event : (s : Reading) (x : List ℕ) (o : Option ℕ) → Sound s → is_name x ≡ true → KeepsSound (event s x o)
unfolding event
sound_event s x None h nx = sound_symbol s x (λ i. Events) h nx (λ n k. tt)
sound_event s x (Some i) h nx = keeps_breaks 6

-- One more symbol of a side.
pub sound_side :
    (s : Reading) (x : List ℕ) (side : List ℕ) (to : List ℕ → Place) → Sound s → is_name x ≡ true
    → (length side < 8
    → (n : Numbered) → Kept 32 s.symbols n
    → SoundAt (with_names s n (to (side ++ n.number ∷ []))) (to (side ++ n.number ∷ [])))
    → KeepsSound (side_symbol s x side to)
unfolding side_symbol
sound_side s x side to h nx sound_at =
    cond_either KeepsSound (ltb (length side) 8) _ _
    (λ e. sound_symbol s x (λ i. to (side ++ i ∷ [])) h nx (sound_at (ltb-true (length side) 8 e)))
    (λ _. keeps_breaks 5)

-- numbers below those of some names, and the number of one more
pub below_names :
    (names : List (List ℕ)) (n : Numbered) (side : List ℕ) → Kept 32 names n → below (length names) side ≡ true
    → below (length n.names) (side ++ n.number ∷ []) ≡ true
below_names names n side k e =
    all_append (λ i. ltb i (length n.names)) side (n.number ∷ [])
    (below_weaken (length names) (length n.names) side k.no_fewer e)
    (and_both (lt-ltb n.number (length n.names) k.number_in) refl)

-- The first symbol of a left side, with a mark or without, and one more.
pub sound_left :
    (s : Reading) (x : List ℕ) (m : Bool) (l : List ℕ) → Sound s → is_name x ≡ true → EventsKnown s → length s.rules < 64
    → below (length s.symbols) l ≡ true → KeepsSound (side_symbol s x l (InLeft m))
unfolding rule_set_of right_in_range
sound_left s x m l h nx known room in_l = sound_side s x l (InLeft m) h nx one_more
  where
    one_more :
        length l < 8 → (n : Numbered) → Kept 32 s.symbols n
        → RuleBegun (with_names s n (InLeft m (l ++ n.number ∷ []))) (rule_with m (l ++ n.number ∷ []) (Put []))
    one_more short n k =
        let s' : Reading = with_names s n (InLeft m (l ++ n.number ∷ [])) in
        let long : length (l ++ n.number ∷ []) ≡ suc (length l) = simp length-append (omega arith) in (
          events_grow s s' (grows_names s n s'.place k) known,
          room,
          rule-in_range (rule_set_of s') (rule_with m (l ++ n.number ∷ []) (Put []))
              (record {
                some_left = omega arith;
                short_left = omega arith;
                left_below = below_names s.symbols n l k in_l;
                right_in_range_lem = refl;
              }),
        )

-- One more symbol of a right side.
pub sound_right :
    (s : Reading) (x : List ℕ) (m : Bool) (l v : List ℕ) → Sound s → is_name x ≡ true → RuleBegun s (rule_with m l (Put v))
    → KeepsSound (side_symbol s x v (InRight m l))
unfolding rule_set_of right_in_range symbols_of
sound_right s x m l v h nx b = sound_side s x v (InRight m l) h nx one_more
  where
    one_more :
        length v < 8 → (n : Numbered) → Kept 32 s.symbols n
        → RuleBegun (with_names s n (InRight m l (v ++ n.number ∷ []))) (rule_with m l (Put (v ++ n.number ∷ [])))
    one_more short n k =
        let s' : Reading = with_names s n (InRight m l (v ++ n.number ∷ [])) in
        let g : Grows s s' = grows_names s n s'.place k in
        let r : RuleRanges (rule_set_of s) (rule_with m l (Put v)) = rule_ranges (rule_set_of s) (rule_with m l (Put v)) b.2 in
        let low : below (length s.symbols) v ≡ true = right_below (rule_set_of s) (Put v) r.right_in_range_lem in
        let long : length (v ++ n.number ∷ []) ≡ suc (length v) = simp length-append (omega arith) in (
          events_grow s s' g b.0,
          b.1,
          rule-in_range (rule_set_of s') (rule_with m l (Put (v ++ n.number ∷ [])))
              (record {
                some_left = r.some_left;
                short_left = r.short_left;
                left_below = below_weaken (length s.symbols) (length n.names) l k.no_fewer r.left_below;
                right_in_range_lem =
                    and_both (le-leb (length (v ++ n.number ∷ [])) 8 (omega arith)) (below_names s.symbols n v k low);
              }),
        )

-- The first name of a rule.
pub sound_first_symbol :
    (s : Reading) (x : List ℕ) (m : Bool) → Sound s → EventsKnown s → is_name x ≡ true → KeepsSound (first_symbol s x m)
unfolding first_symbol
sound_first_symbol s x m h known nx =
    cond_either KeepsSound (ltb (length s.rules) 64) _ _
    (λ e. sound_left s x m [] h nx known (ltb-true (length s.rules) 64 e) refl)
    (λ _. keeps_breaks 5)

-- A name, at each place.
pub sound_name : (s : Reading) (x : List ℕ) (p : Place) → Sound s → SoundAt s p → is_name x ≡ true → KeepsSound (name s x p)
unfolding name rule_set_of
sound_name s x First h sound_at nx =
    cond_either KeepsSound (same x events_word) _ _
    (λ _. keeps_goes (placed s Events) (sound_placed s Events h tt))
    (λ _. keeps_breaks 4)
sound_name s x Events h sound_at nx = sound_event s x (number_of s.symbols x) h nx
sound_name s x Between h sound_at nx = sound_first_symbol s x false h sound_at nx
sound_name s x Marked h sound_at nx = sound_first_symbol s x true h sound_at nx
sound_name s x (InLeft m l) h sound_at nx =
    let r : RuleRanges (rule_set_of s) (rule_with m l (Put [])) =
    rule_ranges (rule_set_of s) (rule_with m l (Put [])) sound_at.2 in
    sound_left s x m l h nx sound_at.0 sound_at.1 r.left_below
sound_name s x (InRight m l v) h sound_at nx = sound_right s x m l v h nx sound_at
sound_name s x (Ending m l r) h sound_at nx = keeps_breaks 4

-- the words with one more, at another place
abbrev pub with_words : Reading → Numbered → Place → Reading
with_words s n p = record { symbols = s.symbols; words = n.names; events = s.events; rules = s.rules; place = p }

pub grows_words : (s : Reading) (n : Numbered) (p : Place) → Kept 16 s.words n → Grows s (with_words s n p)
grows_words s n p k =
    record { more_symbols = omega arith; more_words = k.no_fewer; same_events = refl; same-rules = refl }

pub sound_words :
    (s : Reading) (n : Numbered) (p : Place) → Sound s → Kept 16 s.words n → SoundAt (with_words s n p) p
    → Sound (with_words s n p)
unfolding rule_set_of
sound_words s n p h k sound_at =
    record {
      symbols_named = h.symbols_named;
      few_symbols = h.few_symbols;
      words_named = k.all_named;
      some_words = omega (arith, k.no_fewer, h.some_words);
      few_words = k.few_names;
      few_rules = h.few_rules;
      all_rules =
          rules_grow (rule_set_of s) (rule_set_of (with_words s n p)) s.rules (omega arith) k.no_fewer h.all_rules;
      here = sound_at;
    }

-- a rule begun may have another right side that is in range
pub begun_right :
    (s : Reading) (m : Bool) (l : List ℕ) (r r' : Right) → RuleBegun s (rule_with m l r)
    → right_in_range (rule_set_of s) r' ≡ true
    → RuleBegun s (rule_with m l r')
begun_right s m l r r' b e =
    let g : RuleRanges (rule_set_of s) (rule_with m l r) = rule_ranges (rule_set_of s) (rule_with m l r) b.2 in (
      b.0,
      b.1,
      rule-in_range (rule_set_of s) (rule_with m l r')
          (record {
            some_left = g.some_left;
            short_left = g.short_left;
            left_below = g.left_below;
            right_in_range_lem = e;
          }),
    )

-- A `#` word, behind the left side l and `->`.
pub sound_verdict :
    (s : Reading) (x : List ℕ) (m : Bool) (l : List ℕ) → Sound s → is_name x ≡ true → RuleBegun s (rule_with m l (Put []))
    → KeepsSound (with_verdict s m l (numbered 16 s.words x))
unfolding with_verdict right_in_range rule_set_of
sound_verdict s x m l h nx b = go (numbered 16 s.words x) refl
  where
    go : (o : Option Numbered) → numbered 16 s.words x ≡ o → KeepsSound (with_verdict s m l o)
    go None e = keeps_breaks 5
    go (Some n) e =
        let k : Kept 16 s.words n = numbered_kept 16 s.words x n h.few_words h.words_named nx e in
        let p : Place = Ending m l (Close n.number) in
        let s' : Reading = with_words s n p in
        let b' : RuleBegun s' (rule_with m l (Put [])) = begun_grows s s' (rule_with m l (Put [])) (grows_words s n p k) b in
        keeps_goes s'
        (sound_words s n p h k
        (begun_right s' m l (Put []) (Close n.number) b' (lt-ltb n.number (length n.names) k.number_in)))

pub sound_right_word :
    (s : Reading) (x : List ℕ) (m : Bool) (l : List ℕ) → Sound s → is_name x ≡ true → RuleBegun s (rule_with m l (Put []))
    → KeepsSound (right_word s x m l)
unfolding right_word
sound_right_word s x m l h nx b =
    cond_either KeepsSound (same x epsilon_word) _ _
    (λ _. keeps_goes (placed s (Ending m l (Put []))) (sound_placed s (Ending m l (Put [])) h b))
    (λ _. sound_verdict s x m l h nx b)

pub sound_word : (s : Reading) (x : List ℕ) (p : Place) → Sound s → SoundAt s p → is_name x ≡ true → KeepsSound (word s x p)
unfolding word
sound_word s x First h sound_at nx = keeps_breaks 4
sound_word s x Events h sound_at nx = keeps_breaks 4
sound_word s x Between h sound_at nx = keeps_breaks 4
sound_word s x Marked h sound_at nx = keeps_breaks 4
sound_word s x (InLeft m l) h sound_at nx = keeps_breaks 4
sound_word s x (InRight m l []) h sound_at nx = sound_right_word s x m l h nx sound_at
sound_word s x (InRight m l (a ∷ v)) h sound_at nx = keeps_breaks 4
sound_word s x (Ending m l r) h sound_at nx = keeps_breaks 4

-- `->`
pub sound_arrow : (s : Reading) (p : Place) → Sound s → SoundAt s p → KeepsSound (arrow s p)
unfolding arrow
sound_arrow s First h sound_at = keeps_breaks 4
sound_arrow s Events h sound_at = keeps_breaks 4
sound_arrow s Between h sound_at = keeps_breaks 4
sound_arrow s Marked h sound_at = keeps_breaks 4
sound_arrow s (InLeft m l) h sound_at = keeps_goes (placed s (InRight m l [])) (sound_placed s (InRight m l []) h sound_at)
sound_arrow s (InRight m l v) h sound_at = keeps_breaks 4
sound_arrow s (Ending m l r) h sound_at = keeps_breaks 4

-- `^`
pub sound_mark : (s : Reading) (p : Place) → Sound s → SoundAt s p → KeepsSound (mark s p)
unfolding mark
sound_mark s First h sound_at = keeps_breaks 4
sound_mark s Events h sound_at = keeps_breaks 4
sound_mark s Between h sound_at = keeps_goes (placed s Marked) (sound_placed s Marked h sound_at)
sound_mark s Marked h sound_at = keeps_breaks 4
sound_mark s (InLeft m l) h sound_at = keeps_breaks 4
sound_mark s (InRight m l v) h sound_at = keeps_breaks 4
sound_mark s (Ending m l r) h sound_at = keeps_breaks 4

-- `.` behind the events
pub sound_close_events : (s : Reading) (names : List (List ℕ)) → Sound s → s.symbols ≡ names → KeepsSound (close_events s names)
unfolding close_events rule_set_of
sound_close_events s [] h e = keeps_breaks 4
sound_close_events s (x ∷ names) h e = keeps_goes s' sound
  where
    s' : Reading
    s' =
        record {
          symbols = s.symbols;
          words = s.words;
          events = length s.symbols;
          rules = s.rules;
          place = Between;
        }

    sound : Sound s'
    sound =
        let n : length s.symbols ≡ suc (length names) = rw e in
        record {
          symbols_named = h.symbols_named;
          few_symbols = h.few_symbols;
          words_named = h.words_named;
          some_words = h.some_words;
          few_words = h.few_words;
          few_rules = h.few_rules;
          all_rules =
              rules_grow (rule_set_of s) (rule_set_of s') s.rules (omega arith) (omega arith) h.all_rules;
          here = (omega arith, omega arith);
        }

-- `.` behind a rule
pub sound_close_rule : (s : Reading) (r : Rule) → Sound s → RuleBegun s r → KeepsSound (close_rule s r)
unfolding close_rule rule_set_of
sound_close_rule s r h b = keeps_goes s' sound
  where
    s' : Reading
    s' =
        record {
          symbols = s.symbols;
          words = s.words;
          events = s.events;
          rules = s.rules ++ r ∷ [];
          place = Between;
        }

    sound : Sound s'
    sound =
        let n : length (s.rules ++ r ∷ []) ≡ suc (length s.rules) = simp length-append (omega arith) in
        record {
          symbols_named = h.symbols_named;
          few_symbols = h.few_symbols;
          words_named = h.words_named;
          some_words = h.some_words;
          few_words = h.few_words;
          few_rules = omega (arith, b.1);
          all_rules =
              rules_grow (rule_set_of s) (rule_set_of s') (s.rules ++ r ∷ []) (omega arith) (omega arith)
              (all_append (rule_in_range (rule_set_of s)) s.rules (r ∷ []) h.all_rules (and_both b.2 refl));
          here = b.0;
        }

pub sound_stop : (s : Reading) (p : Place) → Sound s → SoundAt s p → KeepsSound (stop s p)
unfolding stop
sound_stop s First h sound_at = keeps_breaks 4
sound_stop s Events h sound_at = sound_close_events s s.symbols h refl
sound_stop s Between h sound_at = keeps_breaks 4
sound_stop s Marked h sound_at = keeps_breaks 4
sound_stop s (InLeft m l) h sound_at = keeps_breaks 4
sound_stop s (InRight m l []) h sound_at = keeps_breaks 4
sound_stop s (InRight m l (a ∷ v)) h sound_at = sound_close_rule s (rule_with m l (Put (a ∷ v))) h sound_at
sound_stop s (Ending m l r) h sound_at = sound_close_rule s (rule_with m l r) h sound_at

-- Each token keeps a reading sound.
pub sound_after : (s : Reading) (t : Token) → Sound s → NamedToken t → KeepsSound (after_token s t)
unfolding after_token
sound_after s (Name x) h nx = sound_name s x s.place h h.here nx
sound_after s (Word x) h nx = sound_word s x s.place h h.here nx
sound_after s Arrow h nx = sound_arrow s s.place h h.here
sound_after s Stop h nx = sound_stop s s.place h h.here
sound_after s Mark h nx = sound_mark s s.place h h.here

-- a text may end behind a `.`
pub complete-between : (p : Place) → complete p ≡ true → p ≡ Between
unfolding complete
complete-between First e = let z : ◌≡◌ {A = ℕ} 0 1 = cc in absurd (omega arith)
complete-between Events e = let z : ◌≡◌ {A = ℕ} 0 1 = cc in absurd (omega arith)
complete-between Between e = refl
complete-between Marked e = let z : ◌≡◌ {A = ℕ} 0 1 = cc in absurd (omega arith)
complete-between (InLeft m l) e = let z : ◌≡◌ {A = ℕ} 0 1 = cc in absurd (omega arith)
complete-between (InRight m l v) e = let z : ◌≡◌ {A = ℕ} 0 1 = cc in absurd (omega arith)
complete-between (Ending m l r) e = let z : ◌≡◌ {A = ℕ} 0 1 = cc in absurd (omega arith)

-- What each token keeps, and holds before the first, holds of what a text is read as. It is then behind a `.`.
module _
    (P : Reading → Type 0)
    (step : (s : Reading) (t : Token) → P s → NamedToken t → (s' : Reading) → after_token s t ≡ Ok s' → P s') where
  pub after_run_lem : (s : Reading) (bytes : List ℕ) → P s → (s' : Reading) → after_run s (token_of bytes) ≡ Ok s' → P s'
  unfolding after_run
  after_run_lem s bytes h = go (token_of bytes) (token_named bytes)
    where
      go : (o : Option Token) → NamedIn o → (s' : Reading) → after_run s o ≡ Ok s' → P s'
      go None nx s' e = let z : ◌≡◌ {A = ℕ} 0 1 = cc in absurd (omega arith)
      go (Some t) nx s' e = step s t h nx s' e

  pub runs_keep :
      (size : ℕ) (s : Reading) (rs : List Run) (s' : Reading) → P s → read_runs size s rs ≡ Ok s'
      → P s' × (s'.place ≡ Between)
  unfolding read_runs ended or_broken
  runs_keep size s [] s' h e = go (complete s.place) refl e
    where
      go : (b : Bool) → complete s.place ≡ b → cond {A = ReadText} b (Ok s) (Err (4, size)) ≡ Ok s' → P s' × (s'.place ≡ Between)
      go true c p = let q : s ≡ s' = cc in rw (← q) (h, complete-between s.place c)
      go false c p = let z : ◌≡◌ {A = ℕ} 0 1 = cc in absurd (omega arith)
  runs_keep size s (r ∷ rest) s' h e =
      go (after_run s (token_of r.bytes)) (after_run_lem s r.bytes h) (λ s'' h'' p. runs_keep size s'' rest s' h'' p) e
    where
      go :
          (t : Taken) → ((s'' : Reading) → t ≡ Ok s'' → P s'')
          → ((s'' : Reading) → P s'' → read_runs size s'' rest ≡ Ok s' → P s' × (s'.place ≡ Between))
          → or_broken r.place (λ s''. read_runs size s'' rest) t ≡ Ok s' → P s' × (s'.place ≡ Between)
      go (Ok s'') keeps ih p = ih s'' (keeps s'' refl) p
      go (Err n) keeps ih p = let z : ◌≡◌ {A = ℕ} 0 1 = cc in absurd (omega arith)

  pub text_keeps : P begun → (text : List ℕ) (s : Reading) → read_text text ≡ Ok s → P s × (s.place ≡ Between)
  unfolding read_text
  text_keeps h text s e = runs_keep (length text) begun (runs text) s h e

-- Each run of bytes keeps a reading sound, and what a text is read as is sound.
pub sound_run : (s : Reading) (bytes : List ℕ) → Sound s → KeepsSound (after_run s (token_of bytes))
sound_run s bytes h = after_run_lem Sound sound_after s bytes h

pub read_sound : (text : List ℕ) (s : Reading) → read_text text ≡ Ok s → Sound s × (s.place ≡ Between)
read_sound text s e = text_keeps Sound sound_after sound_begun text s e

-- A sound reading behind a `.` has its rules in range.
pub sound_in_range : (s : Reading) → Sound s → s.place ≡ Between → in_range (rule_set_of s) ≡ true
unfolding in_range rule_set_of
sound_in_range s h p =
    let known : EventsKnown s = place_sound s h p in
    let some-symbol : 1 ≤ length s.symbols = omega arith in
    and_both
    (and_both
    (and_both
    (and_both
    (and_both (le-leb 1 (length s.symbols) some-symbol) (le-leb (length s.symbols) 32 h.few_symbols))
    (and_both (le-leb 1 s.events known.0) (le-leb s.events (length s.symbols) known.1)))
    (and_both (le-leb 2 (length s.words) h.some_words) (le-leb (length s.words) 16 h.few_words)))
    (le-leb (length s.rules) 64 h.few_rules))
    h.all_rules

-- The rules that a text gives are in range.
pub read-in_range : (text : List ℕ) (s : Reading) → read_text text ≡ Ok s → in_range (rule_set_of s) ≡ true
read-in_range text s e =
    let h : Sound s × (s.place ≡ Between) = read_sound text s e in
    sound_in_range s h.0 h.1

-- The image that a text gives is valid.
pub read-valid : (text : List ℕ) (s : Reading) → read_text text ≡ Ok s → valid (image_of (rule_set_of s)) ≡ true
read-valid text s e = image_valid (rule_set_of s) (read-in_range text s e)

-- It has at most 1,284 bytes.
pub read_image_short : (text : List ℕ) (s : Reading) → read_text text ≡ Ok s → length (image_of (rule_set_of s)) ≤ 1284
read_image_short text s e = longest (image_of (rule_set_of s)) (read-valid text s e)

-- The names of a sound reading have 1,200 bytes, 48 slots of 25.
pub length_names : (s : Reading) → Sound s → length (names_of s) ≡ 1200
unfolding names_of
length_names s h =
    let a = length-slots 32 s.symbols h.few_symbols h.symbols_named in
    let b = length-slots 16 s.words h.few_words h.words_named in
    simp length-append (omega arith)

pub read_length_names : (text : List ℕ) (s : Reading) → read_text text ≡ Ok s → length (names_of s) ≡ 1200
read_length_names text s e = length_names s (read_sound text s e).0
