-- Laws of names: the number of a name, the lookup of a name in its slots, and that no name has two numbers.
-- Assumes nothing.
use Prim.Native.Nat.{ℕ, zero, suc, ◌+◌, ◌*◌, ◌-◌, ◌≤◌, ◌<◌}
use mathlib.Core.Path.{◌≡◌, refl, sym, ap, ◌∙◌}
use mathlib.Core.Bool.{Bool, true, false, cond, ◌&&◌}
use Rattle.std.specs.Prelude.{Option, None, Some, option_map, Ok, Err}
use mathlib.Core.List.{List, [], ◌∷◌, ◌++◌, append_assoc, flat_map}
use mathlib.Core.Logic.{◌⊎◌, inl, inr}
use native.Mathlib.Omega.{arith}
use native.Mathlib.Nat.{le_of_suc-le-suc, not-suc-le-zero}
use lib.Dec.{leb, ltb}
use lib.ListN.{length, get_or, take, drop, replicate, length-append, replicate-append-replicate, get_or-append}
use lib.Seq.{take_at, drop_at, get_or_at}
use borrow.Author.Tests.{ne_eqb, le-leb, ltb-true, ltb-false}
use Rattle.rewriting.specs.Lists.{all, same, between, over}
use Rattle.rewriting.specs.Rules.{Put, Rule}
use Rattle.rewriting.proofs.Lists.{and_left, and_right, and_both, all_at, same_eq, same_refl, between_low}
use Rattle.grammar.specs.Tokens.{is_name, Token, Name, Word, Arrow, Stop, Mark}
use Rattle.grammar.specs.Names.{number_of, Numbered, or_new, numbered, slot, slots}
use Rattle.grammar.specs.Grammar.{
  Place,
  First,
  Events,
  Between,
  Marked,
  InLeft,
  InRight,
  Ending,
  Reading,
  Taken,
  events_word,
  epsilon_word,
  fail_word,
  succeed_word,
  begun,
  placed,
  with_symbol,
  symbol,
  event,
  side_symbol,
  first_symbol,
  name,
  with_verdict,
  right_word,
  word,
  arrow,
  mark,
  close_events,
  rule_with,
  close_rule,
  stop,
  after_token,
}
use Rattle.grammar.specs.Read.{read_text, names_of}
use Rattle.grammar.specs.Lookup.{slot_at, symbol_named}
use Rattle.grammar.specs.Sound.{Sound}
use Rattle.grammar.proofs.Slots.{name-some, name_short, length-slot, length-slots, same-slot}
use Rattle.grammar.proofs.Sound.{cond_either, NamedToken, number-below, text_keeps, read_sound}

-- A number found is the place of the name among the names.
pub number_at : (names : List (List ℕ)) (x : List ℕ) (i : ℕ) → number_of names x ≡ Some i → get_or names i [] ≡ x
unfolding number_of
number_at [] x i e = let z : ◌≡◌ {A = ℕ} 0 1 = cc in absurd (omega arith)
number_at (y ∷ names) x i e = first (same y x) refl (number_at names x) e
  where
    later :
        (o : Option ℕ) → ((j : ℕ) → o ≡ Some j → get_or names j [] ≡ x) → option_map suc o ≡ Some i
        → get_or (y ∷ names) i [] ≡ x
    later None ih p = let z : ◌≡◌ {A = ℕ} 0 1 = cc in absurd (omega arith)
    later (Some j) ih p = let q : suc j ≡ i = cc in rw (← q) (ih j refl)

    first :
        (b : Bool) → same y x ≡ b → ((j : ℕ) → number_of names x ≡ Some j → get_or names j [] ≡ x)
        → cond b (Some 0) (option_map suc (number_of names x)) ≡ Some i → get_or (y ∷ names) i [] ≡ x
    first true s ih p = let q : 0 ≡ i = cc in rw (← q) (same_eq y x s)
    first false s ih p = later (number_of names x) ih p

-- Among names, a number is found of a name only.
pub number-named :
    (names : List (List ℕ)) (x : List ℕ) (i : ℕ) → all is_name names ≡ true → number_of names x ≡ Some i → is_name x ≡ true
number-named names x i named e =
    rw (number_at names x i e) at (all_at is_name names [] named i (number-below names x i e))

-- More names behind change no number found, and a new name has the next one.
pub number_kept :
    (names more : List (List ℕ)) (x : List ℕ) (i : ℕ) → number_of names x ≡ Some i → number_of (names ++ more) x ≡ Some i
unfolding number_of
number_kept [] more x i e = let z : ◌≡◌ {A = ℕ} 0 1 = cc in absurd (omega arith)
number_kept (y ∷ names) more x i e = first (same y x) (number_kept names more x) e
  where
    later :
        (o : Option ℕ) → ((j : ℕ) → o ≡ Some j → number_of (names ++ more) x ≡ Some j) → option_map suc o ≡ Some i
        → option_map suc (number_of (names ++ more) x) ≡ Some i
    later None ih p = let z : ◌≡◌ {A = ℕ} 0 1 = cc in absurd (omega arith)
    later (Some j) ih p = rw (ih j refl) p

    first :
        (b : Bool) → ((j : ℕ) → number_of names x ≡ Some j → number_of (names ++ more) x ≡ Some j)
        → cond b (Some 0) (option_map suc (number_of names x)) ≡ Some i
        → cond b (Some 0) (option_map suc (number_of (names ++ more) x)) ≡ Some i
    first true ih p = p
    first false ih p = later (number_of names x) ih p

pub number-next :
    (names more : List (List ℕ)) (x : List ℕ) → number_of names x ≡ None
    → number_of (names ++ x ∷ more) x ≡ Some (length names)
unfolding number_of
number-next [] more x e = rw (same_refl x)
number-next (y ∷ names) more x e = first (same y x) (number-next names more x) e
  where
    later :
        (o : Option ℕ) → (o ≡ None → number_of (names ++ x ∷ more) x ≡ Some (length names)) → option_map suc o ≡ None
        → option_map suc (number_of (names ++ x ∷ more) x) ≡ Some (suc (length names))
    later None ih p = rw (ih refl)
    later (Some j) ih p = let z : ◌≡◌ {A = ℕ} 0 1 = cc in absurd (omega arith)

    first :
        (b : Bool) → (number_of names x ≡ None → number_of (names ++ x ∷ more) x ≡ Some (length names))
        → cond b (Some 0) (option_map suc (number_of names x)) ≡ None
        → cond b (Some 0) (option_map suc (number_of (names ++ x ∷ more) x)) ≡ Some (suc (length names))
    first true ih p = let z : ◌≡◌ {A = ℕ} 0 1 = cc in absurd (omega arith)
    first false ih p = later (number_of names x) ih p

-- A used slot is that of its name and of no other.
pub slot-named : (x y rest : List ℕ) → is_name y ≡ true → same (slot x) (take 25 (slot y ++ rest)) ≡ same y x
slot-named x y rest e = rw (take_at (slot y) rest 25 (length-slot y (name_short y e))) (same-slot x y)

-- an unused slot is that of none
pub slot_unused : (x area : List ℕ) → 1 ≤ length x → same (slot x) (take 25 (0 ∷ area)) ≡ false
unfolding slot
slot_unused x area h = rw (ne_eqb (length x) 0 (λ e. omega arith))

-- The slots of names, and k more that do not have x: the slot with x is the one with its number.
pub slots_then :
    (x : List ℕ) (names : List (List ℕ)) (m k : ℕ) (rest : List ℕ) → all is_name names ≡ true → m ≡ k + length names
    → slot_at (slot x) k rest ≡ None → slot_at (slot x) m (flat_map slot names ++ rest) ≡ number_of names x
unfolding slot_at number_of flat_map
slots_then x [] m k rest named size e = let p : m ≡ k = omega arith in rw p e
slots_then x (y ∷ names) zero k rest named size e = absurd (omega arith)
slots_then x (y ∷ names) (suc m) k rest named size e =
    let y_named : is_name y ≡ true = and_left (is_name y) (all is_name names) named in
    let ih : slot_at (slot x) m (flat_map slot names ++ rest) ≡ number_of names x =
    slots_then x names m k rest (and_right (is_name y) (all is_name names) named) (omega arith) e
    in
    rw (
      append_assoc,
      slot-named x y (flat_map slot names ++ rest) y_named,
      drop_at (slot y) (flat_map slot names ++ rest) 25 (length-slot y (name_short y y_named)),
      ih,
    )

-- no unused slot has a name
pub slots_unused :
    (x : List ℕ) (k n : ℕ) (rest : List ℕ) → 1 ≤ length x → k ≤ n → slot_at (slot x) k (replicate (25 * n) 0 ++ rest) ≡ None
unfolding slot_at
slots_unused x zero n rest some_x h = refl
slots_unused x (suc k) zero rest some_x h = absurd (not-suc-le-zero h)
slots_unused x (suc k) (suc n) rest some_x h =
    let zeros : List ℕ = replicate (25 * n) 0 in
    let size : 25 * suc n ≡ 25 + 25 * n = omega arith in
    let one_more : replicate (25 * suc n) 0 ++ rest ≡ replicate 25 0 ++ (zeros ++ rest) =
    ap (λ (i : ℕ). replicate i 0 ++ rest) size
    ∙ ap (λ (l : List ℕ). l ++ rest) (sym (replicate-append-replicate 25 (25 * n) 0))
    ∙ append_assoc (replicate 25 0) zeros rest
    in
    ap (λ (l : List ℕ). slot_at (slot x) (suc k) l) one_more
    ∙ rw (slot_unused x (replicate 24 0 ++ (zeros ++ rest)) some_x, slots_unused x k n rest some_x (le_of_suc-le-suc h))

-- The first m slots have the names, whatever is behind them.
pub slots-number :
    (x : List ℕ) (m n : ℕ) (names : List (List ℕ)) (rest : List ℕ) → all is_name names ≡ true → length names ≤ m → m ≤ n
    → 1 ≤ length x → slot_at (slot x) m (slots n names ++ rest) ≡ number_of names x
unfolding slots
slots-number x m n names rest named few fits some_x =
    let k : ℕ = m - length names in
    let behind : List ℕ = replicate (25 * (n - length names)) 0 ++ rest in
    let unused : slot_at (slot x) k behind ≡ None = slots_unused x k (n - length names) rest some_x (omega arith) in
    rw append_assoc (slots_then x names m k behind named (omega arith) unused)

-- As many slots as there are names have them, also for an x of no bytes.
pub slots_used :
    (x : List ℕ) (n : ℕ) (names : List (List ℕ)) (rest : List ℕ) → all is_name names ≡ true
    → slot_at (slot x) (length names) (slots n names ++ rest) ≡ number_of names x
unfolding slots slot_at
slots_used x n names rest named =
    let behind : List ℕ = replicate (25 * (n - length names)) 0 ++ rest in
    rw append_assoc (slots_then x names (length names) 0 behind named (omega arith) refl)

-- A name area that begins with the slots of the symbols.
pub lookup_slots :
    (s : Reading) (rest x : List ℕ) → Sound s → symbol_named (slots 32 s.symbols ++ rest) x ≡ number_of s.symbols x
unfolding symbol_named
lookup_slots s rest x h = rw long (go (between 1 (length x) 24) refl)
  where
    area : List ℕ
    area = slots 32 s.symbols ++ rest

    long : leb 800 (length area) ≡ true
    long =
        le-leb 800 (length area)
        (omega (
          arith,
          length-append (slots 32 s.symbols) rest,
          length-slots 32 s.symbols h.few_symbols h.symbols_named,
        ))

    unnamed : (o : Option ℕ) → number_of s.symbols x ≡ o → between 1 (length x) 24 ≡ false → None ≡ o
    unnamed None e b = refl
    unnamed (Some i) e b =
        let nx : is_name x ≡ true = number-named s.symbols x i h.symbols_named e in
        let t : between 1 (length x) 24 ≡ true =
        and_both (le-leb 1 (length x) (name-some x nx)) (le-leb (length x) 24 (name_short x nx))
        in
        let z : ◌≡◌ {A = ℕ} 0 1 = cc in
        absurd (omega arith)

    go : (b : Bool) → between 1 (length x) 24 ≡ b → cond (b && true) (slot_at (slot x) 32 area) None ≡ number_of s.symbols x
    go true e =
        slots-number x 32 32 s.symbols rest h.symbols_named h.few_symbols (omega arith)
        (between_low 1 (length x) 24 e)
    go false e = unnamed (number_of s.symbols x) refl e

-- The lookup in the names that the reader wrote is the number of the name, in a longer area too.
pub lookup_names : (s : Reading) (x : List ℕ) → Sound s → symbol_named (names_of s) x ≡ number_of s.symbols x
unfolding names_of
lookup_names s x h = lookup_slots s (slots 16 s.words) x h

pub lookup_over :
    (s : Reading) (area x : List ℕ) → Sound s → symbol_named (over (names_of s) area) x ≡ number_of s.symbols x
unfolding names_of over
lookup_over s area x h =
    rw append_assoc (lookup_slots s (slots 16 s.words ++ drop (length (names_of s)) area) x h)

pub lookup_read :
    (text : List ℕ) (s : Reading) (area x : List ℕ) → read_text text ≡ Ok s
    → symbol_named (over (names_of s) area) x ≡ number_of s.symbols x
lookup_read text s area x e = lookup_over s area x (read_sound text s e).0

-- No name has two numbers: each has the number of its place.
abbrev pub Distinct : List (List ℕ) → Type 0
Distinct names = (i : ℕ) → i < length names → number_of names (get_or names i []) ≡ Some i

-- two places have two names
pub names_differ :
    (names : List (List ℕ)) (i j : ℕ) → Distinct names → i < length names → j < length names
    → get_or names i [] ≡ get_or names j [] → i ≡ j
names_differ names i j d hi hj e =
    let p : number_of names (get_or names i []) ≡ Some i = d i hi in
    let q : number_of names (get_or names j []) ≡ Some j = d j hj in
    cc

pub distinct_added :
    (names : List (List ℕ)) (x : List ℕ) → Distinct names → number_of names x ≡ None → Distinct (names ++ x ∷ [])
distinct_added names x d new i h = go (ltb i (length names)) refl
  where
    go : (b : Bool) → ltb i (length names) ≡ b → number_of (names ++ x ∷ []) (get_or (names ++ x ∷ []) i []) ≡ Some i
    go true e =
        let lt : i < length names = ltb-true i (length names) e in
        rw (get_or-append names (x ∷ []) [] i lt) (number_kept names (x ∷ []) (get_or names i []) i (d i lt))
    go false e =
        let last : length names ≡ i = omega (arith, simp length-append at h, ltb-false i (length names) e) in
        rw (get_or_at names x [] [] i last) (number-next names [] x new ∙ ap Some last)

-- the names are as before, or have one new name behind them
abbrev pub Adds : List (List ℕ) → List (List ℕ) → Type 0
Adds names more = (more ≡ names) ⊎ ((x : List ℕ) × (number_of names x ≡ None) × (more ≡ names ++ x ∷ []))

pub adds_numbered :
    (most : ℕ) (names : List (List ℕ)) (x : List ℕ) (n : Numbered) → numbered most names x ≡ Some n
    → Adds names n.names
unfolding numbered or_new
adds_numbered most names x n e = go (number_of names x) refl e
  where
    last : (b : Bool) → number_of names x ≡ None
        → cond b (Some (record { number = length names; names = names ++ x ∷ [] })) None ≡ Some n → Adds names n.names
    last true new p =
        let q : record { number = length names; names = names ++ x ∷ [] } ≡ n = cc in
        inr (x, new, sym (ap (λ (m : Numbered). m.names) q))
    last false new p = let z : ◌≡◌ {A = ℕ} 0 1 = cc in absurd (omega arith)

    go : (o : Option ℕ) → number_of names x ≡ o → or_new most names x o ≡ Some n → Adds names n.names
    go (Some i) found p =
        let q : record { number = i; names = names } ≡ n = cc in
        inl (sym (ap (λ (m : Numbered). m.names) q))
    go None found p = last (ltb (length names) most) found p

pub distinct_adds : (names more : List (List ℕ)) → Distinct names → Adds names more → Distinct more
distinct_adds names more d (inl e) = rw e d
distinct_adds names more d (inr h) = rw h.2 (distinct_added names h.0 d h.1)

-- A token adds at most one symbol, or one word.
abbrev pub Added : Reading → Taken → Type 0
Added s t = (s' : Reading) → t ≡ Ok s' → Adds s.symbols s'.symbols × Adds s.words s'.words

added_breaks : (s : Reading) (n : ℕ) → Added s (Err n)
added_breaks s n s' e = let z : ◌≡◌ {A = ℕ} 0 1 = cc in absurd (omega arith)

added_goes : (s s'' : Reading) → Adds s.symbols s''.symbols → Adds s.words s''.words → Added s (Ok s'')
added_goes s s'' a b s' e = let p : s'' ≡ s' = cc in rw (← p) (a, b)

added-placed : (s : Reading) (p : Place) → Added s (Ok (placed s p))
unfolding placed
added-placed s p = added_goes s (placed s p) (inl refl) (inl refl)

added-symbol : (s : Reading) (x : List ℕ) (to : ℕ → Place) → Added s (symbol s x to)
unfolding symbol with_symbol
added-symbol s x to = go (numbered 32 s.symbols x) refl
  where
    go : (o : Option Numbered) → numbered 32 s.symbols x ≡ o → Added s (with_symbol s to o)
    go None e = added_breaks s 5
    go (Some n) e = added_goes s _ (adds_numbered 32 s.symbols x n e) (inl refl)

added_side : (s : Reading) (x side : List ℕ) (to : List ℕ → Place) → Added s (side_symbol s x side to)
unfolding side_symbol
added_side s x side to =
    cond_either (Added s) (ltb (length side) 8) _ _ (λ _. added-symbol s x (λ i. to (side ++ i ∷ []))) (λ _. added_breaks s 5)

added-event : (s : Reading) (x : List ℕ) (o : Option ℕ) → Added s (event s x o)
unfolding event
added-event s x None = added-symbol s x (λ i. Events)
added-event s x (Some i) = added_breaks s 6

added-first_symbol : (s : Reading) (x : List ℕ) (m : Bool) → Added s (first_symbol s x m)
unfolding first_symbol
added-first_symbol s x m =
    cond_either (Added s) (ltb (length s.rules) 64) _ _ (λ _. added_side s x [] (InLeft m)) (λ _. added_breaks s 5)

added-name : (s : Reading) (x : List ℕ) (p : Place) → Added s (name s x p)
unfolding name
added-name s x First =
    cond_either (Added s) (same x events_word) _ _ (λ _. added-placed s Events) (λ _. added_breaks s 4)
added-name s x Events = added-event s x (number_of s.symbols x)
added-name s x Between = added-first_symbol s x false
added-name s x Marked = added-first_symbol s x true
added-name s x (InLeft m l) = added_side s x l (InLeft m)
added-name s x (InRight m l v) = added_side s x v (InRight m l)
added-name s x (Ending m l r) = added_breaks s 4

added_verdict : (s : Reading) (x : List ℕ) (m : Bool) (l : List ℕ) → Added s (with_verdict s m l (numbered 16 s.words x))
unfolding with_verdict
added_verdict s x m l = go (numbered 16 s.words x) refl
  where
    go : (o : Option Numbered) → numbered 16 s.words x ≡ o → Added s (with_verdict s m l o)
    go None e = added_breaks s 5
    go (Some n) e = added_goes s _ (inl refl) (adds_numbered 16 s.words x n e)

added-word : (s : Reading) (x : List ℕ) (p : Place) → Added s (word s x p)
unfolding word right_word
added-word s x First = added_breaks s 4
added-word s x Events = added_breaks s 4
added-word s x Between = added_breaks s 4
added-word s x Marked = added_breaks s 4
added-word s x (InLeft m l) = added_breaks s 4
added-word s x (InRight m l []) =
    cond_either (Added s) (same x epsilon_word) _ _ (λ _. added-placed s (Ending m l (Put []))) (λ _. added_verdict s x m l)
added-word s x (InRight m l (a ∷ v)) = added_breaks s 4
added-word s x (Ending m l r) = added_breaks s 4

added-arrow : (s : Reading) (p : Place) → Added s (arrow s p)
unfolding arrow
added-arrow s First = added_breaks s 4
added-arrow s Events = added_breaks s 4
added-arrow s Between = added_breaks s 4
added-arrow s Marked = added_breaks s 4
added-arrow s (InLeft m l) = added-placed s (InRight m l [])
added-arrow s (InRight m l v) = added_breaks s 4
added-arrow s (Ending m l r) = added_breaks s 4

added-mark : (s : Reading) (p : Place) → Added s (mark s p)
unfolding mark
added-mark s First = added_breaks s 4
added-mark s Events = added_breaks s 4
added-mark s Between = added-placed s Marked
added-mark s Marked = added_breaks s 4
added-mark s (InLeft m l) = added_breaks s 4
added-mark s (InRight m l v) = added_breaks s 4
added-mark s (Ending m l r) = added_breaks s 4

added-close_events : (s : Reading) (names : List (List ℕ)) → Added s (close_events s names)
unfolding close_events
added-close_events s [] = added_breaks s 4
added-close_events s (x ∷ names) = added_goes s _ (inl refl) (inl refl)

added-close_rule : (s : Reading) (r : Rule) → Added s (close_rule s r)
unfolding close_rule
added-close_rule s r = added_goes s _ (inl refl) (inl refl)

added-stop : (s : Reading) (p : Place) → Added s (stop s p)
unfolding stop
added-stop s First = added_breaks s 4
added-stop s Events = added-close_events s s.symbols
added-stop s Between = added_breaks s 4
added-stop s Marked = added_breaks s 4
added-stop s (InLeft m l) = added_breaks s 4
added-stop s (InRight m l []) = added_breaks s 4
added-stop s (InRight m l (a ∷ v)) = added-close_rule s (rule_with m l (Put (a ∷ v)))
added-stop s (Ending m l r) = added-close_rule s (rule_with m l r)

pub added-after : (s : Reading) (t : Token) → Added s (after_token s t)
unfolding after_token
added-after s (Name x) = added-name s x s.place
added-after s (Word x) = added-word s x s.place
added-after s Arrow = added-arrow s s.place
added-after s Stop = added-stop s s.place
added-after s Mark = added-mark s s.place

-- So no two symbols of a text have one name, nor have two verdicts, and verdicts 0 and 1 are `fail` and `succeed`.
pub record NamesKept (s : Reading) : Type 0 where
  pub symbols_differ : Distinct s.symbols
  pub words_differ : Distinct s.words
  pub fail_first : get_or s.words 0 [] ≡ fail_word
  pub succeed_second : get_or s.words 1 [] ≡ succeed_word
  pub two_words : 2 ≤ length s.words

names_begun : NamesKept begun
unfolding begun number_of
names_begun =
    record {
      symbols_differ = λ i h. absurd (not-suc-le-zero h);
      words_differ = two;
      fail_first = refl;
      succeed_second = refl;
      two_words = omega arith;
    }
  where
    two : Distinct (fail_word ∷ succeed_word ∷ [])
    two zero h = refl
    two (suc zero) h = refl
    two (suc (suc i)) h = absurd (omega arith)

first_adds :
    (names more : List (List ℕ)) (i : ℕ) → i < length names → Adds names more → get_or more i [] ≡ get_or names i []
first_adds names more i h (inl e) = rw e
first_adds names more i h (inr a) = rw a.2 (get_or-append names (a.0 ∷ []) [] i h)

length_adds : (names more : List (List ℕ)) → Adds names more → length names ≤ length more
length_adds names more (inl e) = rw e (omega arith)
length_adds names more (inr a) = rw a.2 (simp length-append (omega arith))

names_after :
    (s : Reading) (t : Token) → NamesKept s → NamedToken t → (s' : Reading) → after_token s t ≡ Ok s' → NamesKept s'
names_after s t k nx s' e =
    let a : Adds s.symbols s'.symbols × Adds s.words s'.words = added-after s t s' e in
    record {
      symbols_differ = distinct_adds s.symbols s'.symbols k.symbols_differ a.0;
      words_differ = distinct_adds s.words s'.words k.words_differ a.1;
      fail_first = first_adds s.words s'.words 0 (omega arith) a.1 ∙ k.fail_first;
      succeed_second = first_adds s.words s'.words 1 (omega arith) a.1 ∙ k.succeed_second;
      two_words = omega (arith, length_adds s.words s'.words a.1);
    }

pub read_names : (text : List ℕ) (s : Reading) → read_text text ≡ Ok s → NamesKept s
read_names text s e = (text_keeps NamesKept names_after names_begun text s e).0

-- Each symbol of a text is found by its name, and what is found by a name has it.
pub lookup_symbol :
    (text : List ℕ) (s : Reading) (area : List ℕ) (i : ℕ) → read_text text ≡ Ok s → i < length s.symbols
    → symbol_named (over (names_of s) area) (get_or s.symbols i []) ≡ Some i
lookup_symbol text s area i e h =
    lookup_read text s area (get_or s.symbols i []) e ∙ (read_names text s e).symbols_differ i h

pub lookup_found :
    (text : List ℕ) (s : Reading) (area x : List ℕ) (i : ℕ) → read_text text ≡ Ok s
    → symbol_named (over (names_of s) area) x ≡ Some i → (i < length s.symbols) × (get_or s.symbols i [] ≡ x)
lookup_found text s area x i e found =
    let p : number_of s.symbols x ≡ Some i = sym (lookup_read text s area x e) ∙ found in
    (number-below s.symbols x i p, number_at s.symbols x i p)
