-- Laws of a string's names, written with a comma before each.
-- Assumes nothing.
use Prim.Native.Nat.{ℕ, suc, ◌+◌, ◌*◌, ◌-◌, ◌≤◌, ◌<◌}
use mathlib.Core.Path.{◌≡◌, refl, sym, ap, ◌∙◌}
use mathlib.Core.List.{List, [], ◌∷◌, ◌++◌, append_assoc, flat_map}
use native.Mathlib.Omega.{arith}
use lib.ListN.{length, get_or, take, drop, length-append, length-drop, length-take}
use lib.Seq.{take_all, length-take-le, take-suc}
use lib.Dec.{ltb}
use mathlib.Core.Bool.{true}
use borrow.Author.Tests.{ltb-true}
use Rattle.rewriting.specs.Lists.{below}
use Rattle.rewriting.proofs.Lists.{flat_map_snoc, and_right, all_left, all_right, all_at}
use Rattle.machine.specs.Areas.{state_of}
use Rattle.machine.specs.Calls.{Outcome}
use Rattle.machine.specs.Play.{string_of}
use Rattle.printing.specs.Lines.{space, comma, dash, decimal, name_in, joined, counted}
use Rattle.lines.specs.declared.Line.{Line}
use Rattle.lines.specs.Wrote.{Written, Writes, written_in, WritesIn, Small}
use Rattle.printing.proofs.Decimals.{decimal-length}
use Rattle.printing.proofs.SlotNames.{name-length}
use Rattle.lines.proofs.Writing.{room_left, writes_nothing, writes_then, writes_as, writes_in, as_written, writes_nothing_in}

abbrev pub named : List ℕ → ℕ → List ℕ
named names b = comma ∷ name_in names b

abbrev pub with_commas : List ℕ → List ℕ → List ℕ
with_commas names s = flat_map (named names) s

pub commas_length : (names s : List ℕ) → length (with_commas names s) ≤ 25 * length s
unfolding flat_map
commas_length names [] = omega arith
commas_length names (a ∷ s) =
    omega (arith, length-append (named names a) (with_commas names s), name-length names a, commas_length names s)

pub commas_append : (names s q : List ℕ) → with_commas names (s ++ q) ≡ with_commas names s ++ with_commas names q
unfolding flat_map
commas_append names [] q = refl
commas_append names (a ∷ s) q =
    rw (append_assoc (named names a) (with_commas names s) (with_commas names q))
    (ap (λ (l : List ℕ). named names a ++ l) (commas_append names s q))

-- The names of the first i symbols are written.
abbrev pub Naming : List ℕ → List ℕ → Written → Written → ℕ → Type 0
Naming names symbols l₀ l i = Writes (with_commas names (take i symbols)) l₀ l

pub naming_first : (names symbols : List ℕ) (l : Written) → Naming names symbols l l 0
unfolding flat_map
naming_first names symbols l = writes_nothing l

pub naming_room :
    (names symbols : List ℕ) {l₀ l : Written} {i : ℕ} → Naming names symbols l₀ l i → i < length symbols
    → 25 * length symbols ≤ length l₀.behind → 25 ≤ length l.behind
naming_room names symbols {i = i} n h room =
    omega (arith, room_left n, commas_length names (take i symbols), length-take-le i symbols (omega arith))

pub naming_next :
    (names symbols : List ℕ) {l₀ l l' l'' : Written} {i : ℕ} → Naming names symbols l₀ l i → i < length symbols
    → Writes (comma ∷ []) l l' → Writes (name_in names (get_or symbols i 0)) l' l''
    → Naming names symbols l₀ l'' (suc i)
naming_next names symbols {i = i} n h f g =
    writes_as
    (sym (ap (with_commas names) (take-suc symbols i 0 h) ∙ flat_map_snoc (named names) (take i symbols) (get_or symbols i 0)))
    (writes_then n (writes_then f g))

-- the same of lines as the code has them
abbrev pub NamingIn : {N : ℕ} → List ℕ → List ℕ → Line N → Line N → ℕ → Type 0
NamingIn names symbols l₀ l i = WritesIn (with_commas names (take i symbols)) l₀ l

pub naming_first_in : {N : ℕ} (names symbols : List ℕ) (l : Line N) → NamingIn names symbols l l 0
unfolding flat_map
naming_first_in names symbols l = writes_nothing_in l

pub naming_room_in :
    {N : ℕ} (names symbols : List ℕ) {l₀ l : Line N} {i : ℕ} → NamingIn names symbols l₀ l i → i < length symbols
    → 25 * length symbols ≤ length (written_in l₀).behind → 25 ≤ length (written_in l).behind
naming_room_in names symbols n h room = naming_room names symbols (as_written n) h room

pub naming_next_in :
    {N : ℕ} (names symbols : List ℕ) {l₀ l l' l'' : Line N} {i : ℕ} → NamingIn names symbols l₀ l i → i < length symbols
    → WritesIn (comma ∷ []) l l' → WritesIn (name_in names (get_or symbols i 0)) l' l''
    → NamingIn names symbols l₀ l'' (suc i)
naming_next_in names symbols n h f g =
    writes_in (naming_next names symbols (as_written n) h (as_written f) (as_written g)) (g.same ∙ f.same ∙ n.same)

-- a string in two parts: its first symbol is the first part's, or, where that is empty, the second one's; or there is none
pub joined_left :
    (names settled waiting : List ℕ) (a : ℕ) (s : List ℕ) → settled ≡ a ∷ s
    → name_in names a ++ (with_commas names s ++ with_commas names waiting) ≡ joined names (settled ++ waiting)
unfolding joined
joined_left names settled waiting a s e = rw (e, commas_append names s waiting) refl

pub joined_right :
    (names settled waiting : List ℕ) (a : ℕ) (s : List ℕ) → length settled ≡ 0 → waiting ≡ a ∷ s
    → name_in names a ++ with_commas names s ≡ joined names (settled ++ waiting)
unfolding joined
joined_right names [] waiting a s none e = rw e refl
joined_right names (b ∷ t) waiting a s none e = absurd (omega arith)

pub joined_none :
    (names settled waiting : List ℕ) → length settled ≡ 0 → length waiting ≡ 0 → dash ∷ [] ≡ joined names (settled ++ waiting)
unfolding joined
joined_none names [] [] none none_waits = refl
joined_none names [] (b ∷ t) none none_waits = absurd (omega arith)
joined_none names (b ∷ t) waiting none none_waits = absurd (omega arith)

-- how long that is
pub joined_length : (names s : List ℕ) (n : ℕ) → length s ≤ n → 1 ≤ n → length (joined names s) + 1 ≤ 25 * n
unfolding joined flat_map
joined_length names [] n h some_n = omega arith
joined_length names (a ∷ s) n h some_n = omega (arith, commas_length names (a ∷ s))

-- the counts, and what is told of an outcome that keeps to `Small`
pub counts_length : (steps rewrites : ℕ) → steps ≤ 1000 → rewrites ≤ 1000 → length (decimal steps ++ space ∷ decimal rewrites) ≤ 9
counts_length steps rewrites h g =
    omega (
      arith,
      length-append (decimal steps) (space ∷ decimal rewrites),
      decimal-length 3 steps (omega arith),
      decimal-length 3 rewrites (omega arith),
    )

pub counted_length : (names : List ℕ) (o : Outcome) → Small o → length (counted names o) ≤ 51209
unfolding counted string_of state_of
counted_length names o small =
    let steps : List ℕ = decimal o.counts.steps in
    let rewrites : List ℕ = decimal o.counts.rewrites in
    let bytes : List ℕ = o.monitor.bytes in
    let settled : List ℕ = take o.monitor.head.settled bytes in
    let waiting : List ℕ = drop (length bytes - o.monitor.head.waiting) bytes in
    let few : length (settled ++ waiting) ≤ 2048 =
    omega (
      arith,
      small.string,
      length-append settled waiting,
      length-take o.monitor.head.settled bytes,
      length-drop (length bytes - o.monitor.head.waiting) bytes,
    ) in
    omega (
      arith,
      length-append steps (space ∷ (rewrites ++ space ∷ joined names (settled ++ waiting))),
      length-append rewrites (space ∷ joined names (settled ++ waiting)),
      decimal-length 3 o.counts.steps (omega (arith, small.steps)),
      decimal-length 3 o.counts.rewrites (omega (arith, small.rewrites)),
      joined_length names (settled ++ waiting) 2048 few (omega arith),
    )

-- the symbols that are settled, and those that wait, as the code takes them from the bytes
pub string_in :
    (a w : ℕ) (bytes : List ℕ) → length bytes ≡ 2048
    → take a bytes ++ take (2048 - (2048 - w)) (drop (2048 - w) bytes) ≡ take a bytes ++ drop (length bytes - w) bytes
string_in a w bytes size =
    let part : List ℕ = drop (2048 - w) bytes in
    let whole : take (2048 - (2048 - w)) part ≡ part =
    take_all (2048 - (2048 - w)) part (omega (arith, length-drop (2048 - w) bytes))
    in
    rw (whole, size)

-- what is behind a string's first symbol has slots too
pub others_below : (x s : List ℕ) (a : ℕ) → x ≡ a ∷ s → below 48 x ≡ true → below 48 s ≡ true
others_below x s a e p = and_right (ltb a 48) (below 48 s) (rw e at p)

-- each part of a string, and each of its symbols
pub settled_below : (settled waiting : List ℕ) → below 48 (settled ++ waiting) ≡ true → below 48 settled ≡ true
settled_below settled waiting = all_left (λ x. ltb x 48) settled waiting

pub waiting_below : (settled waiting : List ℕ) → below 48 (settled ++ waiting) ≡ true → below 48 waiting ≡ true
waiting_below settled waiting = all_right (λ x. ltb x 48) settled waiting

pub symbol_below : (symbols : List ℕ) (i : ℕ) → below 48 symbols ≡ true → i < length symbols → get_or symbols i 0 < 48
symbol_below symbols i p h = ltb-true (get_or symbols i 0) 48 (all_at (λ x. ltb x 48) symbols 0 p i h)
