-- One step in the areas: what the code writes is the state that the step leads to.
-- Assumes nothing.
use Rattle.std.specs.Prelude.{Option, None, Some}
use Prim.Native.Nat.{ℕ, zero, suc, ◌+◌, ◌-◌, ◌≤◌, ◌<◌}
use mathlib.Core.Path.{◌≡◌, refl, sym, ap, ◌∙◌}
use mathlib.Core.Bool.{true, false}
use Rattle.std.specs.Prelude.{None, Some}
use mathlib.Core.List.{List, [], ◌∷◌, ◌++◌, map, map-append}
use native.Mathlib.Omega.{arith}
use lib.ListN as ListN
use lib.ListN.{length, get_or, take, replicate, length-append, length-map}
use lib.Seq.{paste, take-append-le, take_all, length-take-le}
use borrow.Author.Tests.{leb-true, le-leb, lt-leb, eqb-true}
use Rattle.rewriting.specs.Lists.{prefix}
use Rattle.rewriting.specs.Rules.{Put, Close, Rule, RuleSet, rule}
use Rattle.rewriting.proofs.Ranges.{Ranges, ranges}
use Rattle.rewriting.proofs.Scan.{EndsWith, ending_left}
use Rattle.layout.specs.Image.{read, valid}
use Rattle.layout.proofs.Image.{valid-in_range}
use Rattle.layout.proofs.Refusals.{refusal_passed, refusal_rest}
use Rattle.layout.specs.States.{states, number, mark, after, next, matching}
use Rattle.layout.specs.Table.{table_of}
use Rattle.layout.proofs.Matching.{matching-next}
use Rattle.layout.proofs.States.{number_start}
use Rattle.machine.specs.State.{State, Step, active, replace, settle, step}
use Rattle.machine.specs.Run.{fits}
use Rattle.machine.specs.Areas.{Monitor, head_of, area_of, bytes_of, states_after, words_of, monitor_of, state_of, stands_by}
use Rattle.machine.specs.Areas.{described}
use Rattle.machine.specs.Calls.{sized, lent_checks}
use Rattle.machine.specs.Lent.{monitor_in, Passed, word_before, Matches, step_waiting, step_of, Tried, tried}
use Rattle.machine.proofs.Legal.{Legal, legal_plain}
use Rattle.machine.proofs.Areas.{length_area, length-states_after, states_after_snoc, word_at}
use Rattle.machine.proofs.Described.{Described, is-described}
use Rattle.machine.proofs.AreaWrites.{area_first, area_taken, area_settled, area_cut, area_put, states-cut, map-take}

-- the words of a settled string
pub words_after : List Rule → List ℕ → List ℕ
words_after rules s = map (number (states rules)) (states_after rules (after rules []) s)

-- what the checks of what is lent say of the state that is held
pub record Held (set : RuleSet) (capacity : ℕ) (m : Monitor) : Type 0 where
  pub in_range_lem : Ranges set
  pub legal : Legal set (state_of m)
  pub room : length (state_of m).settled + length (state_of m).waiting ≤ capacity
  pub settled_count : m.head.settled ≡ length (state_of m).settled
  pub waiting_count : m.head.waiting ≡ length (state_of m).waiting
  pub bytes_are : m.bytes ≡ area_of capacity (state_of m).settled (state_of m).waiting
  pub words_are : m.words ≡ area_of capacity (words_after set.rules (state_of m).settled) []
  pub bytes_long : length m.bytes ≡ capacity
  pub words_long : length m.words ≡ capacity

pub length_words : (rules : List Rule) (s : List ℕ) → length (words_after rules s) ≡ length s
unfolding words_after
length_words rules s =
    length-map (states_after rules (after rules []) s) (number (states rules)) ∙ length-states_after rules (after rules []) s

module _ (capacity : ℕ) (image table : List ℕ) (m : Monitor) (ok : Passed capacity image table m) where
  pub passed_valid : valid image ≡ true
  unfolding lent_checks
  passed_valid = refusal_passed _ _ _ ok

  passed_ranges : Ranges (read image)
  passed_ranges = ranges (read image) (valid-in_range image passed_valid)

  pub passed_table : prefix (table_of (read image)) table ≡ true
  unfolding lent_checks
  passed_table = refusal_passed _ _ _ (refusal_rest _ _ _ ok)

  pub passed_sized : sized capacity m.bytes m.words ≡ true
  unfolding lent_checks
  passed_sized = refusal_passed _ _ _ (refusal_rest _ _ _ (refusal_rest _ _ _ ok))

  passed_described : described (read image) capacity m ≡ true
  unfolding lent_checks
  passed_described = refusal_passed _ _ _ (refusal_rest _ _ _ (refusal_rest _ _ _ (refusal_rest _ _ _ ok)))

  pub held : Held (read image) capacity m
  unfolding monitor_of head_of bytes_of words_of words_after fits
  held =
      let d : Described (read image) capacity m =
      is-described (read image) passed_ranges capacity m passed_sized passed_described in
      let s : State = state_of m in
      let room : length s.settled + length s.waiting ≤ capacity = leb-true _ _ d.room in
      let bytes_are : m.bytes ≡ area_of capacity s.settled s.waiting = sym (ap (λ (x : Monitor). x.bytes) d.written) in
      let words_are : m.words ≡ area_of capacity (words_after (read image).rules s.settled) [] =
      sym (ap (λ (x : Monitor). x.words) d.written) in
      let few : length (words_after (read image).rules s.settled) + 0 ≤ capacity =
      omega (arith, room, length_words (read image).rules s.settled)
      in
      record {
        in_range_lem = passed_ranges;
        legal = d.legal;
        room = room;
        settled_count = sym (ap (λ (x : Monitor). x.head.settled) d.written);
        waiting_count = sym (ap (λ (x : Monitor). x.head.waiting) d.written);
        bytes_are = bytes_are;
        words_are = words_are;
        bytes_long = ap length bytes_are ∙ length_area capacity s.settled s.waiting room;
        words_long = ap length words_are ∙ length_area capacity (words_after (read image).rules s.settled) [] few;
      }

  -- the areas are those of the state that they are read as
  pub passed_written : monitor_of (read image).rules capacity (state_of m) ≡ m
  passed_written = (is-described (read image) passed_ranges capacity m passed_sized passed_described).written

  -- "that verdict's rule (0 with none)"
  pub zero-rule : m.head.verdict ≡ None → m.head.rule ≡ 0
  unfolding stands_by state_of
  zero-rule e = eqb-true m.head.rule 0 (rw e at held.legal.stands)

-- "finds its state from the word before it (state 0 at the start)"
pub word_before_lem : (set : RuleSet) (capacity : ℕ) (m : Monitor) → Held set capacity m
    → word_before m.words m.head.settled ≡ number (states set.rules) (after set.rules (state_of m).settled)
unfolding words_of words_after
word_before_lem set capacity m h = go m.head.settled refl
  where
    s : List ℕ
    s = (state_of m).settled

    empty : (l : List ℕ) → length l ≡ 0 → after set.rules l ≡ after set.rules []
    empty [] e = refl
    empty (x ∷ l) e = absurd (omega arith)

    go : (n : ℕ) → m.head.settled ≡ n → word_before m.words n ≡ number (states set.rules) (after set.rules s)
    go zero e =
        sym (ap (number (states set.rules)) (empty s (omega (arith, h.settled_count))) ∙ number_start set h.in_range_lem)
    go (suc i) e =
        ap (λ (l : List ℕ). get_or l i 0) h.words_are
        ∙ word_at set.rules capacity (state_of m) i (omega (arith, h.settled_count))
        ∙ ap (λ (l : List ℕ). number (states set.rules) (after set.rules l)) (take_all (suc i) s (omega (arith, h.settled_count)))

-- one more settled symbol has one more word
pub words_snoc : (rules : List Rule) (s : List ℕ) (a : ℕ)
    → words_after rules (s ++ a ∷ []) ≡ words_after rules s ++ number (states rules) (next rules (after rules s) a) ∷ []
unfolding words_after
words_snoc rules s a =
    ap (map (number (states rules))) (states_after_snoc rules (mark ∷ []) s a) ∙ map-append (number (states rules))
    (states_after rules (after rules []) s) (next rules (after rules s) a ∷ [])

-- cut
pub words_cut : (rules : List Rule) (s : List ℕ) (k : ℕ) → take k (words_after rules s) ≡ words_after rules (take k s)
unfolding words_after
words_cut rules s k =
    map-take (number (states rules)) (states_after rules (after rules []) s) k
    ∙ ap (map (number (states rules))) (states-cut rules (after rules []) s k)

-- the monitor that holds a state, part by part
pub holds-state : (rules : List Rule) (capacity : ℕ) (s q : List ℕ) (v : Option ℕ) (i settled waiting : ℕ) (bytes words : List ℕ)
    → settled ≡ length s → waiting ≡ length q → bytes ≡ area_of capacity s q → words ≡ area_of capacity (words_after rules s) []
    → monitor_in (record { settled = settled; waiting = waiting; verdict = v; rule = i }) bytes words
    ≡ monitor_of rules capacity (record { settled = s; waiting = q; verdict = v; rule = i })
unfolding monitor_of head_of bytes_of words_of words_after
holds-state rules capacity s q v i settled waiting bytes words es eq eb ew =
    λ j.
    record {
      head = record { settled = es j; waiting = eq j; verdict = v; rule = i };
      bytes = eb j;
      words = ew j;
    }

-- a step that fits is taken, and one that does not is not
pub tried-taken : (rules : List Rule) (capacity : ℕ) (m : Monitor) (t : Step) (to : Monitor) (rewrites put : ℕ)
    → length t.to.settled + length t.to.waiting ≤ capacity → to ≡ monitor_of rules capacity t.to → rewrites ≡ t.rewrites
    → put ≡ t.put → record { taken = true; monitor = to; rewrites = rewrites; put = put } ≡ tried rules capacity m t
unfolding tried fits
tried-taken rules capacity m t to rewrites put h em er ep =
    rw (le-leb (length t.to.settled + length t.to.waiting) capacity h)
    (λ i. record { taken = true; monitor = em i; rewrites = er i; put = ep i })

pub tried_full : (rules : List Rule) (capacity : ℕ) (m : Monitor) (t : Step)
    → capacity < length t.to.settled + length t.to.waiting
    → record { taken = false; monitor = m; rewrites = 0; put = 0 } ≡ tried rules capacity m t
unfolding tried fits
tried_full rules capacity m t h = rw (lt-leb (length t.to.settled + length t.to.waiting) capacity h)

-- a symbol waits
pub waits : (set : RuleSet) (capacity : ℕ) (m : Monitor) → Held set capacity m → 0 < m.head.waiting
    → (a : ℕ) × (q : List ℕ) × ((state_of m).waiting ≡ a ∷ q)
waits set capacity m h more = go (state_of m).waiting refl
  where
    go : (l : List ℕ) → (state_of m).waiting ≡ l → (a : ℕ) × (q : List ℕ) × ((state_of m).waiting ≡ a ∷ q)
    go [] e = absurd (omega (arith, more, h.waiting_count, ap length e))
    go (a ∷ q) e = (a, q, e)

module _ (set : RuleSet) (capacity : ℕ) (m : Monitor) (h : Held set capacity m) (a : ℕ) (q : List ℕ)
    (w : (state_of m).waiting ≡ a ∷ q) where
  -- its place, ..
  pub first_place : m.head.waiting ≡ suc (length q)
  first_place = h.waiting_count ∙ ap length w

  pub first_room : length (state_of m).settled + suc (length q) ≤ capacity
  first_room = omega (arith, h.room, ap length w)

  pub first_at : (i : ℕ) → i ≡ capacity - m.head.waiting → get_or m.bytes i 0 ≡ a
  first_at i e =
      ap (λ (l : List ℕ). get_or l i 0) (h.bytes_are ∙ ap (area_of capacity (state_of m).settled) w)
      ∙ area_first capacity (state_of m).settled a q i (omega (arith, e, first_place)) first_room

  -- .. and the bytes without it
  pub bytes-taken : (i : ℕ) → i ≡ capacity - m.head.waiting → ListN.set m.bytes i 0 ≡ area_of capacity (state_of m).settled q
  bytes-taken i e =
      ap (λ (l : List ℕ). ListN.set l i 0) (h.bytes_are ∙ ap (area_of capacity (state_of m).settled) w)
      ∙ area_taken capacity (state_of m).settled a q i (omega (arith, e, first_place)) first_room

  -- the next step
  pub step_waiting_lem : step_of set.rules (state_of m) ≡ step set.rules (state_of m).settled a q
  unfolding step_waiting
  step_waiting_lem = rw w

length-next : (s : List ℕ) (a : ℕ) {n : ℕ} → n ≡ length s → n + 1 ≡ length (s ++ a ∷ [])
length-next s a e = rw length-append (omega arith)

-- it does not complete a left side: it is settled
pub settled_step : (set : RuleSet) (capacity : ℕ) (m : Monitor) → Held set capacity m → (a : ℕ) (q : List ℕ)
    → (state_of m).waiting ≡ a ∷ q → matching set.rules (next set.rules (after set.rules (state_of m).settled) a) ≡ None
    → (first word : ℕ) → first ≡ capacity - m.head.waiting
    → word ≡ number (states set.rules) (next set.rules (after set.rules (state_of m).settled) a)
    → ◌≡◌ {A = Tried}
    (record {
      taken = true;
      monitor =
          monitor_in (record { settled = m.head.settled + 1; waiting = m.head.waiting - 1; verdict = None; rule = 0 })
          (ListN.set (ListN.set m.bytes first 0) m.head.settled a) (ListN.set m.words m.head.settled word);
      rewrites = 0;
      put = 0;
    })
    (tried set.rules capacity m (step_of set.rules (state_of m)))
unfolding step settle active
settled_step set capacity m h a q w e first word place is_word =
    rw (step_waiting_lem set capacity m h a q w, e)
    (tried-taken set.rules capacity m (record { to = active (s ++ a ∷ []) q; rewrites = 0; put = 0 }) _ 0 0
    (rw length-append (omega (arith, room)))
    (holds-state set.rules capacity (s ++ a ∷ []) q None 0 (m.head.settled + 1) (m.head.waiting - 1) _ _
    (length-next s a h.settled_count) (omega (arith, first_place set capacity m h a q w)) bytes words)
    refl refl)
  where
    s : List ℕ
    s = (state_of m).settled

    room : length s + suc (length q) ≤ capacity
    room = first_room set capacity m h a q w

    bytes : ListN.set (ListN.set m.bytes first 0) m.head.settled a ≡ area_of capacity (s ++ a ∷ []) q
    bytes =
        let fit : length s + suc (length q) ≤ capacity = room in
        ap (λ (l : List ℕ). ListN.set l m.head.settled a) (bytes-taken set capacity m h a q w first place)
        ∙ area_settled capacity s q a m.head.settled h.settled_count (omega arith)

    words : ListN.set m.words m.head.settled word ≡ area_of capacity (words_after set.rules (s ++ a ∷ [])) []
    words =
        let n : length (words_after set.rules s) ≡ length s = length_words set.rules s in
        let count : m.head.settled ≡ length s = h.settled_count in
        ap (λ (l : List ℕ). ListN.set l m.head.settled word) h.words_are
        ∙ area_settled capacity (words_after set.rules s) [] word m.head.settled (omega arith) (omega (arith, room))
        ∙ ap (λ (l : List ℕ). area_of capacity l [])
        (ap (λ (x : ℕ). words_after set.rules s ++ x ∷ []) is_word ∙ sym (words_snoc set.rules s a))

-- It completes the left side of rule i.
module _ (set : RuleSet) (capacity : ℕ) (m : Monitor) (h : Held set capacity m) (i : ℕ)
    (e : Matches set.rules (state_of m) (Some i)) where
  completed : EndsWith set.rules true ((state_of m).settled ++ e.0 ∷ []) i
  completed =
      let plain = legal_plain set h.in_range_lem (state_of m) e.0 e.1 e.2 h.legal in
      ending_left set.rules true ((state_of m).settled ++ e.0 ∷ []) i
      (sym (matching-next set.rules (state_of m).settled e.0 plain) ∙ e.3)

  pub matched_rule : i < length set.rules
  matched_rule = completed.is-rule

  pub left_some : 1 ≤ length (rule set.rules i).left
  left_some = completed.some_left

  pub left_fits : length (rule set.rules i).left ≤ m.head.settled + 1
  left_fits =
      omega (arith, completed.fits, length-append (state_of m).settled (e.0 ∷ []), h.settled_count)

  -- the step, with the first `kept` symbols kept
  replaced : (kept : ℕ) → kept ≡ m.head.settled + 1 - length (rule set.rules i).left
      → step_of set.rules (state_of m) ≡ replace (take kept (state_of m).settled) e.1 i (rule set.rules i).right
  unfolding step settle
  replaced kept k =
      let s : List ℕ = (state_of m).settled in
      let n : length (s ++ e.0 ∷ []) - length (rule set.rules i).left ≡ kept =
      rw length-append (omega (arith, k, h.settled_count))
      in
      let short : kept ≤ length s = omega (arith, k, h.settled_count, left_some) in
      rw (step_waiting_lem set capacity m h e.0 e.1 e.2, e.3)
      (ap (λ (l : List ℕ). replace l e.1 i (rule set.rules i).right)
      (ap (λ (x : ℕ). take x (s ++ e.0 ∷ [])) n ∙ take-append-le kept s (e.0 ∷ []) short))

  -- the areas with what is taken off
  pub record TakenOff (first kept : ℕ) (bytes words : List ℕ) : Type 0 where
    pub first_is : first ≡ capacity - m.head.waiting
    pub kept_is : kept ≡ m.head.settled + 1 - length (rule set.rules i).left
    pub bytes-is : bytes ≡ paste (ListN.set m.bytes first 0) kept (replicate (m.head.settled - kept) 0) (m.head.settled - kept)
    pub words_is : words ≡ paste m.words kept (replicate (m.head.settled - kept) 0) (m.head.settled - kept)

  kept_short : {first kept : ℕ} {bytes words : List ℕ} → TakenOff first kept bytes words → kept ≤ m.head.settled
  kept_short t = omega (arith, t.kept_is, left_some)

  bytes_off : {first kept : ℕ} {bytes words : List ℕ} → TakenOff first kept bytes words
      → bytes ≡ area_of capacity (take kept (state_of m).settled) e.1
  bytes_off {first} {kept} {bytes} {words} t =
      t.bytes-is
      ∙ ap (λ (l : List ℕ). paste l kept (replicate (m.head.settled - kept) 0) (m.head.settled - kept))
      (bytes-taken set capacity m h e.0 e.1 e.2 first t.first_is)
      ∙ area_cut capacity (state_of m).settled e.1 kept m.head.settled h.settled_count (kept_short t)
      (omega (arith, first_room set capacity m h e.0 e.1 e.2))

  words_off : {first kept : ℕ} {bytes words : List ℕ} → TakenOff first kept bytes words
      → words ≡ area_of capacity (words_after set.rules (take kept (state_of m).settled)) []
  words_off {first} {kept} {bytes} {words} t =
      let n : length (words_after set.rules (state_of m).settled) ≡ length (state_of m).settled =
      length_words set.rules (state_of m).settled
      in
      t.words_is
      ∙ ap (λ (l : List ℕ). paste l kept (replicate (m.head.settled - kept) 0) (m.head.settled - kept)) h.words_are
      ∙ area_cut capacity (words_after set.rules (state_of m).settled) [] kept m.head.settled (omega (arith, h.settled_count))
      (kept_short t)
      (omega (arith, h.room, n))
      ∙ ap (λ (l : List ℕ). area_of capacity l []) (words_cut set.rules (state_of m).settled kept)

  kept_length : {first kept : ℕ} {bytes words : List ℕ} → TakenOff first kept bytes words
      → length (take kept (state_of m).settled) ≡ kept
  kept_length {first} {kept} t = length-take-le kept (state_of m).settled (omega (arith, kept_short t, h.settled_count))

  -- the right side is put back, ..
  pub put_step : {first kept : ℕ} {bytes words : List ℕ} → TakenOff first kept bytes words → (v b : List ℕ) (n : ℕ)
      → (rule set.rules i).right ≡ Put v → n ≡ length v → take n b ≡ v → kept + n ≤ first + 1
      → {waiting : ℕ} {bytes' : List ℕ} → waiting ≡ m.head.waiting - 1 + n → (j : ℕ) → j ≡ first + 1 - n
      → bytes' ≡ paste bytes j b n
      → ◌≡◌ {A = Tried}
      (record {
        taken = true;
        monitor = monitor_in (record { settled = kept; waiting = waiting; verdict = None; rule = 0 }) bytes' words;
        rewrites = 1;
        put = n;
      })
      (tried set.rules capacity m (step_of set.rules (state_of m)))
  unfolding replace active
  put_step {first} {kept} {bytes} {words} t v b n r nv is_v fit waits_is j place put_is =
      let w : m.head.waiting ≡ suc (length e.1) = first_place set capacity m h e.0 e.1 e.2 in
      let room : length (state_of m).settled + suc (length e.1) ≤ capacity = first_room set capacity m h e.0 e.1 e.2 in
      let s : List ℕ = take kept (state_of m).settled in
      let short : length s ≡ kept = kept_length t in
      let all : kept + (n + length e.1) ≤ capacity = omega (arith, fit, t.first_is, w, room) in
      rw (replaced kept t.kept_is, r)
      (tried-taken set.rules capacity m (record { to = active s (v ++ e.1); rewrites = 1; put = length v }) _ 1 n
      (rw (length-append v e.1) (omega (arith, all, short, nv)))
      (holds-state set.rules capacity s (v ++ e.1) None 0 kept _ _ _ (sym short)
      (waits_is ∙ rw (length-append v e.1) (omega (arith, w, nv)))
      (put_is
      ∙ (λ k. paste (bytes_off t k) (place k) b n)
      ∙ area_put capacity s e.1 b v n (first + 1 - n) is_v nv (omega (arith, t.first_is, w, room, all))
      (omega (arith, all, short)))
      (words_off t))
      refl nv)

  -- .. unless there is no room for it
  pub full_step : (first kept : ℕ) (v : List ℕ) (n : ℕ) → first ≡ capacity - m.head.waiting
      → kept ≡ m.head.settled + 1 - length (rule set.rules i).left → (rule set.rules i).right ≡ Put v → n ≡ length v
      → first + 1 < kept + n
      → ◌≡◌ {A = Tried} (record { taken = false; monitor = m; rewrites = 0; put = 0 })
      (tried set.rules capacity m (step_of set.rules (state_of m)))
  unfolding replace active
  full_step first kept v n f k r nv full =
      let w : m.head.waiting ≡ suc (length e.1) = first_place set capacity m h e.0 e.1 e.2 in
      let room : length (state_of m).settled + suc (length e.1) ≤ capacity = first_room set capacity m h e.0 e.1 e.2 in
      let s : List ℕ = take kept (state_of m).settled in
      let short : length s ≡ kept = length-take-le kept (state_of m).settled (omega (arith, k, left_some, h.settled_count)) in
      rw (replaced kept k, r)
      (tried_full set.rules capacity m (record { to = active s (v ++ e.1); rewrites = 1; put = length v })
      (rw (length-append v e.1) (omega (arith, full, f, w, room, short, nv))))

  -- or the verdict is set
  pub close_step : {first kept : ℕ} {bytes words : List ℕ} → TakenOff first kept bytes words → (v : ℕ)
      → (rule set.rules i).right ≡ Close v
      → ◌≡◌ {A = Tried}
      (record {
        taken = true;
        monitor = monitor_in (record { settled = kept; waiting = m.head.waiting - 1; verdict = Some v; rule = i }) bytes words;
        rewrites = 1;
        put = 0;
      })
      (tried set.rules capacity m (step_of set.rules (state_of m)))
  unfolding replace
  close_step {first} {kept} {bytes} {words} t v r =
      let w : m.head.waiting ≡ suc (length e.1) = first_place set capacity m h e.0 e.1 e.2 in
      let room : length (state_of m).settled + suc (length e.1) ≤ capacity = first_room set capacity m h e.0 e.1 e.2 in
      let s : List ℕ = take kept (state_of m).settled in
      let short : length s ≡ kept = kept_length t in
      rw (replaced kept t.kept_is, r)
      (tried-taken set.rules capacity m
      (record { to = record { settled = s; waiting = e.1; verdict = Some v; rule = i }; rewrites = 1; put = 0 }) _ 1 0
      (omega (arith, room, short, kept_short t, h.settled_count))
      (holds-state set.rules capacity s e.1 (Some v) i kept (m.head.waiting - 1) _ _ (sym short) (omega (arith, w)) (bytes_off t)
      (words_off t))
      refl refl)
