-- `table::rows::lay_children` meets its contract. The loop's invariant: the children that were gone through are laid.
use Prim.Native.Nat.{ℕ, ◌+◌, ◌*◌, ◌<◌}
use mathlib.Core.Path.{◌≡◌, ap, ◌∙◌}
use native.Mathlib.Omega.{arith}
use lib.ListN.{length, replicate, length-replicate, get_or, drop, length-drop, length-append}
use mathlib.Core.List.{List, [], ◌∷◌, ◌++◌}
use denote.Ref.{Bor}
use Rattle.std.specs.List.{enumerate_from}
use Rattle.std.specs.Iterator.Adapters.{enumerate_steps, skip_steps}
use Rattle.std.proofs.iter.Yields.{fronts}
use Rattle.std.proofs.lemmas.Iterator.{YieldsList, YieldsList-from_slice}
use Rattle.std.proofs.lemmas.Iterator.Adapters.{YieldsList-from_skip}
use Rattle.std.proofs.lemmas.Iterator.Consumers.{YieldsList-turn, YieldsList-end, YieldsList-at, YieldsList-from_enumerate}
use Rattle.std.proofs.lemmas.List.{get_or-drop, get_or_default}
use Rattle.std.proofs.lemmas.List.FromFn.{get_or-enumerate_from, length-enumerate_from}
use Rattle.rewriting.specs.Rules.{RuleSet}
use Rattle.image.specs.Sets.{set_of}
use Rattle.layout.proofs.Image.{valid-in_range}
use Rattle.layout.specs.States.{states}
use Rattle.layout.specs.Words.{root}
use Rattle.trie.specs.declared.Node.{Node}
use Rattle.trie.specs.Nodes.{node, unused, parent, symbol}
use Rattle.layout.proofs.States.{root_below}
use Rattle.trie.proofs.Laying.{laid_none, laid_more, laid_all, Within, within}
use Rattle.trie.proofs.rows.lay_children.Goals.{After-from-a, After-into_iter-c-iterator}
use Rattle.trie.proofs.rows.lay_children.Goals as goal

-- the nodes behind the root with their numbers
road : (c : After-into_iter-c-iterator)
    → YieldsList (skip_steps (enumerate_steps fronts)) (λ (p : ℕ × Bor Node). (p.0, p.1.now)) c.into_iter-c-iterator.result
    (drop (c.args.rooted.root + 1) (enumerate_from 0 c.args.trie.now))
road c =
    YieldsList-from_skip (c.args.rooted.root + 1)
    (YieldsList-at {t = c.enumerate.result} (cc) (YieldsList-from_enumerate
    (YieldsList-at {t = c.iter.result} (cc) (YieldsList-from_slice c.args.trie.now (cc))) (cc))) (cc)

-- the node of a turn and its number
met : (t : List Node) (k : ℕ) (i : ℕ) (x : ℕ × Node)
    → (i < length (drop k (enumerate_from 0 t))) × (x ≡ get_or (drop k (enumerate_from 0 t)) i x)
    → (k + i < length t) × (x.0 ≡ k + i) × (x.1 ≡ node t (k + i))
met t k i x h =
    let long = length-drop k (enumerate_from 0 t) in
    let lt : k + i < length t = omega (arith, h.0, long, length-enumerate_from 0 t) in
    let e : x ≡ (0 + (k + i), get_or t (k + i) x.1) =
    h.1 ∙ get_or-drop k (enumerate_from 0 t) i x ∙ get_or-enumerate_from 0 t (k + i) x lt
    in
    (lt, ap (λ (p : ℕ × Node). p.0) e ∙ omega arith, ap (λ (p : ℕ × Node). p.1) e ∙ get_or_default t (k + i) x.1 unused lt)

-- the rows have their length at each turn
sized : (set : RuleSet) (rows₀ rows : List ℕ) (n : ℕ) → n ≡ length (states set.rules) → rows₀ ≡ replicate (n * set.symbols) 0
    → length rows ≡ length rows₀ → length rows ≡ length (states set.rules) * set.symbols
sized set rows₀ rows n count clear same =
    same ∙ ap length clear ∙ length-replicate _ 0 ∙ ap (λ (k : ℕ). k * set.symbols) count

-- the node of this turn and its number
abbrev Met : (c : After-from-a) → Type 0
Met c =
    let k = c.args.rooted.root + 1 + length c.loop-c.yielded in
    (k < length c.args.trie.now) × (c.in-Some.c ≡ k) × (c.in-Some.node.now ≡ node c.args.trie.now k)

bounds : (c : After-from-a) → Met c
    → Within c.args.trie.now c.loop-c.rows (set_of c.args.rooted.image).symbols (c.args.rooted.root + 1 + length c.loop-c.yielded)
bounds c m =
    let set = set_of c.args.rooted.image in
    within set c.args.trie.now c.loop-c.rows (valid-in_range c.args.rooted.image.bytes.now c.args.rooted.image.valid)
    c.requires.trie
    (sized set c.args.rows.now c.loop-c.rows (length c.args.trie.now) c.requires.count c.requires.clear c.loop-c.auto.rows)
    (c.args.rooted.root + 1 + length c.loop-c.yielded) (omega (arith, c.args.rooted.rooted))
    (omega (arith, m.0, c.requires.count))

-- the word that is stored is the one of the node in its parent's row
place : (c : After-from-a) → Met c
    → c.from-p.result * c.symbols-s.result + c.from-a.result
    ≡ parent c.args.trie.now (c.args.rooted.root + 1 + length c.loop-c.yielded) * (set_of c.args.rooted.image).symbols
    + symbol c.args.trie.now (c.args.rooted.root + 1 + length c.loop-c.yielded)
place c m =
    rw (c.from-p.ensures, c.symbols-s.ensures, c.from-a.ensures, m.2)

pub loop-c-init : goal.loop-c-init
loop-c-init c =
    let first : c.args.rooted.root + 1 + 0 ≡ root (set_of c.args.rooted.image).rules + 1 = omega (arith, c.args.rooted.rooted) in
    rw first
    (laid_none (set_of c.args.rooted.image) c.args.rows.now c.requires.trie.few
    (c.requires.clear ∙ ap (λ (n : ℕ). replicate (n * (set_of c.args.rooted.image).symbols) 0) c.requires.count))

pub overflow_cast-rows : goal.overflow_cast-rows
overflow_cast-rows c =
    let m =
    met c.args.trie.now (c.args.rooted.root + 1) (length c.loop-c.yielded) (c.in-Some.c, c.in-Some.node.now)
    (YieldsList-turn (road (goal.at.overflow_cast-rows c).After-into_iter-c-iterator) c.loop-c.yielded _ c.loop-c.yielded_by _ _
    (c.in-Some.c, c.in-Some.node) c.in-Some.is c.next.ensures.steps)
    in
    omega (arith, bounds c m, m.1)

pub bounds-rows-p : goal.bounds-rows-p
bounds-rows-p c =
    let m =
    met c.args.trie.now (c.args.rooted.root + 1) (length c.loop-c.yielded) (c.in-Some.c, c.in-Some.node.now)
    (YieldsList-turn (road (goal.at.bounds-rows-p c).After-into_iter-c-iterator) c.loop-c.yielded _ c.loop-c.yielded_by _ _
    (c.in-Some.c, c.in-Some.node) c.in-Some.is c.next.ensures.steps)
    in
    let a = (goal.at.bounds-rows-p c).After-from-a in
    rw (place a m) (bounds a m).place

pub loop-c-preserved : goal.loop-c-preserved
loop-c-preserved c =
    let m =
    met c.args.trie.now (c.args.rooted.root + 1) (length c.loop-c.yielded) (c.in-Some.c, c.in-Some.node.now)
    (YieldsList-turn (road (goal.at.loop-c-preserved c).After-into_iter-c-iterator) c.loop-c.yielded _ c.loop-c.yielded_by _ _
    (c.in-Some.c, c.in-Some.node) c.in-Some.is c.next.ensures.steps)
    in
    let k = c.args.rooted.root + 1 + length c.loop-c.yielded in
    let more : c.args.rooted.root + 1 + length (c.loop-c.yielded ++ (c.in-Some.c, c.in-Some.node) ∷ []) ≡ k + 1 =
    omega (arith, length-append c.loop-c.yielded ((c.in-Some.c, c.in-Some.node) ∷ []))
    in
    rw (more, place c m, m.1)
    (laid_more (set_of c.args.rooted.image) c.args.trie.now c.loop-c.rows k c.requires.trie
    (sized (set_of c.args.rooted.image) c.args.rows.now c.loop-c.rows (length c.args.trie.now) c.requires.count c.requires.clear
    c.loop-c.auto.rows)
    (omega (arith, c.args.rooted.rooted)) (omega (arith, m.0, c.requires.count)) c.loop-c.invariant)

pub returns : goal.returns
returns c =
    let set = set_of c.args.rooted.image in
    let e =
    YieldsList-end (road (goal.at.returns c).After-into_iter-c-iterator) c.loop-c.yielded _ c.loop-c.yielded_by _ _ c.in-None.is
    c.next.ensures.steps
    in
    let all : c.args.rooted.root + 1 + length c.loop-c.yielded ≡ length (states set.rules) =
    omega (
      arith,
      e.1,
      length-drop (c.args.rooted.root + 1) (enumerate_from 0 c.args.trie.now),
      length-enumerate_from 0 c.args.trie.now,
      c.requires.count,
      c.args.rooted.rooted,
      root_below set.rules,
    )
    in
    laid_all set c.loop-c.rows
    (sized set c.args.rows.now c.loop-c.rows (length c.args.trie.now) c.requires.count c.requires.clear c.loop-c.auto.rows)
    (rw all at c.loop-c.invariant)
