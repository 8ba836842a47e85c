-- `trie::begin` meets its contract: with a mark node 0 is planted, and without one the words are 0 as they should be.
use Prim.Native.Nat.{ℕ}
use mathlib.Core.Path.{◌≡◌, refl, sym, ap, subst, ◌∙◌}
use mathlib.Core.List.{List}
use native.Mathlib.Omega.{arith}
use Rattle.image.specs.Sets.{set_of}
use Rattle.layout.specs.Words
use Rattle.layout.proofs.Image.{valid-in_range}
use Rattle.layout.proofs.States.{root_small}
use Rattle.trie.specs.declared.Node.{Node}
use Rattle.trie.specs.Nodes.{planted, Grown}
use Rattle.trie.proofs.Building.{grown_first, planted-none}
use Rattle.trie.proofs.begin.Goals as goal

pub returns-then-rooted-gt0 : goal.returns-then-rooted-gt0
returns-then-rooted-gt0 c =
    let set = set_of c.args.rooted.image in
    let t = c.args.trie.now in
    let one : Words.root set.rules ≡ 1 = omega (arith, c.args.rooted.rooted, c.if-rooted-gt0.true, root_small set.rules) in (
      subst (λ (l : List Node). Grown set 0 l) (sym (c.plant.ensures ∙ ap (λ (k : ℕ). planted k t) (sym one)))
          (grown_first set (valid-in_range c.args.rooted.image.bytes.now c.args.rooted.image.valid) t c.requires.0 c.requires.1),
      c.plant.auto.trie,
    )

pub returns-else-rooted-gt0 : goal.returns-else-rooted-gt0
returns-else-rooted-gt0 c =
    let set = set_of c.args.rooted.image in
    let t = c.args.trie.now in
    let in_range_lem = valid-in_range c.args.rooted.image.bytes.now c.args.rooted.image.valid in
    let none : Words.root set.rules ≡ 0 = omega (arith, c.args.rooted.rooted, c.if-rooted-gt0.false) in (
      subst (λ (l : List Node). Grown set 0 l) (planted-none set in_range_lem t c.requires.0 c.requires.1 none)
          (grown_first set in_range_lem t c.requires.0 c.requires.1),
      refl,
    )
