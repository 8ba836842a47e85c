-- `trie::rows::fill_rows` meets its contract. The loop's invariant: the states of depth below `d` are done.
use Prim.Native.Nat.{ℕ, ◌+◌}
use mathlib.Core.Path.{◌≡◌, sym, subst}
use mathlib.Core.List.{List}
use native.Mathlib.Omega.{arith}
use Rattle.image.specs.Sets.{set_of}
use Rattle.layout.specs.Words.{root}
use Rattle.layout.proofs.Image.{valid-in_range}
use Rattle.trie.specs.Rows.{RootFilled}
use Rattle.trie.proofs.RowWords.{rooted_zero}
use Rattle.trie.proofs.Filled.{filling_start, filling_end}
use Rattle.trie.proofs.rows.fill_rows.Goals.{else-rooted-gt0, then-rooted-gt0}
use Rattle.trie.proofs.rows.fill_rows.Goals as goal

pub loop-d-init : goal.loop-d-init
loop-d-init c =
    let set = set_of c.args.rooted.image in
    let laid = c.lay_children.new.rows in
    let rooted : RootFilled laid c.if-rooted-gt0.rows set.symbols (root set.rules) set.symbols =
    elim c.if-rooted-gt0.branch [
      | then-rooted-gt0 w ↦ subst (λ (l : List ℕ). RootFilled laid l set.symbols (root set.rules) set.symbols) (sym w.rows-is)
          (subst (λ (k : ℕ). RootFilled laid w.fill_root.new.rows set.symbols k set.symbols) c.args.rooted.rooted
          (subst (λ (k : ℕ). RootFilled laid w.fill_root.new.rows k c.args.rooted.root k) w.symbols.ensures w.fill_root.ensures))
      | else-rooted-gt0 w ↦ subst (λ (l : List ℕ). RootFilled laid l set.symbols (root set.rules) set.symbols) (sym w.rows-is)
          (rooted_zero laid set.symbols (root set.rules) (omega (arith, w.if-rooted-gt0.false, c.args.rooted.rooted)))
    ]
    in
    filling_start set c.args.trie.now laid c.if-rooted-gt0.rows
    (valid-in_range c.args.rooted.image.bytes.now c.args.rooted.image.valid)
    c.requires.trie.trie c.requires.trie.owned c.lay_children.ensures rooted

pub returns : goal.returns
returns c =
    let turn = c.loop-d in
    let set = set_of c.args.rooted.image in
    let longest = c.longest in
    let all : turn.d ≡ longest.result + root set.rules + 1 = omega (arith, c.args.rooted.rooted) in
    filling_end set longest.result c.args.trie.now turn.trie turn.rows
    (valid-in_range c.args.rooted.image.bytes.now c.args.rooted.image.valid) longest.ensures.1.covers turn.auto.trie
    (rw all at turn.invariant)
