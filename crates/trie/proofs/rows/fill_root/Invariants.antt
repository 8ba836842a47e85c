use Prim.Native.Nat.{◌+◌, ◌-◌, ◌*◌}
use borrow.Rule.Slice.PartMut.{put_mid}
use Rattle.trie.specs.Rows.{RootFilled}
use Rattle.trie.proofs.rows.fill_root.Given as goal

abbrev pub invariant-loop-word : goal.invariant-loop-word
invariant-loop-word l =
    RootFilled l.fn.rows (put_mid (l.root * l.s) (l.root * l.s + l.s - l.root * l.s) l.fn.rows l.word-items) l.s l.root
    l.word-index
