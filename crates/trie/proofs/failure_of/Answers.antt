-- `table::trie::failure_of` meets its contract: by its parent's failure state and that state's row.
use Prim.Native.Nat.{◌+◌, ◌*◌, ◌<◌}
use mathlib.Core.Path.{sym, ◌∙◌}
use lib.ListN.{length}
use borrow.Author.Tests.{eq-eqb}
use Rattle.trie.specs.Nodes.{failure_by}
use Rattle.trie.proofs.Failure.{word_inside, word_read}
use Rattle.trie.proofs.failure_of.Goals.{After-from-f}
use Rattle.trie.proofs.failure_of.Goals as goal

-- the word that is read stands in the rows
inside : (c : After-from-f)
    → c.from-f.result * c.args.s + c.from-a.result
    < length c.args.rows.now
inside c =
    word_inside c.args.trie.now c.args.rows.now c.args.s c.args.root c.args.q c.from-p.ensures
    c.from-a.ensures c.from-f.ensures c.if-p-root.false c.requires.row

pub returns-then-p-root : goal.returns-then-p-root
unfolding failure_by
returns-then-p-root c = rw (eq-eqb _ _ (sym c.from-p.ensures ∙ c.if-p-root.true))

pub returns : goal.returns
returns c =
    c.from.ensures
    ∙ word_read c.args.trie.now c.args.rows.now c.args.s c.args.root c.args.q c.from-p.ensures
    c.from-a.ensures c.from-f.ensures c.if-p-root.false
