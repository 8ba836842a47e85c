-- `table::trie::claim` meets its contract, by whether the node has a rule.
use borrow.Author.Tests.{eq-eqb, ne_eqb}
use Rattle.trie.specs.Nodes.{claimed}
use Rattle.trie.proofs.claim.Goals as goal

pub returns-then-trie-q-eq0 : goal.returns-then-trie-q-eq0
unfolding claimed
returns-then-trie-q-eq0 c = rw (eq-eqb _ 0 c.if-trie-q-eq0.true)

pub returns-else-trie-q-eq0 : goal.returns-else-trie-q-eq0
unfolding claimed
returns-else-trie-q-eq0 c = rw (ne_eqb _ 0 c.if-trie-q-eq0.false)
