-- `trie::add` meets its contract: it stores two nodes, and the first is not read for the second.
use Prim.Native.Nat.{◌+◌}
use mathlib.Core.Path.{ap}
use native.Mathlib.Omega.{arith}
use lib.ListN.{set}
use Rattle.trie.specs.declared.Node.{Node}
use Rattle.trie.specs.Nodes.{node, depth, youngest, children, added}
use Rattle.trie.proofs.Nodes.{node_other}
use Rattle.trie.proofs.add.Goals as goal

pub returns : goal.returns
unfolding added
returns c =
    let t = c.args.trie.now in
    let n = c.args.n in
    let q = c.args.q in
    let new : Node = record (node t n) { parent = q; symbol = c.args.a; depth = depth t q + 1; older = youngest t q } in
    ap (λ (x : Node). set (set t n new) q (record x { youngest = n; children = children t q + 1 }))
    (node_other t n q new (λ e. omega (arith, c.requires.node.0)))
