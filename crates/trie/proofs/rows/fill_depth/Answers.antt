-- `table::rows::fill_depth` meets its contract. The loop's invariant: of the states of depth `d` those below `q` are done.
use mathlib.Core.Path.{◌≡◌}
use native.Mathlib.Omega.{arith}
use lib.ListN.{length}
use Rattle.image.specs.Sets.{set_of}
use Rattle.layout.specs.States.{states}
use Rattle.trie.proofs.Turns.{filling_skip, filling_longer}
use Rattle.trie.proofs.rows.fill_depth.Goals.{else-trie-q, then-trie-q}
use Rattle.trie.proofs.rows.fill_depth.Goals as goal

pub loop-q-preserved : goal.loop-q-preserved
loop-q-preserved c =
    let turn = c.loop-q in
    elim c.if-trie-q.branch [
      | then-trie-q w ↦ rw (w.trie-is, w.rows-is) (rw w.if-trie-q.true at w.fill_state.ensures)
      | else-trie-q w ↦ rw (w.trie-is, w.rows-is)
          (filling_skip (set_of c.args.rooted.image) c.args.d turn.q turn.trie turn.rows w.if-trie-q.false
          (omega arith) turn.invariant)
    ]

pub returns : goal.returns
returns c =
    let turn = c.loop-q in
    let all : turn.q ≡ length (states (set_of c.args.rooted.image).rules) = omega arith in
    filling_longer (set_of c.args.rooted.image) c.args.d turn.trie turn.rows (rw all at turn.invariant)
