-- `table::rows::fill_state` meets its contract: by the failure state, whose own row and match word are done.
use Prim.Native.Nat.{ℕ, ◌<◌}
use mathlib.Core.Path.{◌≡◌, sym, ◌∙◌, ap}
use mathlib.Core.Bool.{true}
use native.Mathlib.Omega.{arith}
use lib.ListN.{length}
use Rattle.rewriting.specs.Rules.{in_range}
use Rattle.image.specs.Sets.{set_of}
use Rattle.layout.specs.Words.{root}
use Rattle.layout.proofs.Image.{valid-in_range}
use Rattle.trie.specs.Nodes.{parent, failure_by}
use Rattle.trie.proofs.Turns.{nodes_within, failure_place, failure_within, filling_more}
use Rattle.trie.proofs.rows.fill_state.Goals.{After-failure_of-f, Start}
use Rattle.trie.proofs.rows.fill_state.Goals as goal

in_range_lem : (c : Start) → in_range (set_of c.args.rooted.image) ≡ true
in_range_lem c = valid-in_range c.args.rooted.image.bytes.now c.args.rooted.image.valid

-- it is not the root
other : (c : Start) → c.args.q ≡ root (set_of c.args.rooted.image).rules → ⊥
other c e = c.requires.state.0 (e ∙ sym c.args.rooted.rooted)

bounds : (c : Start)
    → (c.args.q < length c.args.trie.now) × (parent c.args.trie.now c.args.q < length c.args.trie.now)
bounds c =
    nodes_within (set_of c.args.rooted.image) c.args.q c.args.trie.now c.args.rows.now c.requires.filling (in_range_lem c)
    (other c)
    c.requires.state.1

-- the failure state, with the number of symbols that was read
found : (c : After-failure_of-f)
    → c.failure_of-f.result
    ≡ failure_by c.args.trie.now
    c.args.rows.now
    (set_of c.args.rooted.image).symbols
    (root (set_of c.args.rooted.image).rules)
    c.args.q
found c =
    c.failure_of-f.ensures
    ∙ ap (λ (n : ℕ). failure_by c.args.trie.now c.args.rows.now n c.args.rooted.root c.args.q)
    c.symbols-s.ensures
    ∙ ap
    (λ (n : ℕ). failure_by c.args.trie.now c.args.rows.now (set_of c.args.rooted.image).symbols n c.args.q)
    c.args.rooted.rooted

pub failure_of-f-requires : goal.failure_of-f-requires
failure_of-f-requires c =
    let s = (goal.at.failure_of-f-requires c).Start in
    record {
      node = omega (arith, bounds s);
      up = omega (arith, bounds s);
      row = λ high.
          rw c.symbols-s.ensures
          (failure_place (set_of c.args.rooted.image) c.args.q c.args.trie.now c.args.rows.now
          c.requires.filling (in_range_lem s) (other s) c.requires.state.1 (λ e. high (e ∙ sym c.args.rooted.rooted)));
    }

pub note-requires : goal.note-requires
note-requires c =
    let f = (goal.at.note-requires c).After-failure_of-f in
    let s = (goal.at.note-requires c).Start in
    let room = failure_within (set_of c.args.rooted.image) c.args.q c.args.trie.now c.args.rows.now
    c.requires.filling (in_range_lem s) (other s) c.requires.state.1 c.failure_of-f.result (found f) in record {
      own = omega (arith, bounds s);
      other = room.0;
      small = room.1;
    }

pub merge-requires : goal.merge-requires
merge-requires c =
    let f = (goal.at.merge-requires c).After-failure_of-f in
    let s = (goal.at.merge-requires c).Start in
    let room = failure_within (set_of c.args.rooted.image) c.args.q c.args.trie.now c.args.rows.now
    c.requires.filling (in_range_lem s) (other s) c.requires.state.1 c.failure_of-f.result (found f) in
    record { own = rw c.symbols-s.ensures room.2; other = rw c.symbols-s.ensures room.3 }

pub returns : goal.returns
returns c =
    let f = (goal.at.returns c).After-failure_of-f in
    let s = (goal.at.returns c).Start in
    filling_more (set_of c.args.rooted.image) c.args.q c.args.trie.now c.args.rows.now c.requires.filling
    (in_range_lem s) (other s) c.requires.state.1 c.note.new.trie c.merge.new.rows c.failure_of-f.result
    (found f) c.note.ensures (rw c.symbols-s.ensures at c.merge.ensures)
