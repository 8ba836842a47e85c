-- `table::write` meets its contract: the first two words, the rows, and the match words between them are the table.
use Prim.Native.Nat.{◌+◌, ◌≤◌}
use mathlib.Core.Path.{refl, ◌∙◌}
use native.Mathlib.Omega.{arith}
use lib.ListN.{length, length-set}
use Rattle.rewriting.proofs.Ranges.{ranges}
use Rattle.image.specs.Sets.{set_of}
use Rattle.layout.proofs.Image.{valid-in_range}
use Rattle.layout.proofs.States.{few_states}
use Rattle.table.proofs.Written.{area_some, rows_room, matches_end, matches_room, matches_written, table_written}
use Rattle.table.proofs.write.Goals.{Start}
use Rattle.table.proofs.write.Goals as goal

-- the area has room for the first words
some : (c : Start) → 2 + length c.args.trie.now ≤ length c.args.table.now
some c = area_some (set_of c.args.rooted.image) c.args.table.now c.requires.trie.nodes refl c.requires.size

pub overflow_cast-table : goal.overflow_cast-table
overflow_cast-table c =
    omega (arith, c.requires.trie.nodes, few_states _ (valid-in_range _ c.args.rooted.image.valid))

pub bounds-table-0 : goal.bounds-table-0
bounds-table-0 c =
    let s = (goal.at.bounds-table-0 c).Start in
    omega (arith, some s)

pub overflow_cast-table-2 : goal.overflow_cast-table-2
overflow_cast-table-2 c =
    omega (arith, c.symbols-s.ensures, ranges _ (valid-in_range _ c.args.rooted.image.valid))

pub bounds-table-1 : goal.bounds-table-1
bounds-table-1 c =
    let s = (goal.at.bounds-table-1 c).Start in
    simp length-set (omega (arith, some s))

pub slice_bounds-fill-count : goal.slice_bounds-fill-count
slice_bounds-fill-count c =
    let s = (goal.at.slice_bounds-fill-count c).Start in
    simp length-set (omega (arith, some s))

pub slice_bounds-fill-start : goal.slice_bounds-fill-start
slice_bounds-fill-start c =
    let s = (goal.at.slice_bounds-fill-start c).Start in
    simp length-set (omega (arith, some s))

pub fill-requires : goal.fill-requires
fill-requires c =
    let size = rows_room (set_of c.args.rooted.image) c.args.table.now c.requires.trie.nodes c.symbols-s.ensures
    c.requires.size in record {
      trie = c.requires.trie;
      room = size;
    }

pub slice_bounds-write_matches-end : goal.slice_bounds-write_matches-end
slice_bounds-write_matches-end c =
    matches_end (set_of c.args.rooted.image) c.args.table.now c.requires.trie.nodes c.symbols-s.ensures c.requires.size
    c.fill.new.rows c.fill.ensures.table

pub write_matches-requires : goal.write_matches-requires
write_matches-requires c =
    let trie = c.requires.trie in
    let size = matches_room (set_of c.args.rooted.image) c.args.table.now trie.nodes c.symbols-s.ensures c.requires.size
    c.fill.new.rows c.fill.ensures.table in
    omega (arith, size, c.fill.ensures.size)

pub returns : goal.returns
returns c =
    let set = set_of c.args.rooted.image in
    let trie = c.requires.trie in
    let size = matches_room set c.args.table.now trie.nodes c.symbols-s.ensures c.requires.size c.fill.new.rows
    c.fill.ensures.table in
    table_written set c.args.table.now trie.nodes c.symbols-s.ensures c.requires.size
    c.fill.new.rows c.fill.ensures.table c.write_matches.new.words
    (c.write_matches.ensures
    ∙ matches_written set c.fill.new.trie _ (size ∙ trie.nodes) (omega (arith, size, c.fill.ensures.size)) c.fill.ensures.matches)
