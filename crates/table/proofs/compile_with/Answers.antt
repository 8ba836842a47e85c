-- `table::compile_with` meets its contract: refused 8 where the table does not fit, else written.
use mathlib.Core.Path.{◌∙◌}
use lib.Seq.{length-take-le}
use Rattle.layout.proofs.Compilation.{compile_eight, compile_words}
use Rattle.trie.proofs.Building.{built_taken}
use Rattle.table.proofs.Written.{words_built}
use Rattle.table.proofs.compile_with.Goals as goal

pub returns-then-table-words-clause-answer : goal.returns-then-table-words-clause-answer
returns-then-table-words-clause-answer g c =
    let valid = c.args.rooted.image.valid in
    let words = words_built _ valid _ _ c.build-n.ensures _ c.symbols.ensures in
    (compile_eight _ _ valid (rw (← words.0) c.if-table-words.true)).0

pub returns-then-table-words-clause-area : goal.returns-then-table-words-clause-area
returns-then-table-words-clause-area g c =
    let valid = c.args.rooted.image.valid in
    let words = words_built _ valid _ _ c.build-n.ensures _ c.symbols.ensures in
    (compile_eight _ _ valid (rw (← words.0) c.if-table-words.true)).1

pub write-requires-clause-trie : goal.write-requires-clause-trie
write-requires-clause-trie g c = built_taken _ _ _ c.build-n.ensures

pub write-requires-clause-size : goal.write-requires-clause-size
write-requires-clause-size g c =
    let words = words_built _ c.args.rooted.image.valid _ _ c.build-n.ensures _ c.symbols.ensures in
    length-take-le _ _ c.if-table-words.false ∙ words.0

pub returns-clause-answer : goal.returns-clause-answer
returns-clause-answer g c =
    let valid = c.args.rooted.image.valid in
    let words = words_built _ valid _ _ c.build-n.ensures _ c.symbols.ensures in
    (compile_words _ _ valid (rw (← words.0) c.if-table-words.false) _ words.0 _ c.write.ensures).0

pub returns-clause-area : goal.returns-clause-area
returns-clause-area g c =
    let valid = c.args.rooted.image.valid in
    let words = words_built _ valid _ _ c.build-n.ensures _ c.symbols.ensures in
    (compile_words _ _ valid (rw (← words.0) c.if-table-words.false) _ words.0 _ c.write.ensures).1
