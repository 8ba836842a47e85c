-- `table::compile` meets its contract: refused 7 where the image is not valid, else compiled with an array of its size.
use Rattle.trie.proofs.Walking.{roomy_small, roomy_large}
use Rattle.layout.proofs.Compilation.{compile_seven}
use Rattle.table.proofs.compile.Goals as goal

pub compile_with-requires-clause-room : goal.compile_with-requires-clause-room
compile_with-requires-clause-room c = roomy_small _ (rw c.bodies_length.ensures at c.if-bodies_length-lt63.true)

pub compile_with-requires-else-bodies_length-lt63-clause-room : goal.compile_with-requires-else-bodies_length-lt63-clause-room
compile_with-requires-else-bodies_length-lt63-clause-room c = roomy_large _ c.in-Some.rooted.image.valid

pub returns-in_default-clause-answer : goal.returns-in_default-clause-answer
returns-in_default-clause-answer c = (compile_seven _ _ c.in_default.ensures).0

pub returns-in_default-clause-area : goal.returns-in_default-clause-area
returns-in_default-clause-area c = (compile_seven _ _ c.in_default.ensures).1
