-- `areas::rules::Table::new` meets its contract: a table has its two words.
use Rattle.std.proofs.Common.{arith, ◌≤◌, length}
use Rattle.layout.specs.Image.{read}
use Rattle.machine.proofs.TableWords.{table_header}
use Rattle.areas.proofs.rules.Table.new.Goals.{Start}
use Rattle.areas.proofs.rules.Table.new.Goals as goal

header : (s : Start) → 2 ≤ length s.args.words.now
header s = omega (arith, table_header (read s.args.image.bytes.now) s.args.words.now s.requires)

pub bounds-words-0 : goal.bounds-words-0
bounds-words-0 c = omega (arith, header (goal.at.bounds-words-0 c).Start)

pub bounds-words-1 : goal.bounds-words-1
bounds-words-1 c = omega (arith, header (goal.at.bounds-words-1 c).Start)
