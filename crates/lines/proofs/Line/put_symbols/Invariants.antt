use Rattle.lines.proofs.Joining.{NamingIn}
use Rattle.lines.proofs.Line.put_symbols.Given as goal

abbrev pub invariant-loop-symbol : goal.invariant-loop-symbol
invariant-loop-symbol g l = NamingIn l.names l.symbols l.initial.self l.self l.symbol-index
