use Prim.Native.Nat.{◌-◌, ◌≤◌}
use lib.ListN.{length}
use Rattle.grammar.specs.Tokens.{runs}
use Rattle.grammar.specs.Grammar.{Reading}
use Rattle.grammar.specs.Read.{read_runs}
use Rattle.grammar.specs.Sound.{Sound}
use Rattle.parser.specs.Reads.{numbers_in, KeptIn}
use Rattle.tokens.proofs.RunBytes.{Scanning}
use Rattle.parser.proofs.Reading.{Going}
use Rattle.parser.proofs.Reader.read_tokens.Given as goal

abbrev pub invariant-loop-end : goal.invariant-loop-end
invariant-loop-end l = Scanning l.text l.start l.from l.end

abbrev pub decreases-loop-end : goal.decreases-loop-end
decreases-loop-end l = length l.text - l.end

abbrev pub invariant-tokens : goal.invariant-tokens
invariant-tokens l =
    record {
      inside : l.at ≤ length l.text;
      going : (s : Reading) → Sound s → KeptIn s l.fn.self
          → Going (read_runs (length l.text) s (runs l.text)) l.text (numbers_in l.self)
          l.self.symbols.slots l.self.words.slots l.self.contents l.self.body_bytes l.at;
    }

abbrev pub decreases-tokens : goal.decreases-tokens
decreases-tokens l =
    length l.text - l.at
