-- `ffi::watcher_symbol` meets its contract, by the answer of symbol.
use Rattle.std.proofs.Common.{rules, ◌≡◌, sym, ap, ◌∙◌, arith}
use Rattle.grammar.specs.Lookup.{number_or}
use Rattle.tokens.proofs.Numbering.{lookup_below}
use Rattle.ffi.proofs.watcher_symbol.Goals as goal

pub map_or-requires : goal.map_or-requires
map_or-requires c = λ x e fits ranges. omega (arith, lookup_below _ _ x (sym c.symbol.ensures ∙ e))

pub returns : goal.returns
unfolding number_or
returns c =
    let word : c.map_or.result ≡ number_or 32 c.symbol.result = search rules in
    word ∙ ap (number_or 32) c.symbol.ensures
