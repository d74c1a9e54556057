use Rattle.std.proofs.Common.{◌≡◌, drop}
use Rattle.reports.specs.waves.Names.{with_symbols}
use Rattle.reports.proofs.waves.names.set_names.Given as goal

abbrev pub invariant-loop-symbol : goal.invariant-loop-symbol
invariant-loop-symbol l = with_symbols l.names (drop l.symbol-index l.symbols) ≡ with_symbols l.fn.names l.symbols
