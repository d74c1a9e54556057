use Rattle.std.proofs.Common.{◌≡◌, false, take}
use Rattle.aig_graph.specs.Keep.{has_name}
use Rattle.pictures.proofs.named.is_among.Given as goal

abbrev pub invariant-loop-symbol : goal.invariant-loop-symbol
invariant-loop-symbol l = has_name (take l.symbol-index l.symbols) l.name ≡ false
