use Rattle.std.proofs.Common.{◌≡◌, take}
use Rattle.clean.proofs.names.copied_symbols.Given as goal

abbrev pub invariant-loop-name : goal.invariant-loop-name
invariant-loop-name l = l.latches.items ≡ take l.name-index l.symbols.latches
