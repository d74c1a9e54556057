use Rattle.std.proofs.Common.{◌≡◌}
use Rattle.ascii_file.specs.parts.Names.{symbols_in}
use Rattle.ascii_file.proofs.parts.kind_names.KindNames.into_sequence.Given as goal

abbrev pub invariant-loop-position : goal.invariant-loop-position
invariant-loop-position l = l.symbols.items ≡ symbols_in l.yielded
