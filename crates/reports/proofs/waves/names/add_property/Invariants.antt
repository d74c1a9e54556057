use Rattle.std.proofs.Common.{◌≡◌, ◌++◌}
use Rattle.reports.specs.waves.Names.{property_words}
use Rattle.reports.proofs.waves.names.add_property.Given as goal

abbrev pub invariant-loop-position : goal.invariant-loop-position
invariant-loop-position l = l.names.items ≡ l.fn.names.items ++ property_words l.property l.position
