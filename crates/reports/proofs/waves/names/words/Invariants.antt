use Rattle.std.proofs.Common.{◌≡◌}
use Rattle.aig_graph.specs.Tables.{table}
use Rattle.reports.specs.waves.Names.{default_name}
use Rattle.reports.proofs.waves.names.words.Given as goal

abbrev pub invariant-loop-position : goal.invariant-loop-position
invariant-loop-position l = l.words.items ≡ table 0 l.position (default_name l.letter)
