use Rattle.std.proofs.Common.{◌≡◌}
use Rattle.aig_graph.specs.Tables.{table}
use Rattle.merged_circuits.specs.Readings.{own_literal}
use Rattle.latch_readings.proofs.lines.own_reading.Given as goal

abbrev pub invariant-loop-place : goal.invariant-loop-place
invariant-loop-place l = l.reads.items ≡ table 0 l.place (own_literal l.aig)
