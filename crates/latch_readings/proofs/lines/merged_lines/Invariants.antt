use Rattle.std.proofs.Common.{◌≡◌}
use Rattle.merged_circuits.proofs.LineLaws.{lines_below}
use Rattle.latch_readings.proofs.lines.merged_lines.Given as goal

abbrev pub invariant-loop-place : goal.invariant-loop-place
invariant-loop-place l = l.lines.items ≡ lines_below l.aig l.reads l.place
