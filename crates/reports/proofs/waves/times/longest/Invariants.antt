use Rattle.std.proofs.Common.{◌≡◌}
use Rattle.lane_sim.specs.Traces.{trace}
use Rattle.reports.specs.waves.Dumps.{longest_of}
use Rattle.reports.proofs.waves.times.longest.Given as goal

abbrev pub invariant-loop-sequence : goal.invariant-loop-sequence
invariant-loop-sequence l = l.steps ≡ longest_of (trace l.shown.circuit.now l.shown.sequences.now) l.sequence
