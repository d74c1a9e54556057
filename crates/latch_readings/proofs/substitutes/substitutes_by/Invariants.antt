use Rattle.std.proofs.Common.{◌≡◌, take}
use Rattle.aig_graph.specs.Graph.{first_latch}
use Rattle.clean.specs.Substitutions.{from_first}
use Rattle.latch_readings.proofs.substitutes.substitutes_by.Given as goal

abbrev pub invariant-loop-lit : goal.invariant-loop-lit
invariant-loop-lit l = l.substitutes ≡ from_first (first_latch l.aig) (take l.lit-index l.reads)
