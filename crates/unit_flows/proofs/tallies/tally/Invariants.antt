use Rattle.unit_flows.specs.Units.{AreTallies}
use Rattle.unit_flows.proofs.tallies.tally.Given as goal

abbrev pub invariant-loop-k : goal.invariant-loop-k
invariant-loop-k l = AreTallies l.aig l.flows l.k l.went l.came
