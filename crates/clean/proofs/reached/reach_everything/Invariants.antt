use Rattle.std.proofs.Common.{◌+◌}
use Rattle.aig_graph.specs.Graph.{first_gate}
use Rattle.clean.specs.Sweep.{IsGateBelow}
use Rattle.clean.proofs.FrontLaws.{room}
use Rattle.clean.proofs.SweepLaws.{Sweeping, IsNothing}
use Rattle.clean.proofs.reached.reach_everything.Given as goal

abbrev pub invariant-loop-place : goal.invariant-loop-place
invariant-loop-place l = Sweeping l.aig l.props l.held (IsGateBelow l.aig (first_gate l.aig + l.place)) l.reached

abbrev pub invariant-loop-var : goal.invariant-loop-var
invariant-loop-var l = Sweeping l.aig l.props l.held (IsNothing l.aig l.props l.held) l.reached

abbrev pub decreases-loop-var : goal.decreases-loop-var
decreases-loop-var l = room l.reached
