use Rattle.std.proofs.Common.{get_or}
use Rattle.aig_graph.specs.Graph.{first_latch, variables_end}
use Rattle.aig_graph.specs.Move.{move_of}
use Rattle.rebuild.specs.Moved.{is_latched}
use Rattle.map_circuits.specs.Gathering.{IsGathered}
use Rattle.map_circuits.proofs.gathering.gather_latched.Given as goal

-- the entries below the next member have moved
abbrev pub invariant-loop-var : goal.invariant-loop-var
invariant-loop-var l =
    IsGathered (first_latch l.circuit.aig) (is_latched (move_of l.circuit l.keep l.set)) (get_or l.set l.var-index (variables_end l.circuit.aig)) l.fn.entries l.entries l.kept
