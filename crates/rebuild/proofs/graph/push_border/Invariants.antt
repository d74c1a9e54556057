use Rattle.std.proofs.Common.{◌≡◌, ◌++◌, filter, map, take}
use Rattle.aig_graph.specs.Graph.{first_gate}
use Rattle.rebuild.specs.Moved.{is_latched, latch_for, latches_below}
use Rattle.rebuild.specs.Planned.{planned}
use Rattle.rebuild.proofs.graph.push_border.Given as goal

abbrev pub invariant-loop-var : goal.invariant-loop-var
invariant-loop-var l =
    l.latches.items
    ≡ latches_below (planned l.plan) (first_gate l.plan.marks.circuit.now.aig) ++ map (latch_for (planned l.plan)) (filter (is_latched (planned l.plan)) (take l.var-index l.plan.marks.set.now))
