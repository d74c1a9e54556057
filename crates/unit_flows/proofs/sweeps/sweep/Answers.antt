use Rattle.std.proofs.Common.{◌+◌, ℕ, ap, ◌∙◌, slice_index_or}
use Rattle.aig_graph.specs.Graph.{Graph, first_gate}
use Rattle.unit_flows.proofs.FrameLaws.{gate-there}
use Rattle.unit_flows.proofs.sweeps.sweep.Goals as goal

pub see-requires-clause-gate : goal.see-requires-clause-gate
see-requires-clause-gate c =
    gate-there c.args.frame.now.circuit.now.aig c.gates-gates.result.now (slice_index_or c.loop-i.still_open c.loop-i.i 0) _ c.index-gates-k.result c.aig-aig.ensures.graph
    (c.gates-gates.ensures.value ∙ ap (λ (g : Graph). g.gates) c.aig-aig.ensures.value) c.if-k-gates.true c.index-gates-k.is
    (ap (λ (n : ℕ). n + slice_index_or c.loop-i.still_open c.loop-i.i 0) (c.first_gate-first_gate.ensures.value ∙ ap first_gate c.aig-aig.ensures.value))
