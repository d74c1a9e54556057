use Rattle.std.proofs.Common.{◌+◌, ◌-◌, ℕ, ap, arith, ◌∙◌}
use Rattle.aig_graph.specs.Graph.{Graph, first_gate}
use Rattle.unit_flows.proofs.FrameLaws.{gate-there}
use Rattle.unit_flows.proofs.sweeps.first_sweep.Goals as goal

pub see-requires-clause-gate : goal.see-requires-clause-gate
see-requires-clause-gate c =
    gate-there c.args.frame.now.circuit.now.aig c.gates-gates.result.now (c.loop-k.k - 1) _ c.index-gates-k.result c.aig-aig.ensures.graph
    (c.gates-gates.ensures.value ∙ ap (λ (g : Graph). g.gates) c.aig-aig.ensures.value) (omega (arith, c.loop-k.auto.k, c.loop-k-test.true)) c.index-gates-k.is
    (ap (λ (n : ℕ). n + (c.loop-k.k - 1)) (c.first_gate-first_gate.ensures.value ∙ ap first_gate c.aig-aig.ensures.value))
