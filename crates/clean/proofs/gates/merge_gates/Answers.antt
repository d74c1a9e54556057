use Rattle.std.proofs.Common.{ℕ, ◌+◌, ◌∙◌, List, ap, sym, subst, slice_get}
use Rattle.aig_graph.specs.declared.graph.Gate.{Gate}
use Rattle.aig_graph.specs.Graph.{IsGateAt}
use Rattle.clean.proofs.gates.merge_gates.Goals as goal

pub merged_gates-requires-clause-graph : goal.merged_gates-requires-clause-graph
merged_gates-requires-clause-graph c k gate there =
    subst (λ (v : ℕ). IsGateAt (v + k) gate) (sym c.requires)
    (c.first_latch.ensures.graph.gates k gate (ap (λ (xs : List Gate). slice_get xs k) (sym c.in_ok-gates.ensures) ∙ there))
