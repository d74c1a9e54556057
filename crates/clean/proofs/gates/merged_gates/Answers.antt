use Rattle.std.proofs.Common.{ℕ, ◌+◌, ◌∙◌, List, ap, sym, subst, slice_get}
use Rattle.aig_graph.specs.declared.graph.Gate.{Gate}
use Rattle.aig_graph.specs.Graph.{IsGateAt}
use Rattle.clean.proofs.gates.merged_gates.Goals as goal

pub merge_all-requires-clause-graph : goal.merge_all-requires-clause-graph
merge_all-requires-clause-graph c k gate there =
    subst (λ (v : ℕ). IsGateAt (v + k) gate) (sym (c.in_ok-kept.ensures.next ∙ c.len-own.ensures.long))
    (c.requires.graph k gate (ap (λ (xs : List Gate). slice_get xs k) (sym c.in_ok-kept.ensures.gates) ∙ there))
