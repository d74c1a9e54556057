use Rattle.std.proofs.Common.{ℕ, List, ◌∙◌, arith, ap, sym, subst}
use Rattle.aig_graph.specs.declared.graph.Reset.{Reset}
use Rattle.aig_graph.specs.Building.{without_gates}
use Rattle.aig_graph.specs.Graph.{Graph, IsGraph}
use Rattle.witness_circuits.proofs.BuildLaws.{begun-graph}
use Rattle.map_miters.proofs.begun.begun.Goals as goal

pub returns-clause-is : goal.returns-clause-is
returns-clause-is c =
    c.in_ok-gates.ensures.ok
    ∙ ap (λ (n : ℕ). without_gates n c.in_ok-resets.resets.items) c.inputs.ensures.value
    ∙ ap (λ (rs : List Reset). without_gates c.args.first.now.inputs rs) c.in_ok-resets.ensures

pub returns-clause-graph : goal.returns-clause-graph
returns-clause-graph c =
    subst (λ (g : Graph). IsGraph g) (sym c.in_ok-gates.ensures.ok)
    (begun-graph c.inputs.result c.in_ok-resets.resets.items (grind (arith, c.in_ok-gates.ensures.too_large.1)))
