use Rattle.std.proofs.Common.{◌∙◌, ap, sym, subst}
use Rattle.aig_graph.specs.Graph.{Graph, IsGraph}
use Rattle.rebuild.proofs.BuildLaws.{graph-is}
use Rattle.rebuild.specs.Planned.{planned}
use Rattle.rebuild.proofs.graph.moved_graph.Goals as goal

pub from_parts-requires : goal.from_parts-requires
from_parts-requires c =
    let p = c.args.plan.now in
    subst IsGraph (sym (graph-is (planned p) c.inputs.result c.in_ok-latches.latches.items c.in_ok-gates.gates.items (c.inputs.ensures.value ∙ ap (λ (g : Graph). g.inputs) c.aig.ensures) c.in_ok-latches.ensures c.in_ok-gates.ensures)) p.moved

pub returns : goal.returns
returns c =
    let p = c.args.plan.now in
    c.from_parts.ensures
    ∙ graph-is (planned p) c.inputs.result c.in_ok-latches.latches.items c.in_ok-gates.gates.items (c.inputs.ensures.value ∙ ap (λ (g : Graph). g.inputs) c.aig.ensures) c.in_ok-latches.ensures c.in_ok-gates.ensures
