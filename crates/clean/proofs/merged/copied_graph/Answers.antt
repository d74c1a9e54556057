use Rattle.std.proofs.Common.{◌∙◌, sym, subst}
use Rattle.aig_graph.specs.Graph.{Graph, IsGraph}
use Rattle.clean.proofs.MappingLaws.{graph-is}
use Rattle.clean.proofs.merged.copied_graph.Goals as goal

pub from_parts-requires : goal.from_parts-requires
from_parts-requires c =
    let g : Graph = c.args.aig.now in
    let same = graph-is g.inputs c.in_ok-latches.latches.items g.latches c.in_ok-gates.gates.items g.gates c.inputs.result c.inputs.ensures.value (c.in_ok-latches.ensures.items ∙ c.latches.ensures.value) c.in_ok-gates.ensures in
    subst (λ (h : Graph). IsGraph h) (sym same) c.inputs.ensures.graph
