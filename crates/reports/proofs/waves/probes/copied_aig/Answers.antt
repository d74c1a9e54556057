use Rattle.std.proofs.Common.{◌≡◌, ◌∙◌, sym, subst}
use Rattle.aig_graph.specs.Graph.{Graph, IsGraph}
use Rattle.reports.proofs.waves.probes.copied_aig.Goals as goal

pub from_parts-requires : goal.from_parts-requires
from_parts-requires c =
    let made : Graph = record { inputs = c.inputs.result; latches = c.in_ok-latches.latches.items; gates = c.in_ok-gates.gates.items } in
    let same : made ≡ c.args.aig.now = λ i. record {
      inputs = c.inputs.ensures.value i;
      latches = (c.in_ok-latches.ensures.items ∙ c.latches.ensures.value) i;
      gates = (c.in_ok-gates.ensures.items ∙ c.gates.ensures.value) i;
    } in
    subst IsGraph (sym same) c.known.ensures
