use Rattle.std.proofs.Common.{◌≡◌, ◌∙◌, ap, sym, subst}
use Rattle.aig_graph.specs.Marking.{mark_at}
use Rattle.aig_graph.specs.Graph.{Graph, first_gate}
use Rattle.aig_graph.specs.Circuits.{IsNetlist, Netlist, outputs_alone}
use Rattle.path_levels.specs.Bounded.{graph_left, with_barred}
use Rattle.path_levels.proofs.BarringLaws.{netlist-left}
use Rattle.path_levels.proofs.bounding.with_barred.Goals as goal

pub new-requires : goal.new-requires
new-requires c =
    let circuit = c.args.circuit.now in
    let marks = c.args.barred.now in
    let made : Netlist = record { aig = c.in_ok-aig.aig; props = c.of_outputs-props.result; symbols = c.none.result } in
    let same : made ≡ with_barred (mark_at (first_gate circuit.aig) marks) circuit = λ i. record {
      aig = (c.in_ok-aig.ensures ∙ ap (λ (g : Graph). graph_left (mark_at (first_gate g) marks) g) c.aig.ensures.value) i;
      props = (c.of_outputs-props.ensures ∙ ap outputs_alone c.in_ok-outputs.ensures) i;
      symbols = c.none.ensures i;
    } in
    subst IsNetlist (sym same) (netlist-left (mark_at (first_gate circuit.aig) marks) circuit c.known.ensures.graph c.known.ensures.netlist)

pub returns : goal.returns
returns c =
    let circuit = c.args.circuit.now in
    let marks = c.args.barred.now in
    let made : Netlist = record { aig = c.in_ok-aig.aig; props = c.of_outputs-props.result; symbols = c.none.result } in
    let same : made ≡ with_barred (mark_at (first_gate circuit.aig) marks) circuit = λ i. record {
      aig = (c.in_ok-aig.ensures ∙ ap (λ (g : Graph). graph_left (mark_at (first_gate g) marks) g) c.aig.ensures.value) i;
      props = (c.of_outputs-props.ensures ∙ ap outputs_alone c.in_ok-outputs.ensures) i;
      symbols = c.none.ensures i;
    } in
    c.new.ensures ∙ same
