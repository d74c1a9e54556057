use Rattle.std.proofs.Common.{◌≡◌, ◌∙◌, ap, sym, subst}
use Rattle.aig_graph.specs.Circuits.{IsNetlist, Netlist, outputs_alone}
use Rattle.reports.specs.waves.Probes.{probed}
use Rattle.reports.proofs.WaveProbeLaws.{probed-netlist}
use Rattle.reports.proofs.waves.probes.probed.Goals as goal

pub new-requires : goal.new-requires
new-requires c =
    let circuit = c.args.circuit.now in
    let made : Netlist = record { aig = c.in_ok-aig.aig; props = c.of_outputs-props.result; symbols = c.none.result } in
    let same : made ≡ probed circuit = λ i. record {
      aig = (c.in_ok-aig.ensures ∙ c.aig.ensures.value) i;
      props = (c.of_outputs-props.ensures ∙ ap outputs_alone c.in_ok-literals.ensures) i;
      symbols = c.none.ensures i;
    } in
    subst IsNetlist (sym same) (probed-netlist circuit c.known.ensures.netlist)

pub returns : goal.returns
returns c =
    let circuit = c.args.circuit.now in
    let made : Netlist = record { aig = c.in_ok-aig.aig; props = c.of_outputs-props.result; symbols = c.none.result } in
    let same : made ≡ probed circuit = λ i. record {
      aig = (c.in_ok-aig.ensures ∙ c.aig.ensures.value) i;
      props = (c.of_outputs-props.ensures ∙ ap outputs_alone c.in_ok-literals.ensures) i;
      symbols = c.none.ensures i;
    } in
    c.new.ensures ∙ same
