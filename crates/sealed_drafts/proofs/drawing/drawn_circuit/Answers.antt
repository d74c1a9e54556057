use Rattle.std.proofs.Common.{ℕ, ◌∙◌, length, ap, sym, subst}
use Rattle.aig_graph.specs.declared.properties.Symbols.{Symbols}
use Rattle.aig_graph.specs.Circuits.{IsNetlist, Netlist}
use Rattle.aig_graph.specs.Graph.{Graph, variables_end}
use Rattle.sealed_drafts.specs.Sealed.{IsSealed, ReadStanding}
use Rattle.sealed_drafts.proofs.StandingLaws.{drawn-netlist}
use Rattle.sealed_drafts.proofs.drawing.drawn_circuit.Goals as goal

pub new-requires : goal.new-requires
new-requires c =
    let n : Netlist = c.args.circuit.now in
    let g : Graph = c.in_ok-aig.aig in
    let inputs = c.inputs-inputs.ensures.value ∙ ap (λ (h : Graph). h.inputs) c.aig.ensures.value in
    let sealed = subst (λ (k : ℕ). IsSealed k (length c.args.latches.now) (length c.args.gates.now) g) inputs c.in_ok-aig.ensures in
    let read = subst (λ (k : ℕ). ReadStanding (variables_end n.aig) k n.props c.in_ok-props.props) c.variables.ensures.value c.in_ok-props.ensures in
    subst (λ (s : Symbols). IsNetlist (record { aig = g; props = c.in_ok-props.props; symbols = s }))
    (sym (c.in_ok-symbols.ensures ∙ ap (λ (s : Symbols). record s { latches = c.in_ok-names.names }) c.symbols-2.ensures.value))
    (drawn-netlist n g c.in_ok-props.props _ _ c.in_ok-names.names c.known.ensures.netlist sealed read c.in_ok-names.ensures)
