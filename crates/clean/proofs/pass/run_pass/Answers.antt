use Rattle.std.proofs.Common.{◌≡◌, ◌∙◌, ℕ, List, sym, subst}
use Rattle.std.proofs.lemmas.Result.{IfOk-weaker}
use Rattle.aig_graph.specs.Streams.{SameStreams}
use Rattle.aig_graph.specs.Circuits.{Netlist, IsNetlist}
use Rattle.cleaned_circuits.specs.Cleaned.{IsPass}
use Rattle.cleaned_circuits.proofs.PassLaws.{IsCircuit, pass-streams}
use Rattle.clean.specs.declared.pass.Pass.{Pass}
use Rattle.clean.proofs.PassStepLaws.{of-parts}
use Rattle.clean.proofs.pass.run_pass.Goals as goal

pub pass_of-requires-clause-netlist : goal.pass_of-requires-clause-netlist
pass_of-requires-clause-netlist c =
    subst IsNetlist (sym (of-parts c.args.circuit.now c.in_ok-aig.aig c.props.result.now c.symbols.result.now (c.in_ok-aig.ensures ∙ c.aig.ensures.value) c.props.ensures.value c.symbols.ensures.value)) c.aig.ensures.netlist

pub returns-clause-pass : goal.returns-clause-pass
returns-clause-pass c =
    let held : List ℕ = c.args.held.now in
    let n : Netlist = record { aig = c.in_ok-aig.aig; props = c.props.result.now; symbols = c.symbols.result.now } in
    let same : n ≡ c.args.circuit.now =
    of-parts c.args.circuit.now c.in_ok-aig.aig c.props.result.now c.symbols.result.now (c.in_ok-aig.ensures ∙ c.aig.ensures.value) c.props.ensures.value c.symbols.ensures.value in
    let P : Pass → Type 0 = λ pass. IsPass held n pass.circuit pass.kept_free.items pass.held.items in
    let Q : Pass → Type 0 = λ pass. IsPass held c.args.circuit.now pass.circuit pass.kept_free.items pass.held.items in
    IfOk-weaker c.pass_of.result P Q (λ pass is. subst (λ (m : Netlist). IsPass held m pass.circuit pass.kept_free.items pass.held.items) same is) c.pass_of.ensures

pub returns-clause-streams : goal.returns-clause-streams
returns-clause-streams c =
    let held : List ℕ = c.args.held.now in
    let n : Netlist = record { aig = c.in_ok-aig.aig; props = c.props.result.now; symbols = c.symbols.result.now } in
    let same : n ≡ c.args.circuit.now =
    of-parts c.args.circuit.now c.in_ok-aig.aig c.props.result.now c.symbols.result.now (c.in_ok-aig.ensures ∙ c.aig.ensures.value) c.props.ensures.value c.symbols.ensures.value in
    let valid : IsCircuit c.args.circuit.now = record { graph = c.aig.ensures.graph; netlist = c.aig.ensures.netlist } in
    let P : Pass → Type 0 = λ pass. IsPass held n pass.circuit pass.kept_free.items pass.held.items in
    let Q : Pass → Type 0 = λ pass. SameStreams c.args.circuit.now pass.circuit pass.kept_free.items in
    IfOk-weaker c.pass_of.result P Q
    (λ pass is. pass-streams held c.args.circuit.now pass.circuit pass.kept_free.items pass.held.items valid (subst (λ (m : Netlist). IsPass held m pass.circuit pass.kept_free.items pass.held.items) same is)) c.pass_of.ensures
