use Rattle.std.proofs.Common.{◌≡◌, ℕ, List, sym, subst}
use Rattle.std.proofs.lemmas.Result.{IfOk-weaker}
use Rattle.aig_graph.specs.Streams.{SameStreams}
use Rattle.aig_graph.specs.Circuits.{Netlist, IsNetlist}
use Rattle.cleaned_circuits.specs.Cleaned.{IsPass}
use Rattle.cleaned_circuits.proofs.PassLaws.{IsCircuit, pass-streams}
use Rattle.clean.specs.declared.pass.Pass.{Pass}
use Rattle.clean.proofs.PassStepLaws.{of-parts}
use Rattle.clean.proofs.pass.run_pass_over.Goals as goal

pub pass_of-pass-requires-clause-netlist : goal.pass_of-pass-requires-clause-netlist
pass_of-pass-requires-clause-netlist c =
    subst IsNetlist (sym (of-parts c.args.circuit c.into_parts-aig.result.0 c.into_parts-aig.result.1 c.into_parts-aig.result.2 c.into_parts-aig.ensures.aig c.into_parts-aig.ensures.props c.into_parts-aig.ensures.symbols)) c.known.ensures.netlist

pub returns-clause-pass : goal.returns-clause-pass
returns-clause-pass c =
    let held : List ℕ = c.args.held.now in
    let n : Netlist = record { aig = c.into_parts-aig.result.0; props = c.into_parts-aig.result.1; symbols = c.into_parts-aig.result.2 } in
    let same : n ≡ c.args.circuit =
    of-parts c.args.circuit c.into_parts-aig.result.0 c.into_parts-aig.result.1 c.into_parts-aig.result.2 c.into_parts-aig.ensures.aig c.into_parts-aig.ensures.props c.into_parts-aig.ensures.symbols in
    let P : Pass → Type 0 = λ pass. IsPass held n pass.circuit pass.kept_free.items pass.held.items in
    let Q : Pass → Type 0 = λ pass. IsPass held c.args.circuit pass.circuit pass.kept_free.items pass.held.items in
    IfOk-weaker c.pass_of-pass.result P Q (λ pass is. subst (λ (m : Netlist). IsPass held m pass.circuit pass.kept_free.items pass.held.items) same is) c.pass_of-pass.ensures

pub returns-clause-streams : goal.returns-clause-streams
returns-clause-streams c =
    let held : List ℕ = c.args.held.now in
    let n : Netlist = record { aig = c.into_parts-aig.result.0; props = c.into_parts-aig.result.1; symbols = c.into_parts-aig.result.2 } in
    let same : n ≡ c.args.circuit =
    of-parts c.args.circuit c.into_parts-aig.result.0 c.into_parts-aig.result.1 c.into_parts-aig.result.2 c.into_parts-aig.ensures.aig c.into_parts-aig.ensures.props c.into_parts-aig.ensures.symbols in
    let valid : IsCircuit c.args.circuit = record { graph = c.known.ensures.graph; netlist = c.known.ensures.netlist } in
    let P : Pass → Type 0 = λ pass. IsPass held n pass.circuit pass.kept_free.items pass.held.items in
    let Q : Pass → Type 0 = λ pass. SameStreams c.args.circuit pass.circuit pass.kept_free.items in
    IfOk-weaker c.pass_of-pass.result P Q
    (λ pass is. pass-streams held c.args.circuit pass.circuit pass.kept_free.items pass.held.items valid (subst (λ (m : Netlist). IsPass held m pass.circuit pass.kept_free.items pass.held.items) same is)) c.pass_of-pass.ensures
