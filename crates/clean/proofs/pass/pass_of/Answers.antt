use Rattle.std.proofs.Common.{◌∙◌, ap, ℕ, List, Bool, map}
use Rattle.std.proofs.lemmas.Result.{IfOk-weaker}
use Rattle.aig_graph.specs.Graph.{Graph}
use Rattle.aig_graph.specs.Circuits.{Netlist}
use Rattle.cleaned_circuits.specs.Cleaned.{IsPass}
use Rattle.cleaned_circuits.specs.Trimmed.{kept_free, new_position, trimmed_of}
use Rattle.clean.specs.Passes.{IsTrimOf}
use Rattle.clean.specs.Sweep.{is_marked}
use Rattle.clean.specs.declared.pass.Pass.{Pass}
use Rattle.clean.proofs.PassStepLaws.{merged-names, merged-props, merged-range, pass-graph, pass-netlist, pass-reached, whole}
use Rattle.clean.proofs.pass.pass_of.Goals as goal

pub reach_everything-requires-clause-held : goal.reach_everything-requires-clause-held
reach_everything-requires-clause-held c =
    let n : Netlist = record { aig = c.args.aig; props = c.args.props.now; symbols = c.args.symbols.now } in
    merged-range n c.args.held.now c.known.ensures c.requires.netlist c.in_ok-merged.merged.aig c.in_ok-merged.merged.props c.in_ok-merged.ensures.aig c.in_ok-merged.ensures.props c.requires.in_range

pub reach_everything-requires-clause-props : goal.reach_everything-requires-clause-props
reach_everything-requires-clause-props c =
    let n : Netlist = record { aig = c.args.aig; props = c.args.props.now; symbols = c.args.symbols.now } in
    merged-props n c.args.held.now c.known.ensures c.requires.netlist c.in_ok-merged.merged.aig c.in_ok-merged.merged.props c.in_ok-merged.ensures.aig c.in_ok-merged.ensures.props

pub trimmed-requires-clause-in_range : goal.trimmed-requires-clause-in_range
trimmed-requires-clause-in_range c =
    let n : Netlist = record { aig = c.args.aig; props = c.args.props.now; symbols = c.args.symbols.now } in
    merged-range n c.args.held.now c.known.ensures c.requires.netlist c.in_ok-merged.merged.aig c.in_ok-merged.merged.props c.in_ok-merged.ensures.aig c.in_ok-merged.ensures.props c.requires.in_range

pub trimmed-requires-clause-props : goal.trimmed-requires-clause-props
trimmed-requires-clause-props c =
    let n : Netlist = record { aig = c.args.aig; props = c.args.props.now; symbols = c.args.symbols.now } in
    merged-props n c.args.held.now c.known.ensures c.requires.netlist c.in_ok-merged.merged.aig c.in_ok-merged.merged.props c.in_ok-merged.ensures.aig c.in_ok-merged.ensures.props

pub trimmed-requires-clause-names : goal.trimmed-requires-clause-names
trimmed-requires-clause-names c =
    let n : Netlist = record { aig = c.args.aig; props = c.args.props.now; symbols = c.args.symbols.now } in
    merged-names n c.args.held.now c.known.ensures c.requires.netlist c.in_ok-merged.merged.aig c.in_ok-merged.merged.props c.in_ok-merged.ensures.aig c.in_ok-merged.ensures.props

pub trimmed-requires-clause-graph : goal.trimmed-requires-clause-graph
trimmed-requires-clause-graph c =
    let n : Netlist = record { aig = c.args.aig; props = c.args.props.now; symbols = c.args.symbols.now } in
    pass-graph n c.args.held.now c.known.ensures c.requires.netlist c.in_ok-merged.merged.aig c.in_ok-merged.merged.props c.in_ok-merged.ensures.aig c.in_ok-merged.ensures.props
    (is_marked c.in-Ok.reached) c.in-Ok.ensures.reached

pub trimmed-requires-clause-netlist : goal.trimmed-requires-clause-netlist
trimmed-requires-clause-netlist c =
    let n : Netlist = record { aig = c.args.aig; props = c.args.props.now; symbols = c.args.symbols.now } in
    pass-netlist n c.args.held.now c.known.ensures c.requires.netlist c.in_ok-merged.merged.aig c.in_ok-merged.merged.props c.in_ok-merged.ensures.aig c.in_ok-merged.ensures.props
    (is_marked c.in-Ok.reached) c.in-Ok.ensures.reached

pub returns-in-Ok : goal.returns-in-Ok
returns-in-Ok c =
    let held : List ℕ = c.args.held.now in
    let n : Netlist = record { aig = c.args.aig; props = c.args.props.now; symbols = c.args.symbols.now } in
    let m : Netlist = record { aig = c.in_ok-merged.merged.aig; props = c.in_ok-merged.merged.props; symbols = c.args.symbols.now } in
    let s : ℕ → Bool = is_marked c.in-Ok.reached in
    let P : Pass → Type 0 = λ pass. IsTrimOf held m pass.circuit pass.kept_free.items pass.held.items s in
    let Q : Pass → Type 0 = λ pass. IsPass held n pass.circuit pass.kept_free.items pass.held.items in
    IfOk-weaker c.trimmed.result P Q
    (λ pass is. record {
      reached = s;
      are_reached = pass-reached n held c.known.ensures c.requires.netlist c.in_ok-merged.merged.aig c.in_ok-merged.merged.props c.in_ok-merged.ensures.aig c.in_ok-merged.ensures.props s c.in-Ok.ensures.reached;
      circuit = is.circuit ∙ ap (λ (d : Netlist). trimmed_of d s) (whole n held c.known.ensures c.requires.netlist c.in_ok-merged.merged.aig c.in_ok-merged.merged.props c.in_ok-merged.ensures.aig c.in_ok-merged.ensures.props);
      free = is.free ∙ ap (λ (g : Graph). kept_free g s) c.in_ok-merged.ensures.aig;
      positions = is.positions ∙ ap (λ (g : Graph). map (new_position g s) held) c.in_ok-merged.ensures.aig;
    }) c.trimmed.ensures
