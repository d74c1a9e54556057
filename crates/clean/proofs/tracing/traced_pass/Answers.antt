use Rattle.std.proofs.Common.{◌≡◌, ◌<◌, ◌∙◌, ◌+◌, ap, sym, subst, ℕ, Bool, List, length, map, slice_get}
use Rattle.std.specs.List.{All}
use Rattle.aig_graph.specs.Circuits.{IsNetlist, Netlist}
use Rattle.aig_graph.specs.Graph.{Graph, first_latch}
use Rattle.aig_graph.specs.Tables.{table}
use Rattle.cleaned_circuits.specs.Latches.{latch_substitute}
use Rattle.aig_graph.specs.Mapped.{mapped_props}
use Rattle.aig_graph.specs.declared.properties.Props.{Props}
use Rattle.aig_graph.specs.declared.properties.Symbols.{Symbols}
use Rattle.cleaned_circuits.specs.Merged.{merged_of, replaced, replaced_graph, substitutes_of}
use Rattle.cleaned_circuits.specs.Trimmed.{kept_free, new_position, trimmed_of}
use Rattle.clean.specs.Sweep.{is_marked}
use Rattle.clean.proofs.PassStepLaws.{merged-names, merged-props, merged-range, pass-graph, pass-netlist, pass-reached, whole}
use Rattle.clean.proofs.tracing.traced_pass.Goals as goal

pub reach_everything-requires-clause-held : goal.reach_everything-requires-clause-held
reach_everything-requires-clause-held c =
    let held : List ℕ = c.args.held.now in
    let n : Netlist = c.args.circuit.now in
    let same : c.in_ok-aig.aig ≡ n.aig = c.in_ok-aig.ensures ∙ c.aig.ensures.value in
    let aig : c.in_ok-merged.merged.aig ≡ (merged_of held n).aig = c.in_ok-merged.ensures.aig ∙ ap (λ (g : Graph). replaced_graph (substitutes_of g held) g) same in
    let props : c.in_ok-merged.merged.props ≡ (merged_of held n).props = c.in_ok-merged.ensures.props ∙ ap (λ (g : Graph). mapped_props (replaced (substitutes_of g held)) c.props.result.now) same
    ∙ ap (λ (p : Props). mapped_props (replaced (substitutes_of n.aig held)) p) c.props.ensures.value in
    merged-range n held c.aig.ensures.graph c.aig.ensures.netlist c.in_ok-merged.merged.aig c.in_ok-merged.merged.props aig props c.requires

pub reach_everything-requires-clause-props : goal.reach_everything-requires-clause-props
reach_everything-requires-clause-props c =
    let held : List ℕ = c.args.held.now in
    let n : Netlist = c.args.circuit.now in
    let same : c.in_ok-aig.aig ≡ n.aig = c.in_ok-aig.ensures ∙ c.aig.ensures.value in
    let aig : c.in_ok-merged.merged.aig ≡ (merged_of held n).aig = c.in_ok-merged.ensures.aig ∙ ap (λ (g : Graph). replaced_graph (substitutes_of g held) g) same in
    let props : c.in_ok-merged.merged.props ≡ (merged_of held n).props = c.in_ok-merged.ensures.props ∙ ap (λ (g : Graph). mapped_props (replaced (substitutes_of g held)) c.props.result.now) same
    ∙ ap (λ (p : Props). mapped_props (replaced (substitutes_of n.aig held)) p) c.props.ensures.value in
    merged-props n held c.aig.ensures.graph c.aig.ensures.netlist c.in_ok-merged.merged.aig c.in_ok-merged.merged.props aig props

pub trimmed-requires-clause-in_range : goal.trimmed-requires-clause-in_range
trimmed-requires-clause-in_range c =
    let held : List ℕ = c.args.held.now in
    let n : Netlist = c.args.circuit.now in
    let same : c.in_ok-aig.aig ≡ n.aig = c.in_ok-aig.ensures ∙ c.aig.ensures.value in
    let aig : c.in_ok-merged.merged.aig ≡ (merged_of held n).aig = c.in_ok-merged.ensures.aig ∙ ap (λ (g : Graph). replaced_graph (substitutes_of g held) g) same in
    let props : c.in_ok-merged.merged.props ≡ (merged_of held n).props = c.in_ok-merged.ensures.props ∙ ap (λ (g : Graph). mapped_props (replaced (substitutes_of g held)) c.props.result.now) same
    ∙ ap (λ (p : Props). mapped_props (replaced (substitutes_of n.aig held)) p) c.props.ensures.value in
    merged-range n held c.aig.ensures.graph c.aig.ensures.netlist c.in_ok-merged.merged.aig c.in_ok-merged.merged.props aig props c.requires

pub trimmed-requires-clause-props : goal.trimmed-requires-clause-props
trimmed-requires-clause-props c =
    let held : List ℕ = c.args.held.now in
    let n : Netlist = c.args.circuit.now in
    let same : c.in_ok-aig.aig ≡ n.aig = c.in_ok-aig.ensures ∙ c.aig.ensures.value in
    let aig : c.in_ok-merged.merged.aig ≡ (merged_of held n).aig = c.in_ok-merged.ensures.aig ∙ ap (λ (g : Graph). replaced_graph (substitutes_of g held) g) same in
    let props : c.in_ok-merged.merged.props ≡ (merged_of held n).props = c.in_ok-merged.ensures.props ∙ ap (λ (g : Graph). mapped_props (replaced (substitutes_of g held)) c.props.result.now) same
    ∙ ap (λ (p : Props). mapped_props (replaced (substitutes_of n.aig held)) p) c.props.ensures.value in
    merged-props n held c.aig.ensures.graph c.aig.ensures.netlist c.in_ok-merged.merged.aig c.in_ok-merged.merged.props aig props

pub trimmed-requires-clause-names : goal.trimmed-requires-clause-names
trimmed-requires-clause-names c =
    let held : List ℕ = c.args.held.now in
    let n : Netlist = c.args.circuit.now in
    let same : c.in_ok-aig.aig ≡ n.aig = c.in_ok-aig.ensures ∙ c.aig.ensures.value in
    let aig : c.in_ok-merged.merged.aig ≡ (merged_of held n).aig = c.in_ok-merged.ensures.aig ∙ ap (λ (g : Graph). replaced_graph (substitutes_of g held) g) same in
    let props : c.in_ok-merged.merged.props ≡ (merged_of held n).props = c.in_ok-merged.ensures.props ∙ ap (λ (g : Graph). mapped_props (replaced (substitutes_of g held)) c.props.result.now) same
    ∙ ap (λ (p : Props). mapped_props (replaced (substitutes_of n.aig held)) p) c.props.ensures.value in
    let P : Symbols → Type 0 = λ names. All (λ name. name.position < length c.in_ok-merged.merged.aig.latches) names.latches in
    subst P (sym c.symbols.ensures.value) (merged-names n held c.aig.ensures.graph c.aig.ensures.netlist c.in_ok-merged.merged.aig c.in_ok-merged.merged.props aig props)

pub trimmed-requires-clause-graph : goal.trimmed-requires-clause-graph
trimmed-requires-clause-graph c =
    let held : List ℕ = c.args.held.now in
    let n : Netlist = c.args.circuit.now in
    let same : c.in_ok-aig.aig ≡ n.aig = c.in_ok-aig.ensures ∙ c.aig.ensures.value in
    let aig : c.in_ok-merged.merged.aig ≡ (merged_of held n).aig = c.in_ok-merged.ensures.aig ∙ ap (λ (g : Graph). replaced_graph (substitutes_of g held) g) same in
    let props : c.in_ok-merged.merged.props ≡ (merged_of held n).props = c.in_ok-merged.ensures.props ∙ ap (λ (g : Graph). mapped_props (replaced (substitutes_of g held)) c.props.result.now) same
    ∙ ap (λ (p : Props). mapped_props (replaced (substitutes_of n.aig held)) p) c.props.ensures.value in
    pass-graph n held c.aig.ensures.graph c.aig.ensures.netlist c.in_ok-merged.merged.aig c.in_ok-merged.merged.props aig props
    (is_marked c.in_ok-reached.reached) c.in_ok-reached.ensures.reached

pub trimmed-requires-clause-netlist : goal.trimmed-requires-clause-netlist
trimmed-requires-clause-netlist c =
    let held : List ℕ = c.args.held.now in
    let n : Netlist = c.args.circuit.now in
    let same : c.in_ok-aig.aig ≡ n.aig = c.in_ok-aig.ensures ∙ c.aig.ensures.value in
    let aig : c.in_ok-merged.merged.aig ≡ (merged_of held n).aig = c.in_ok-merged.ensures.aig ∙ ap (λ (g : Graph). replaced_graph (substitutes_of g held) g) same in
    let props : c.in_ok-merged.merged.props ≡ (merged_of held n).props = c.in_ok-merged.ensures.props ∙ ap (λ (g : Graph). mapped_props (replaced (substitutes_of g held)) c.props.result.now) same
    ∙ ap (λ (p : Props). mapped_props (replaced (substitutes_of n.aig held)) p) c.props.ensures.value in
    let P : Symbols → Type 0 = λ names. IsNetlist (trimmed_of (record { aig = c.in_ok-merged.merged.aig; props = c.in_ok-merged.merged.props; symbols = names }) (is_marked c.in_ok-reached.reached)) in
    subst P (sym c.symbols.ensures.value) (pass-netlist n held c.aig.ensures.graph c.aig.ensures.netlist c.in_ok-merged.merged.aig c.in_ok-merged.merged.props aig props
    (is_marked c.in_ok-reached.reached) c.in_ok-reached.ensures.reached)

pub returns : goal.returns
returns c =
    let held : List ℕ = c.args.held.now in
    let n : Netlist = c.args.circuit.now in
    let same : c.in_ok-aig.aig ≡ n.aig = c.in_ok-aig.ensures ∙ c.aig.ensures.value in
    let aig : c.in_ok-merged.merged.aig ≡ (merged_of held n).aig = c.in_ok-merged.ensures.aig ∙ ap (λ (g : Graph). replaced_graph (substitutes_of g held) g) same in
    let props : c.in_ok-merged.merged.props ≡ (merged_of held n).props = c.in_ok-merged.ensures.props ∙ ap (λ (g : Graph). mapped_props (replaced (substitutes_of g held)) c.props.result.now) same
    ∙ ap (λ (p : Props). mapped_props (replaced (substitutes_of n.aig held)) p) c.props.ensures.value in
    let g : Graph = c.in_ok-merged.merged.aig in
    let p : Props = c.in_ok-merged.merged.props in
    let s : ℕ → Bool = is_marked c.in_ok-reached.reached in
    let is = c.in_ok-pass.ensures in
    let by_stands : (g : Graph) (js : List ℕ) → List ℕ = λ g js. table 0 (length g.latches) (λ j. latch_substitute g js j (slice_get g.latches j)) in
    let by_marks : (g : Graph) (r : ℕ → Bool) → List Bool = λ g r. table 0 (length g.latches) (λ j. r (first_latch g + j)) in
    let named : Symbols → Netlist = λ names. trimmed_of (record { aig = g; props = p; symbols = names }) s in
    record {
      pass = record {
        reached = s;
        are_reached = pass-reached n held c.aig.ensures.graph c.aig.ensures.netlist c.in_ok-merged.merged.aig c.in_ok-merged.merged.props aig props s c.in_ok-reached.ensures.reached;
        circuit = is.circuit ∙ ap named c.symbols.ensures.value ∙ ap (λ (d : Netlist). trimmed_of d s) (whole n held c.aig.ensures.graph c.aig.ensures.netlist c.in_ok-merged.merged.aig c.in_ok-merged.merged.props aig props);
        free = is.free ∙ ap (λ (h : Graph). kept_free h s) aig;
        positions = is.positions ∙ ap (λ (h : Graph). map (new_position h s) held) aig;
      };
      substitutes = c.in_ok-substitutes.ensures ∙ ap (λ (g : Graph). by_stands g held) c.aig-2.ensures.value;
      stays = c.in_ok-stays.ensures ∙ ap (λ (g : Graph). by_marks g s) c.aig-3.ensures.value;
    }
