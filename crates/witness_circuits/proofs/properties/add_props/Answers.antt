use Rattle.std.proofs.Common.{ℕ, List, ◌∙◌, sym, subst}
use Rattle.aig_graph.specs.Circuits.{AreLiteralsOf, Netlist}
use Rattle.aig_graph.specs.Graph.{Graph}
use Rattle.map_circuits.specs.Instances.{AreAll}
use Rattle.witness_circuits.specs.declared.sharing.Sharing.{Sharing}
use Rattle.witness_circuits.specs.declared.parts.Parts.{Parts}
use Rattle.witness_circuits.specs.Parts.{AreParts, demands}
use Rattle.witness_circuits.proofs.PropertyLaws.{demands-within, lifted-props, parts-grow}
use Rattle.witness_circuits.proofs.properties.add_props.Goals as goal

pub add_conjunction_of-requires-clause-within : goal.add_conjunction_of-requires-clause-within
add_conjunction_of-requires-clause-within c =
    let h : Graph = c.args.gates.now in
    let p : Parts = c.args.parts.now in
    subst (λ (ls : List ℕ). AreLiteralsOf h ls) (sym (c.as_slice.ensures.value ∙ c.in_ok-demands.ensures))
    (demands-within h c.args.first.now c.args.map.now c.args.witness.now c.args.sharing.now p c.requires.graph c.requires.parts c.known.ensures.netlist c.known-2.ensures.netlist c.known-3.ensures.netlist)

pub returns-clause-props : goal.returns-clause-props
returns-clause-props c =
    let h : Graph = c.args.gates.now in
    let i : Graph = c.add_conjunction_of.new.gates in
    let a : Netlist = c.args.first.now in
    let m : Netlist = c.args.map.now in
    let w : Netlist = c.args.witness.now in
    let k : Sharing = c.args.sharing.now in
    let p : Parts = c.args.parts.now in
    let more = c.in_ok-good.ensures.extends in
    let parts : AreParts i a m w k p = parts-grow h i a m w k p more c.requires.parts in
    let all : AreAll i (demands m w p) c.in_ok-good.good = subst (λ (ls : List ℕ). AreAll i ls c.in_ok-good.good) (c.as_slice.ensures.value ∙ c.in_ok-demands.ensures) c.in_ok-good.ensures.all in
    lifted-props i a m w k p more.graph parts c.known.ensures.netlist c.known-2.ensures.netlist c.known-3.ensures.netlist c.in_ok-good.good c.signed_as.result c.in_ok-constraints.constraints.items c.in_ok-props.props all c.signed_as.ensures
    c.in_ok-constraints.ensures c.in_ok-props.ensures

pub demands_of-requires-clause-map : goal.demands_of-requires-clause-map
demands_of-requires-clause-map c = c.requires.parts.map.many

pub demands_of-requires-clause-witness : goal.demands_of-requires-clause-witness
demands_of-requires-clause-witness c = c.requires.parts.witness.many

pub constraints_of-requires : goal.constraints_of-requires
constraints_of-requires c = c.requires.parts.first.many

pub add_conjunction_of-requires-clause-graph : goal.add_conjunction_of-requires-clause-graph
add_conjunction_of-requires-clause-graph c = c.requires.graph

pub returns-clause-extends : goal.returns-clause-extends
returns-clause-extends c = c.in_ok-good.ensures.extends
