use Rattle.map_circuits.proofs.GrowingLaws.{extends-transitive}
use Rattle.aig_graph.specs.Circuits.{Netlist}
use Rattle.aig_graph.specs.Graph.{Graph}
use Rattle.map_miters.specs.declared.products.Wanted.{Wanted}
use Rattle.map_miters.proofs.EndLaws.{props-are}
use Rattle.map_miters.proofs.LeafLaws.{latches-stay}
use Rattle.map_miters.proofs.products.add_props.Goals as goal

pub add_constraints-requires-clause-latches : goal.add_constraints-requires-clause-latches
add_constraints-requires-clause-latches c =
    latches-stay c.args.first.now.aig c.args.second.now.aig c.args.gates.now c.add_good.new.gates c.args.wanted.tied c.in_ok-good.ensures.extends c.requires.latches

pub returns-clause-props : goal.returns-clause-props
returns-clause-props c =
    let a : Netlist = c.args.first.now in
    let d : Netlist = c.args.second.now in
    let m : Netlist = c.args.map.now in
    let w : Wanted = c.args.wanted in
    let h : Graph = c.add_good.new.gates in
    props-are h c.add_constraints.new.gates w a d m c.in_ok-good.good c.not.result c.in_ok-constraints.constraints.items c.in_ok-props.props c.in_ok-constraints.ensures.extends c.in_ok-good.ensures.says
    c.not.ensures.same_variable c.not.ensures.other_sign c.in_ok-constraints.ensures.constraints c.in_ok-props.ensures

pub returns-clause-extends : goal.returns-clause-extends
returns-clause-extends c =
    let g : Graph = c.args.gates.now in
    let h1 : Graph = c.add_good.new.gates in
    let h2 : Graph = c.add_constraints.new.gates in
    extends-transitive g h1 h2 c.in_ok-good.ensures.extends c.in_ok-constraints.ensures.extends
