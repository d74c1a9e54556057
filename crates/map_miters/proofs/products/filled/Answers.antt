use Rattle.std.proofs.Common.{sym, subst}
use Rattle.aig_graph.specs.Circuits.{Netlist}
use Rattle.aig_graph.specs.Graph.{Graph, IsGraph}
use Rattle.map_miters.specs.declared.products.Wanted.{Wanted}
use Rattle.map_circuits.proofs.GrowingLaws.{extends-transitive}
use Rattle.map_miters.specs.declared.sides.Sides.{Sides}
use Rattle.map_miters.specs.Built.{IsFilled}
use Rattle.map_miters.specs.Sides.{AreSides}
use Rattle.map_miters.specs.Ties.{HasLatches}
use Rattle.map_miters.proofs.EndLaws.{is-filled, nexts-long, nexts-within}
use Rattle.map_miters.proofs.GoalLaws.{sides-grow}
use Rattle.map_miters.proofs.LeafLaws.{begun-latches, latches-stay}
use Rattle.map_miters.proofs.products.filled.Goals as goal

pub add_props-requires-clause-latches : goal.add_props-requires-clause-latches
add_props-requires-clause-latches c =
    let a : Netlist = c.args.first.now in
    let d : Netlist = c.args.second.now in
    let tied = c.args.wanted.tied in
    latches-stay a.aig d.aig c.args.gates.now c.add_sides.new.gates tied c.in_ok-sides.ensures.extends (begun-latches a.aig d.aig c.args.gates.now tied c.requires.begun)

pub end-requires-clause-many : goal.end-requires-clause-many
end-requires-clause-many c =
    let g : Graph = c.args.gates.now in
    let a : Netlist = c.args.first.now in
    let d : Netlist = c.args.second.now in
    let m : Netlist = c.args.map.now in
    let w : Wanted = c.args.wanted in
    let s : Sides = c.in_ok-sides.sides in
    let h1 : Graph = c.add_sides.new.gates in
    let h : Graph = c.add_props.new.gates in
    let more = extends-transitive g h1 h c.in_ok-sides.ensures.extends c.in_ok-props.ensures.extends in
    let has : HasLatches a.aig d.aig w.tied h = latches-stay a.aig d.aig g h w.tied more (begun-latches a.aig d.aig g w.tied c.requires.begun) in
    let sides : AreSides h a d s = sides-grow h1 h a d s c.in_ok-props.ensures.extends c.in_ok-sides.ensures.sides in
    nexts-long h h a d s w.tied sides has

pub end-requires-clause-within : goal.end-requires-clause-within
end-requires-clause-within c =
    let g : Graph = c.args.gates.now in
    let a : Netlist = c.args.first.now in
    let d : Netlist = c.args.second.now in
    let m : Netlist = c.args.map.now in
    let w : Wanted = c.args.wanted in
    let s : Sides = c.in_ok-sides.sides in
    let h1 : Graph = c.add_sides.new.gates in
    let h : Graph = c.add_props.new.gates in
    let more = extends-transitive g h1 h c.in_ok-sides.ensures.extends c.in_ok-props.ensures.extends in
    let has : HasLatches a.aig d.aig w.tied h = latches-stay a.aig d.aig g h w.tied more (begun-latches a.aig d.aig g w.tied c.requires.begun) in
    let sides : AreSides h a d s = sides-grow h1 h a d s c.in_ok-props.ensures.extends c.in_ok-sides.ensures.sides in
    nexts-within h a d s w.tied sides

pub returns : goal.returns
returns c =
    let g : Graph = c.args.gates.now in
    let a : Netlist = c.args.first.now in
    let d : Netlist = c.args.second.now in
    let m : Netlist = c.args.map.now in
    let w : Wanted = c.args.wanted in
    let s : Sides = c.in_ok-sides.sides in
    let h1 : Graph = c.add_sides.new.gates in
    let h : Graph = c.add_props.new.gates in
    let more = extends-transitive g h1 h c.in_ok-sides.ensures.extends c.in_ok-props.ensures.extends in
    let has : HasLatches a.aig d.aig w.tied h = latches-stay a.aig d.aig g h w.tied more (begun-latches a.aig d.aig g w.tied c.requires.begun) in
    let sides : AreSides h a d s = sides-grow h1 h a d s c.in_ok-props.ensures.extends c.in_ok-sides.ensures.sides in
    subst (λ (b : Graph). IsFilled b w a d m c.in_ok-props.props) (sym c.in_ok-end.ensures.ended)
    (is-filled g h w a d m s c.in_ok-props.props c.requires.begun more sides c.in_ok-props.ensures.props has (subst (λ (b : Graph). IsGraph b) c.in_ok-end.ensures.ended c.in_ok-end.ensures.graph))
