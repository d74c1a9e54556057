use Rattle.std.proofs.Common.{refl}
use Rattle.aig_graph.specs.Building.{gate_of, with_gate}
use Rattle.aig_graph.specs.Graph.{Graph, IsGraph}
use Rattle.aig_graph.proofs.GraphLaws.{IsGraph-with_gate}
use Rattle.map_circuits.proofs.GrowingLaws.{conjunction-gate, extends-gate}
use Rattle.map_circuits.proofs.map_gates.MapGates.add_conjunction.Goals as goal

pub returns-clause-extends : goal.returns-clause-extends
returns-clause-extends c =
    let g : Graph = c.args.self.now in
    let grown : IsGraph (with_gate g (gate_of c.args.a c.args.b)) =
    IsGraph-with_gate g g c.args.a c.args.b refl c.requires.graph c.in_ok-lit.ensures.small c.requires.a c.requires.b in
    extends-gate g c.and.new.self c.args.a c.args.b c.requires.graph c.in_ok-lit.ensures.ok grown

pub returns-clause-is : goal.returns-clause-is
returns-clause-is c =
    let g : Graph = c.args.self.now in
    let grown : IsGraph (with_gate g (gate_of c.args.a c.args.b)) =
    IsGraph-with_gate g g c.args.a c.args.b refl c.requires.graph c.in_ok-lit.ensures.small c.requires.a c.requires.b in
    conjunction-gate g c.and.new.self c.args.a c.args.b c.in_ok-lit.lit c.requires.graph c.in_ok-lit.ensures.ok grown c.in_ok-lit.ensures.literal
