use Rattle.std.proofs.Common.{sym, subst}
use Rattle.aig_graph.specs.Circuits.{Netlist}
use Rattle.map_miters.specs.Turned.{IsTurned}
use Rattle.map_miters.proofs.TurnedLaws.{is-turned, turned-netlist}
use Rattle.map_miters.proofs.turned.turned.Goals as goal

pub circuit_of-requires : goal.circuit_of-requires
circuit_of-requires c = turned-netlist c.filled.new.gates c.args.first.now c.args.second.now c.args.map.now c.in-Ok.props c.in-Ok.ensures

pub returns-in-Ok : goal.returns-in-Ok
returns-in-Ok c =
    subst (λ (r : Netlist). IsTurned c.args.first.now c.args.second.now c.args.map.now r) (sym c.circuit_of.ensures)
    (is-turned c.filled.new.gates c.args.first.now c.args.second.now c.args.map.now c.in-Ok.props c.in-Ok.ensures)
