use Rattle.path_levels.proofs.MarkedLaws.{outputs-are}
use Rattle.path_levels.proofs.bounding.outputs_left.Goals as goal

pub returns : goal.returns
returns c =
    outputs-are c.args.circuit.now c.aig-aig.result.now c.props.result.now c.first_gate.result c.gates.result.now c.args.barred.now c.in_ok-outputs.outputs.items c.push_barred.new.outputs.items
    c.aig-aig.ensures.value c.props.ensures.value c.first_gate.ensures.value c.gates.ensures.value c.in_ok-outputs.ensures c.in_ok-push_barred.ensures
