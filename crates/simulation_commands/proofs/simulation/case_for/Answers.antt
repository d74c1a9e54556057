use Rattle.simulation_commands.proofs.WaveLaws.{case_of}
use Rattle.simulation_commands.proofs.simulation.case_for.Goals as goal

pub returns-in-Ok : goal.returns-in-Ok
returns-in-Ok g c =
    let input = g.I.CountedRead.input in
    case_of c.in-Ok.circuit c.args.task.now c.in-Ok.ensures.0 (input c.args.stdin.now) (input c.read_circuit.new.stdin) (input c.case_with.new.stdin) c.case_with.result c.in-Ok.ensures.1
    c.in-Ok.ensures.2 c.case_with.ensures
