use Rattle.std.proofs.Common.{arith}
use Rattle.aig_graph.specs.Border.{border_size}
use Rattle.aig_graph.specs.Move.{move_of}
use Rattle.aig_graph.proofs.GraphLaws.{room}
use Rattle.frame_runs.proofs.FrameLaws.{after-moving}
use Rattle.frame_runs.proofs.bounding.moved_circuit.Goals as goal

pub moved-requires-clause-closed : goal.moved-requires-clause-closed
moved-requires-clause-closed c = c.requires.closed

pub moved-requires-clause-room : goal.moved-requires-clause-room
moved-requires-clause-room c =
    let before = c.args.circuit.now in
    room before.aig (border_size (move_of before c.args.keep.now c.args.set.now)) c.known.ensures.graph (omega (arith, c.requires.fewer))

pub returns : goal.returns
returns c = after-moving c.args.circuit.now c.args.keep.now c.args.set.now c.moved.result c.moved.ensures.value c.moved.ensures.streams
