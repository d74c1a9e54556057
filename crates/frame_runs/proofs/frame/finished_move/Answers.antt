use Rattle.std.proofs.Common.{Option, arith, subst}
use Rattle.std.specs.Option.{IfSome}
use Rattle.aig_graph.specs.Border.{border_size}
use Rattle.aig_graph.specs.Circuits.{Netlist}
use Rattle.aig_graph.specs.Move.{move_of}
use Rattle.aig_graph.proofs.GraphLaws.{room}
use Rattle.frame_runs.specs.Found.{IsAfterMove}
use Rattle.frame_runs.proofs.FrameLaws.{after-moving}
use Rattle.frame_runs.proofs.frame.finished_move.Goals as goal

pub moved_in-requires-clause-closed : goal.moved_in-requires-clause-closed
moved_in-requires-clause-closed c = c.requires.saves.closed

pub moved_in-requires-clause-room : goal.moved_in-requires-clause-room
moved_in-requires-clause-room c =
    let before = c.args.circuit.now in
    room before.aig (border_size (move_of before c.args.keep.now c.args.set.now)) c.known.ensures.graph (omega (arith, c.requires.saves.fewer))

pub moved_in-requires-clause-marked : goal.moved_in-requires-clause-marked
moved_in-requires-clause-marked c = c.requires.prepared.marks

pub returns-in-None : goal.returns-in-None
returns-in-None c = after-moving c.args.circuit.now c.args.keep.now c.args.set.now c.moved_in.result c.moved_in.ensures.value c.moved_in.ensures.streams

pub returns-in-Some : goal.returns-in-Some
returns-in-Some c =
    let P : Option Netlist → Type 0 = λ made. IfSome made (IsAfterMove c.args.circuit.now c.args.keep.now c.args.set.now) in
    subst P c.in-Some.is c.requires.prepared.after
