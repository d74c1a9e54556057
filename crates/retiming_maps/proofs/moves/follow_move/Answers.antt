use Rattle.std.proofs.Common.{ℕ, List}
use Rattle.aig_graph.specs.Graph.{Graph}
use Rattle.aig_graph.specs.Move.{Move, move_of}
use Rattle.rebuild.proofs.FreeLaws.{moved-room}
use Rattle.rebuild.proofs.MovedLaws.{IsGraph-moved}
use Rattle.rebuild.proofs.StreamLaws.{same_streams}
use Rattle.retiming_maps.proofs.StepLaws.{move-map}
use Rattle.retiming_maps.proofs.moves.follow_move.Goals as goal

pub follow_move-requires-clause-graph : goal.follow_move-requires-clause-graph
follow_move-requires-clause-graph c = c.requires.map.2.graph

pub follow_move-requires-clause-long : goal.follow_move-requires-clause-long
follow_move-requires-clause-long c = c.requires.map.2.many

pub follow_move-requires-clause-within : goal.follow_move-requires-clause-within
follow_move-requires-clause-within c = c.requires.map.2.functions_within

pub returns : goal.returns
returns c = λ b k p.
    let m : Move = move_of c.args.circuit.now c.args.keep.now c.args.set.now in
    let g : Graph = c.args.parts.now.gates in
    let h : Graph = c.follow_move.new.gates in
    let functions : List ℕ = c.args.parts.now.functions in
    let new : List ℕ = c.follow_move.new.self in
    let constraints : List ℕ = c.args.parts.now.constraints.items in
    let room = moved-room m c.requires.closed c.requires.room in
    let streams = same_streams m c.known.ensures.graph c.known.ensures.netlist c.requires.closed (IsGraph-moved m c.known.ensures.graph c.requires.closed room) in
    move-map b m k g h functions new constraints (record { graph = c.known.ensures.graph; netlist = c.known.ensures.netlist }) c.requires.closed
    room streams.places p c.in_ok-follow_move.ensures.extends c.in_ok-follow_move.ensures.moved
