use Rattle.std.proofs.Common.{List, false}
use Rattle.aig_graph.specs.Circuits.{Netlist}
use Rattle.retimed_circuits.specs.declared.report.Retimed.{Retimed}
use Rattle.merging_rounds.specs.Following.{AreRoundsFollowed}
use Rattle.merging_rounds.specs.Steps.{AreMoreRounds}
use Rattle.merging_rounds.proofs.running.further_rounds.Given as goal

-- Whatever rounds led to the first state, more of them lead to this one.
abbrev pub invariant-loop : goal.invariant-loop
invariant-loop g l =
    (c : Netlist) (runs : List Retimed) → AreRoundsFollowed g.F.RunFollower.has_come l.options c runs l.fn.first
    → AreMoreRounds g.F.RunFollower.has_come g.V.FrameWatcher.was_notified l.options c runs false l.state l.fn.watcher l.watcher
