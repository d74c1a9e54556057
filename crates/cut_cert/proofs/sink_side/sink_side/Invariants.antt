use Rattle.std.proofs.Common.{◌-◌}
use Rattle.frame_net.specs.FlowNet.{node_count}
use Rattle.pulse.specs.Conditions.{state_of}
use Rattle.cut_cert.proofs.SinkWalkLaws.{Sweeping}
use Rattle.cut_cert.proofs.sink_side.sink_side.Given as goal

-- the sink, the first of the queue, is read
abbrev pub invariant-loop-v : goal.invariant-loop-v
invariant-loop-v l = Sweeping (node_count l.net) (state_of l.net l.preflow.flow) l.v l.side 1

abbrev pub invariant-loop-w : goal.invariant-loop-w
invariant-loop-w l = Sweeping (node_count l.net) (state_of l.net l.preflow.flow) 2 l.side l.place

abbrev pub decreases-loop-w : goal.decreases-loop-w
decreases-loop-w l = node_count l.net - l.place
