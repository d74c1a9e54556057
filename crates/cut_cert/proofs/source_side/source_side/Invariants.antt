use Rattle.std.proofs.Common.{◌-◌}
use Rattle.frame_net.specs.FlowNet.{node_count}
use Rattle.cut_cert.proofs.OpenWalkLaws.{Swept}
use Rattle.cut_cert.proofs.source_side.source_side.Given as goal

abbrev pub invariant-loop-node : goal.invariant-loop-node
invariant-loop-node l = Swept l.net l.used l.side l.place

abbrev pub decreases-loop-node : goal.decreases-loop-node
decreases-loop-node l = node_count l.net - l.place
