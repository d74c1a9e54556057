use Rattle.std.proofs.Common.{◌-◌, slice_index, []}
use Rattle.frame_net.specs.FlowNet.{node_count}
use Rattle.pulse_parts.specs.Parts.{cells_of, pairs}
use Rattle.pulse_parts.specs.Walks.{Sweeps}
use Rattle.pulse_parts.proofs.walk.exact_labels.Given as goal

abbrev pub invariant-nodes : goal.invariant-nodes
invariant-nodes l = Sweeps (node_count l.net) (pairs l.net (cells_of l.parts) []) (slice_index l.labels) (slice_index l.queue) l.queued l.place

abbrev pub decreases-nodes : goal.decreases-nodes
decreases-nodes l = node_count l.net - l.place
