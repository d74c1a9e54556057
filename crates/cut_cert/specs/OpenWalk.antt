-- How the nodes to which open arcs lead are marked, node after node.
use Rattle.std.specs.Prelude.{ℕ, zero, suc, Bool, List, if◌then◌else◌}
use Rattle.frame_net.specs.FlowNet.{FlowNet, head}
use Rattle.cut_cert.specs.Fronts.{SearchFront, reach_node}
use Rattle.cut_cert.specs.Steps.{is_open}

-- the heads of the open arcs among the first n from w are reached
unfoldable pub read_open : FlowNet → List Bool → ℕ → ℕ → SearchFront → SearchFront
read_open net used w zero r = r
read_open net used w (suc k) r = if is_open net used w k then reach_node (read_open net used w k r) (head net w k) else read_open net used w k r
