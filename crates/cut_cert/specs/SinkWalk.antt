-- How the nodes that reach the sink are marked, node after node.
use Rattle.std.specs.Prelude.{ℕ, zero, suc, ◌&&◌, nat_lt, List, slice_index, if◌then◌else◌}
use Rattle.frame_net.specs.FlowNet.{FlowNet, head, mate}
use Rattle.cut_cert.specs.Fronts.{SearchFront, mark_node, reach_node}

-- A sweep reads the marked nodes from the last down to 2, and has come down to `swept`. A node to
-- which it comes later is marked alone, any other is reached.
unfoldable pub reach_node_in_sweep : ℕ → SearchFront → ℕ → SearchFront
reach_node_in_sweep swept r v = if nat_lt 1 v && nat_lt v swept then mark_node r v else reach_node r v

-- the head of w's k-th arc is reached if the arc from it to w, which is the mate, has a residual
unfoldable pub read_arc : FlowNet → List ℕ → ℕ → ℕ → ℕ → SearchFront → SearchFront
read_arc net residuals swept w k r = if nat_lt 0 (slice_index residuals (mate net w k)) then reach_node_in_sweep swept r (head net w k) else r

-- the first n arcs with tail w, one after another
unfoldable pub read_arcs : FlowNet → List ℕ → ℕ → ℕ → ℕ → SearchFront → SearchFront
read_arcs net residuals swept w zero r = r
read_arcs net residuals swept w (suc k) r = read_arc net residuals swept w k (read_arcs net residuals swept w k r)
