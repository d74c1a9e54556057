use Rattle.std.proofs.Common.{◌≡◌, ◌||◌, ◌<◌, ℕ, List, length, nat_lt, drop}
use Rattle.frame_net.specs.FlowNet.{node_count, row_len, head}
use Rattle.cut_cert.specs.Steps.{PointsRise, IsWay, is_used, steps_of}
use Rattle.cut_cert.proofs.used_arcs.mark_route.Given as goal

abbrev pub invariant-loop-point : goal.invariant-loop-point
invariant-loop-point l = record {
  long : length l.used ≡ length l.fn.used;
  node : l.node < node_count l.net;
  way : PointsRise l.net → (nodes : List ℕ) → IsWay l.net 0 nodes l.fn.route → IsWay l.net l.node (drop l.point-index nodes) (drop l.point-index l.fn.route);
  marks : PointsRise l.net → (nodes : List ℕ) → IsWay l.net 0 nodes l.fn.route → (x k : ℕ) → x < node_count l.net → k < row_len l.net x
      → (is_used l.net l.used x k || nat_lt 0 (steps_of l.node (drop l.point-index nodes) x (head l.net x k))) ≡ (is_used l.net l.fn.used x k || nat_lt 0 (steps_of 0 nodes x (head l.net x k)));
}
