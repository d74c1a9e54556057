use Rattle.std.proofs.Common.{◌≡◌, ◌||◌, ◌<◌, ℕ, List, length, nat_lt, drop}
use Rattle.frame_net.specs.FlowNet.{node_count, row_len, head}
use Rattle.cut_cert.specs.Steps.{PointsRise, AreWays, is_used, all_steps}
use Rattle.cut_cert.proofs.used_arcs.mark_routes.Given as goal

abbrev pub invariant-loop-number : goal.invariant-loop-number
invariant-loop-number l = record {
  long : length l.used ≡ length l.net.heads;
  ways : PointsRise l.net → (ways : List (List ℕ)) → AreWays l.net ways l.fn.routes → AreWays l.net (drop l.number ways) (drop l.number l.fn.routes);
  marks : PointsRise l.net → (ways : List (List ℕ)) → AreWays l.net ways l.fn.routes → (x k : ℕ) → x < node_count l.net → k < row_len l.net x
      → (is_used l.net l.used x k || nat_lt 0 (all_steps (drop l.number ways) x (head l.net x k))) ≡ nat_lt 0 (all_steps ways x (head l.net x k));
}
