use Rattle.std.proofs.Common.{◌≡◌, ◌==◌, ◌≤◌, ◌<◌, ◌+◌, ℕ, length, take}
use Rattle.std.specs.List.{IsDistinct}
use Rattle.aig_graph.specs.Marking.{has, mark_at}
use Rattle.certificates.specs.Routes.{passed}
use Rattle.certificates.proofs.apart.are_distinct.Given as goal

abbrev pub invariant-loop-point : goal.invariant-loop-point
invariant-loop-point l = record {
  long : length l.marks ≡ length l.fn.marks;
  each : (v : ℕ) → l.fn.first ≤ v → v < l.fn.first + length l.fn.marks → mark_at l.fn.first l.marks v ≡ has (passed (take l.point-index l.fn.points)) v;
  distinct : IsDistinct (λ v w. v == w) (passed (take l.point-index l.fn.points));
}
