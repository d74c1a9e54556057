use Rattle.std.proofs.Common.{◌≡◌, ℕ, ◌-◌, ◌<◌, ◌≤◌, length, slice_index, vec_capacity}
use Rattle.frame_net.specs.FlowNet.{cap_at}
use Rattle.cut_cert.proofs.carried.carried_by_arcs.Given as goal

abbrev pub invariant-loop-arc : goal.invariant-loop-arc
invariant-loop-arc l = record {
  long : length l.carried.items ≡ l.arc;
  within : l.arc ≤ l.arcs;
  room : l.arcs ≤ vec_capacity l.carried;
  each : (a : ℕ) → a < l.arc → slice_index l.carried.items a ≡ cap_at l.net a - slice_index l.preflow.flow.cells.residuals a;
}
