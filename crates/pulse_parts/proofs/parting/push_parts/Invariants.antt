use Rattle.std.proofs.Common.{◌≡◌, length}
use Rattle.pulse_parts.specs.Parts.{PushPartFits, IsParted}
use Rattle.pulse_parts.specs.Start.{ArePushShares, border_of}
use Rattle.pulse_parts.proofs.parting.push_parts.Given as goal

abbrev pub invariant-loop-worker : goal.invariant-loop-worker
invariant-loop-worker l = record {
  reached : l.first ≡ border_of l.nodes l.workers l.worker;
  len : length l.parts.items ≡ l.worker;
  shares : ArePushShares l.nodes l.workers l.parts.items;
  starts : IsParted (PushPartFits l.net) (λ q. q.first) (λ q. q.end) l.first 0 l.parts.items;
}
