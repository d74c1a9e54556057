use Rattle.std.proofs.Common.{◌≡◌, length}
use Rattle.pulse_parts.specs.Start.{AreFlowShares, border_of, start_res, start_excess, PartsHold}
use Rattle.pulse_parts.proofs.starting.start_parts.Given as goal

abbrev pub invariant-loop-worker : goal.invariant-loop-worker
invariant-loop-worker l = record {
  reached : l.first ≡ border_of l.nodes l.workers l.worker;
  len : length l.parts.items ≡ l.worker;
  shares : AreFlowShares l.nodes l.workers l.parts.items;
  starts : PartsHold l.net (start_res l.net) (start_excess l.net) l.first l.parts.items;
}
