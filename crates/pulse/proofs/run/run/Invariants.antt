use Rattle.std.proofs.Common.{◌≡◌, false}
use Rattle.frame_net.specs.FlowNet.{node_count}
use Rattle.pulse_parts.proofs.ActiveLaws.{work}
use Rattle.pulse_parts.proofs.RunLaws.{Running}
use Rattle.pulse.specs.Conditions.{ArePushesOf, IsBetween, state_of}
use Rattle.pulse.proofs.run.run.Given as goal

abbrev pub invariant-pulses : goal.invariant-pulses
invariant-pulses g l = record {
  between : IsBetween l.net l.flow;
  pushes : ArePushesOf l.net l.pushes;
  usable : l.pushes.spent ≡ false;
  run : Running l.net l.count (state_of l.net l.fn.flow) (state_of l.net l.flow);
}

abbrev pub decreases-pulses : goal.decreases-pulses
decreases-pulses g l = work (node_count l.net) (state_of l.net l.flow)
