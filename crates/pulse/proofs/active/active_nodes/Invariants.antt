use Rattle.std.proofs.Common.{◌≡◌}
use Rattle.pulse_parts.specs.Reading.{active_below}
use Rattle.pulse.proofs.active.active_nodes.Given as goal

abbrev pub invariant-loop-v : goal.invariant-loop-v
invariant-loop-v l = l.count ≡ active_below l.net l.flow.labels l.flow.cells l.v
