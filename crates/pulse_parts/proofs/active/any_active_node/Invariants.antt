use Rattle.std.proofs.Common.{drop}
use Rattle.pulse_parts.proofs.ActiveLaws.{Quiet}
use Rattle.pulse_parts.proofs.active.any_active_node.Given as goal

abbrev pub invariant-loop-part : goal.invariant-loop-part
invariant-loop-part l = Quiet l.net l.labels l.parts (drop l.part-index l.parts)
