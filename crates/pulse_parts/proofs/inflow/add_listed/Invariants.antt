use Rattle.std.proofs.Common.{◌+◌}
use Rattle.pulse_parts.specs.Parts.{values_of}
use Rattle.pulse_parts.proofs.ReceivedLaws.{Adds}
use Rattle.pulse_parts.proofs.SenderLaws.{before, pushers}
use Rattle.pulse_parts.proofs.inflow.add_listed.Given as goal

abbrev pub invariant-loop-i : goal.invariant-loop-i
invariant-loop-i l = Adds l.net (values_of l.parts) (pushers l.parts) l.v (before l.parts l.i) l.fn.row l.row l.inflow

abbrev pub invariant-loop-j : goal.invariant-loop-j
invariant-loop-j l = Adds l.net (values_of l.parts) (pushers l.parts) l.v (before l.parts l.i + l.j) l.fn.row l.row l.inflow
