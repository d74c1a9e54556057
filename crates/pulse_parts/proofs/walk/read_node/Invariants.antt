use Rattle.std.proofs.Common.{slice_index}
use Rattle.pulse_parts.specs.Parts.{cells_of}
use Rattle.pulse_parts.proofs.DistanceWalkLaws.{Reading}
use Rattle.pulse_parts.proofs.walk.read_node.Given as goal

abbrev pub invariant-loop-k : goal.invariant-loop-k
invariant-loop-k l = Reading l.net (cells_of l.parts) (slice_index l.labels) (slice_index l.queue) l.count l.place l.w l.label l.k
