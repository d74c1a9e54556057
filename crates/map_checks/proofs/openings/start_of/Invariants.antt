use Rattle.std.proofs.Common.{get_or}
use Rattle.gate_sharing.specs.Copies.{copy_of}
use Rattle.map_checks.specs.Starts.{AreStarts}
use Rattle.map_checks.proofs.openings.start_of.Given as goal

abbrev pub invariant-loop-place : goal.invariant-loop-place
invariant-loop-place l = AreStarts l.first l.second (λ j. copy_of l.image (get_or l.outputs j 0)) l.place l.kept
