use Rattle.latch_readings.proofs.LineLaws.{AreSaid, AreTaken}
use Rattle.latch_readings.proofs.lines.reading_of.Given as goal

abbrev pub invariant-loop-place : goal.invariant-loop-place
invariant-loop-place l = AreSaid l.aig l.lines l.reads.items l.place l.at × AreTaken l.aig l.lines l.place l.at
