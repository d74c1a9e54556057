use Rattle.std.proofs.Common.{◌≡◌, length}
use Rattle.file_words.specs.Lines.{pieces}
use Rattle.certificate_files.specs.Forms.{onto, spelt_at}
use Rattle.certificate_files.proofs.words.spelt_points.Given as goal

abbrev pub invariant-loop-word : goal.invariant-loop-word
invariant-loop-word l = onto l.points.items (spelt_at l.at (pieces l.rest)) ≡ spelt_at l.at (pieces l.words)

abbrev pub decreases-loop-word : goal.decreases-loop-word
decreases-loop-word l = length l.rest
