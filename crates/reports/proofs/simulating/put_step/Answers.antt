use Rattle.counted_io.proofs.BufferedLaws.{puts-byte, puts-then}
use Rattle.reports.specs.Simulating.{step_of}
use Rattle.reports.proofs.simulating.put_step.Goals as goal

pub returns : goal.returns
unfolding step_of
returns g c = λ h sequences t at. puts-byte c.put_byte.ensures (puts-then (c.put_digits.ensures h sequences t at) c.put_byte-2.ensures)
