use Rattle.std.specs.Prelude.{codes}
use Rattle.counted_io.proofs.BufferedLaws.{puts-then}
use Rattle.command_endings.proofs.progress.lines.put_seconds.Goals as goal

pub returns-in-Some : goal.returns-in-Some
returns-in-Some g c = rw c.in-Some.is (puts-then {xs = codes ", seconds "} c.put.ensures c.put_number.ensures)
