use Rattle.std.specs.Prelude.{codes}
use Rattle.counted_io.proofs.BufferedLaws.{puts-then}
use Rattle.certificate_files.proofs.writing.put_merged.Goals as goal

pub returns : goal.returns
returns g c = puts-then (puts-then {xs = codes "merged "} c.put.ensures c.put_line.ensures) c.put_merged_latches.ensures
