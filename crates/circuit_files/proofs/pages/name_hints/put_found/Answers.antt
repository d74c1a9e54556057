use Rattle.counted_io.proofs.BufferedLaws.{puts-then}
use Rattle.circuit_files.specs.pages.HintedLines.{lead, nearest_line}
use Rattle.circuit_files.proofs.pages.name_hints.put_found.Goals as goal

pub returns : goal.returns
unfolding nearest_line
returns g c = puts-then (puts-then {xs = lead c.args.of_all} (rw c.lead.ensures at c.put.ensures) c.put_printable.ensures) c.put_byte.ensures
