use Rattle.std.specs.Prelude.{codes}
use Rattle.counted_io.proofs.BufferedLaws.{puts-then}
use Rattle.aag_text.specs.Header.{header_text}
use Rattle.aag_text.proofs.counts.put_header.Goals as goal

pub returns : goal.returns
unfolding header_text
returns g c = puts-then {xs = codes "aag "} c.put.ensures c.put_counts.ensures
