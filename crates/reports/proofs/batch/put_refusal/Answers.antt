use Rattle.std.proofs.Common.{◌∙◌}
use Rattle.std.specs.Prelude.{codes}
use Rattle.counted_io.proofs.BufferedLaws.{puts-then}
use Rattle.reports.specs.Batches.{refusal_text}
use Rattle.reports.proofs.batch.put_refusal.Goals as goal

pub returns : goal.returns
unfolding refusal_text
returns g c =
    rw (c.as_bytes.ensures.value ∙ c.name.ensures, c.offset.ensures) at
    (puts-then {xs = codes " refused "} c.put.ensures (puts-then c.put-2.ensures (puts-then c.put_offset.ensures c.put_byte.ensures)))
