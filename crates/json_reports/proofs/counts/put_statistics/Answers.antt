use Rattle.std.proofs.Common.{ap}
use Rattle.serde_json.specs.Data.{object}
use Rattle.json_reports.proofs.PutLaws.{and_then, where_done}
use Rattle.json_reports.proofs.counts.put_statistics.Goals as goal

pub returns : goal.returns
returns c =
    where_done c.put_scalars.result c.put_scalars.ensures
    (λ scalars empty. ap object (rw
    (and_then _ _ _ (c.in_ok-put_made-2.ensures _ c.merged_value.ensures)
    (and_then _ _ _ (c.in_ok-put_made.ensures _ c.circuit_object-circuit.ensures) empty)) at scalars))
