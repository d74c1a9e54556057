use Rattle.std.proofs.Common.{ap}
use Rattle.serde_json.specs.Data.{object}
use Rattle.json_reports.proofs.PutLaws.{and_then, where_done}
use Rattle.json_reports.proofs.retiming.put_retiming.Goals as goal

pub returns : goal.returns
returns c =
    where_done c.put_scalars.result c.put_scalars.ensures
    (λ scalars empty. ap object (rw (
      (and_then _ _ _ (c.in_ok-put_made-8.ensures _ c.times_value.ensures)
          (and_then _ _ _ (c.in_ok-put_made-7.ensures _ (rw (c.in_ok-merged.ensures, c.as_slice.ensures) at c.merged_value.ensures))
          (and_then _ _ _ (c.in_ok-put_made-6.ensures _ c.map_value.ensures)
          (and_then _ _ _ (c.in_ok-put_made-5.ensures _ c.held_back_object-held_back.ensures)
          (and_then _ _ _ (c.in_ok-put_made-4.ensures _ (rw c.as_slice-free_kept.ensures at c.numbers_array.ensures))
          (and_then _ _ _ (c.in_ok-put_made-3.ensures _ (rw c.as_slice-frames.ensures at c.frames_array.ensures))
          (and_then _ _ _ (c.in_ok-put_made-2.ensures _ c.before_object-before.ensures)
          (and_then _ _ _ (c.in_ok-put_made.ensures _ c.circuit_object.ensures) empty)))))))),
      c.wide.ensures,
      c.wide-2.ensures,
      c.networks_of.ensures,
    ) at scalars))
