use Rattle.std.proofs.Common.{◌∙◌, ap}
use Rattle.reports.specs.Audits.{last_end}
use Rattle.json_reports.proofs.PutLaws.{and_then, where_done}
use Rattle.json_reports.proofs.audit.put_audit.Goals as goal

pub returns : goal.returns
returns c =
    let end = c.last_end-end.ensures ∙ ap last_end c.as_slice-audits.ensures in
    where_done c.put_scalars.result c.put_scalars.ensures
    (λ scalars empty. rw (
      (and_then _ _ _ (c.in_ok-put_made-3.ensures _ c.agreement_value.ensures)
          (and_then _ _ _ (c.in_ok-put_made-2.ensures _ (rw end at c.objection_value.ensures))
          (and_then _ _ _ (c.in_ok-put_made.ensures _ (rw c.as_slice-audits.ensures at c.counts_array.ensures)) empty))),
      c.wide.ensures,
      c.end_name.ensures,
      c.from.ensures,
      end,
    ) at scalars)
