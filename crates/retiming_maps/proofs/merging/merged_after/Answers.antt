use Rattle.std.proofs.Common.{refl}
use Rattle.retiming_maps.proofs.merging.merged_after.Goals as goal

pub returns-in-Ok : goal.returns-in-Ok
returns-in-Ok c =
    let along = c.in-Ok.ensures in
    record {
      start = record { reads = c.in-Ok.field-0.reads.items; said = along.merged.said; merged = along.merged.merged; keep = refl; kept_free = refl };
      leads = along.leads;
    }
