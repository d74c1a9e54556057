use Rattle.std.proofs.Common.{subst, sym}
use Rattle.frame_net.specs.FlowNet.{node_count}
use Rattle.pulse_parts.specs.declared.parts.FlowPart.{FlowPart}
use Rattle.pulse_parts.specs.Listing.{ListsActive}
use Rattle.pulse_parts.specs.Parts.{FlowPartFits, values_of}
use Rattle.pulse_parts.specs.Delivering.{PartSafe}
use Rattle.pulse.proofs.workers.deliver_by_crew.Goals as goal
use Rattle.pulse_parts.proofs.PartsLeftLaws.{part_fits}

pub map_vec-requires-after_bounds : goal.map_vec-requires-after_bounds
map_vec-requires-after_bounds g c κs within = λ i x h e. (
  c.requires.pushes,
  (
    c.requires.labels,
    (
      subst (λ (q : FlowPart). FlowPartFits c.args.net.now q) (sym e)
          (part_fits (FlowPartFits c.args.net.now) (λ q. q.first) (λ q. q.end) (node_count c.args.net.now) 0 c.args.parts.items c.requires.parts i x h),
      (
        subst (λ (q : FlowPart). PartSafe c.args.net.now (values_of c.args.pushes.now) 0 (node_count c.args.net.now) q) (sym e) (c.requires.safe i x h),
        λ on. subst (λ (q : FlowPart). ListsActive (node_count c.args.net.now) c.args.labels.now q) (sym e) (c.requires.lists on i x h),
      ),
    ),
  ),
)
