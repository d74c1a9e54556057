use Rattle.std.proofs.Common.{subst, sym}
use Rattle.frame_net.specs.FlowNet.{node_count}
use Rattle.pulse_parts.specs.declared.parts.PushPart.{PushPart}
use Rattle.pulse_parts.specs.Parts.{PushPartFits}
use Rattle.pulse.proofs.workers.read_by_crew.Goals as goal
use Rattle.pulse_parts.proofs.PartsLeftLaws.{part_fits}

pub map_vec-requires-after_bounds : goal.map_vec-requires-after_bounds
map_vec-requires-after_bounds g c κs within = λ i x h e. (
  c.requires.labels,
  (
    c.requires.flow,
    (
      subst (λ (q : PushPart). PushPartFits c.args.net.now q) (sym e)
          (part_fits (PushPartFits c.args.net.now) (λ q. q.first) (λ q. q.end) (node_count c.args.net.now) 0 c.args.parts.items c.requires.parts i x h),
      c.requires.listed,
    ),
  ),
)
