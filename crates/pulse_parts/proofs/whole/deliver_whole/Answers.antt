use Rattle.std.proofs.Common.{refl, subst, sym}
use Rattle.frame_net.specs.FlowNet.{node_count}
use Rattle.pulse_parts.specs.declared.node_list.NodeList.{NodeList}
use Rattle.pulse_parts.specs.Listing.{HasTurning}
use Rattle.pulse_parts.specs.Parts.{values_of}
use Rattle.pulse_parts.proofs.whole.deliver_whole.Goals as goal
use Rattle.pulse_parts.proofs.VisitLaws.{spare_safe}

pub deliver_listed-requires-clause-safe : goal.deliver_listed-requires-clause-safe
deliver_listed-requires-clause-safe c =
    spare_safe c.args.net.now (values_of c.args.pushes.now) (node_count c.args.net.now) c.args.part.now c.gather.new.part refl c.gather.ensures.same c.requires.safe

pub deliver_part-requires-clause-safe : goal.deliver_part-requires-clause-safe
deliver_part-requires-clause-safe c =
    spare_safe c.args.net.now (values_of c.args.pushes.now) c.nodes-nodes.result c.args.part.now c.gather.new.part c.nodes-nodes.ensures c.gather.ensures.same c.requires.safe

pub returns-then-part-clause-turning : goal.returns-then-part-clause-turning
returns-then-part-clause-turning c h =
    subst (λ (l : NodeList). HasTurning (node_count c.args.net.now) c.args.labels.now c.deliver_listed.new.part.first c.deliver_listed.new.part.end c.deliver_listed.new.part.excess.items c.deliver_listed.new.part.next.items l.nodes.items)
    (sym c.swap.ensures.x_after) c.deliver_listed.ensures.turning
