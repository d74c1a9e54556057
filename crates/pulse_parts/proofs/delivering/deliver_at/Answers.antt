use Rattle.pulse_parts.proofs.delivering.deliver_at.Goals as goal
use Rattle.std.proofs.Common.{◌+◌, ◌-◌, ◌≤◌, arith, refl}
use Rattle.std.proofs.lemmas.List.{length-set}
use Rattle.frame_net.specs.FlowNet.{start}
use Rattle.pulse_parts.specs.Parts.{values_of}
use Rattle.pulse_parts.proofs.PartLaws.{part_given}
use Rattle.pulse_parts.proofs.DeliveredPartLaws.{node_fits, cells_safe}
use Rattle.pulse_parts.proofs.DeliveredRangeLaws.{one_safe, one_given}

pub deliver_node-delivered-requires-clause-safe : goal.deliver_node-delivered-requires-clause-safe
deliver_node-delivered-requires-clause-safe c =
    one_safe c.args.net.now (values_of c.args.pushes.now) c.args.part.now.base c.args.part.now.first c.args.v c.start.result c.start-2.result _
    (record { residuals = c.as_mut_slice-residuals.result.now; excess = c.as_mut_slice-excess.result.now; next = c.as_mut_slice-next.result.now })
    c.known.ensures.network
    (node_fits c.args.net.now c.args.part.now c.args.v _ _ _ c.known.ensures.network c.requires.part c.as_mut_slice-residuals.ensures.value c.as_mut_slice-excess.ensures.value c.as_mut_slice-next.ensures.value
    c.requires.from c.requires.to)
    c.start.ensures c.start-2.ensures refl
    (cells_safe c.args.net.now (values_of c.args.pushes.now) c.args.v c.args.part.now _ _ _ c.as_mut_slice-residuals.ensures.value c.as_mut_slice-excess.ensures.value c.as_mut_slice-next.ensures.value c.requires.safe)

pub returns-clause-delivered : goal.returns-clause-delivered
returns-clause-delivered c =
    let fit = node_fits c.args.net.now c.args.part.now c.args.v _ _ _ c.known.ensures.network c.requires.part c.as_mut_slice-residuals.ensures.value c.as_mut_slice-excess.ensures.value c.as_mut_slice-next.ensures.value
    c.requires.from c.requires.to in
    let up : start c.args.net.now c.args.v ≤ start c.args.net.now (c.args.v + 1) = c.known.ensures.network.rows c.args.v (c.args.v + 1) (omega arith) fit.within in
    part_given c.args.net.now c.args.labels.now (values_of c.args.pushes.now) c.args.v (c.args.v + 1) c.args.v (c.args.v + 1) c.args.part.now
    c.as_mut_slice-residuals.result.now c.as_mut_slice-excess.result.now c.as_mut_slice-next.result.now _ _ _ c.requires.part
    c.as_mut_slice-residuals.ensures.value c.as_mut_slice-excess.ensures.value c.as_mut_slice-next.ensures.value
    (omega (arith, c.requires.from)) (omega (arith, c.requires.to)) (omega arith)
    (omega (arith, length-set c.as_mut_slice-excess.result.now (c.args.v - c.args.part.now.first) c.deliver_node-delivered.result.excess, c.as_mut_slice-excess.ensures.len))
    (omega (arith, length-set c.as_mut_slice-next.result.now (c.args.v - c.args.part.now.first) c.deliver_node-delivered.result.label, c.as_mut_slice-next.ensures.len))
    (one_given c.args.net.now c.args.labels.now (values_of c.args.pushes.now) c.args.part.now.base c.args.part.now.first c.args.v c.start.result c.start-2.result _
    (record { residuals = c.as_mut_slice-residuals.result.now; excess = c.as_mut_slice-excess.result.now; next = c.as_mut_slice-next.result.now })
    c.deliver_node-delivered.new.row _ _ _ c.known.ensures.network
    fit
    c.start.ensures c.start-2.ensures refl refl
    (omega (arith, fit.from_arc, fit.to_arc, up, c.start.ensures, c.start-2.ensures)) c.deliver_node-delivered.ensures.excess c.deliver_node-delivered.ensures.label c.deliver_node-delivered.ensures.row)
