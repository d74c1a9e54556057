use Rattle.std.proofs.Common.{arith, drop, sym}
use Rattle.std.proofs.lemmas.Grind.{common_steps}
use Rattle.pulse_parts.proofs.active.any_active_node.Goals as goal
use Rattle.pulse_parts.proofs.ActiveLaws.{quiet_none, quiet_fits, quiet_more, quiet_all, lists_next, loud}

pub loop-part-init : goal.loop-part-init
loop-part-init c = quiet_none c.args.net.now c.args.labels.now c.args.parts.now c.requires.parts

pub part_active-requires-clause-part : goal.part_active-requires-clause-part
part_active-requires-clause-part c =
    let fit = quiet_fits c.args.net.now c.args.labels.now c.args.parts.now c.loop-part.part-index c.part-item.result (omega arith) c.part-item.is c.loop-part.invariant in
    omega (arith, fit.within, c.requires.labels.each)

pub part_active-requires-clause-excess : goal.part_active-requires-clause-excess
part_active-requires-clause-excess c =
    let fit = quiet_fits c.args.net.now c.args.labels.now c.args.parts.now c.loop-part.part-index c.part-item.result (omega arith) c.part-item.is c.loop-part.invariant in
    fit.nodes

pub part_active-requires-clause-lists : goal.part_active-requires-clause-lists
part_active-requires-clause-lists c on =
    lists_next c.args.net.now c.args.labels.now c.args.parts.now c.loop-part.part-index c.part-item.result c.nodes-nodes.result c.nodes-nodes.ensures (omega arith) c.part-item.is (c.requires.lists on)

pub loop-part-preserved : goal.loop-part-preserved
loop-part-preserved c =
    quiet_more c.args.net.now c.args.labels.now c.args.parts.now c.loop-part.part-index c.part-item.result c.nodes-nodes.result c.nodes-nodes.ensures (omega arith) c.part-item.is c.loop-part.invariant
    (c.part_active.ensures.none c.if-part_active.false)

pub returns-then-part_active : goal.returns-then-part_active
returns-then-part_active c =
    sym (loud c.args.net.now c.args.labels.now c.args.parts.now c.loop-part.part-index c.part-item.result c.nodes-nodes.result c.nodes-nodes.ensures (omega arith) c.part-item.is c.loop-part.invariant
    (c.part_active.ensures.some c.if-part_active.true))

pub returns : goal.returns
returns c = sym (quiet_all c.args.net.now c.args.labels.now c.args.parts.now (drop c.loop-part.part-index c.args.parts.now) (grind (arith, common_steps)) c.loop-part.invariant)
