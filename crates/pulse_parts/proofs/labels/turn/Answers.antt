use Rattle.std.proofs.Common.{arith, drop, length}
use Rattle.std.proofs.lemmas.Grind.{common_steps}
use Rattle.pulse_parts.proofs.labels.turn.Goals as goal
use Rattle.pulse_parts.proofs.TurningLaws.{turned_none, turned_fits, turned_more, turned_all, keeps_next}

pub loop-part-init : goal.loop-part-init
loop-part-init c = turned_none (length c.args.labels.now) c.args.labels.now c.args.parts.now c.requires.parts

pub turn_part-requires-clause-part : goal.turn_part-requires-clause-part
turn_part-requires-clause-part c =
    let fit = turned_fits (length c.args.labels.now) c.args.labels.now c.loop-part.labels c.args.parts.now c.loop-part.part-index c.part-item.result (omega arith) c.part-item.is c.loop-part.invariant in
    omega (arith, fit.within)

pub turn_part-requires-clause-next : goal.turn_part-requires-clause-next
turn_part-requires-clause-next c =
    let fit = turned_fits (length c.args.labels.now) c.args.labels.now c.loop-part.labels c.args.parts.now c.loop-part.part-index c.part-item.result (omega arith) c.part-item.is c.loop-part.invariant in
    fit.sized

pub turn_part-requires-clause-lists : goal.turn_part-requires-clause-lists
turn_part-requires-clause-lists c on done =
    keeps_next (length c.args.labels.now) c.args.labels.now c.loop-part.labels c.args.parts.now c.loop-part.part-index c.part-item.result (omega arith) c.part-item.is (c.requires.lists on) c.loop-part.invariant done

pub loop-part-preserved : goal.loop-part-preserved
loop-part-preserved c =
    turned_more (length c.args.labels.now) c.args.labels.now c.loop-part.labels c.turn_part.new.labels c.args.parts.now c.loop-part.part-index c.part-item.result (omega arith) c.part-item.is c.loop-part.invariant
    c.turn_part.ensures.here c.turn_part.ensures.others

pub returns : goal.returns
returns c = turned_all (length c.args.labels.now) c.args.labels.now c.loop-part.labels c.args.parts.now (drop c.loop-part.part-index c.args.parts.now) (grind (arith, common_steps)) c.loop-part.invariant
