use Rattle.std.proofs.Common.{arith, refl}
use Rattle.pulse_parts.proofs.labels.turn_listed.Goals as goal
use Rattle.pulse_parts.proofs.TurningLaws.{first_none, first_more}

pub loop-i-init : goal.loop-i-init
loop-i-init c = first_none c.args.first c.args.next.now c.args.list.now c.args.labels.now

pub loop-i-preserved : goal.loop-i-preserved
loop-i-preserved c =
    let w = c.requires.list c.loop-i.i (omega arith) in
    first_more c.args.first c.args.next.now c.args.list.now c.loop-i.i _ _ c.args.labels.now c.loop-i.labels _ (omega arith) refl refl
    (omega (arith, w.0, w.1, c.requires.labels, c.loop-i.invariant.size)) refl c.loop-i.invariant

pub returns-clause-listed : goal.returns-clause-listed
returns-clause-listed c i l = c.loop-i.invariant.listed i (omega (arith, l))
