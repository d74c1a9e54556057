use Rattle.std.proofs.Common.{arith, refl}
use Rattle.pulse_parts.specs.Parts.{values_of}
use Rattle.pulse_parts.proofs.gathering.add_pushes.Goals as goal
use Rattle.pulse_parts.proofs.GatheredLaws.{pushes_none, pushes_more}

pub loop-i-init : goal.loop-i-init
loop-i-init c = pushes_none c.args.net.now (values_of c.args.pushes.now) c.args.first c.args.end c.args.from.now c.args.list.now

pub loop-i-preserved : goal.loop-i-preserved
loop-i-preserved c =
    pushes_more c.args.net.now (values_of c.args.pushes.now) c.args.first c.args.end c.args.from.now c.loop-i.i _ c.args.list.now c.loop-i.list c.add_from.new.list refl c.add_from.ensures.extends c.add_from.ensures.listed c.loop-i.invariant

pub returns-clause-listed : goal.returns-clause-listed
returns-clause-listed c h i l = c.loop-i.invariant.listed h i (omega (arith, l))
