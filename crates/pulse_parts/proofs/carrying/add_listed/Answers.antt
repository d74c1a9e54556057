use Rattle.std.proofs.Common.{arith}
use Rattle.pulse_parts.proofs.carrying.add_listed.Goals as goal
use Rattle.pulse_parts.proofs.CarryLaws.{parts_more, parts_none}

pub loop-i-init : goal.loop-i-init
loop-i-init c = parts_none c.args.parts.now c.args.first c.args.end c.args.list.now

pub loop-i-preserved : goal.loop-i-preserved
loop-i-preserved c =
    parts_more c.args.parts.now c.args.first c.args.end c.loop-i.i c.index-parts-i.result c.as_slice.result.now c.args.list.now c.loop-i.list c.add_within.new.list (omega arith) c.index-parts-i.is c.if-not-part.false
    c.as_slice.ensures.value c.add_within.ensures.extends c.add_within.ensures.listed c.loop-i.invariant

pub returns-clause-complete : goal.returns-clause-complete
returns-clause-complete c h i d l = c.loop-i.invariant.complete h i d (omega (arith, l)) l

pub returns-clause-listed : goal.returns-clause-listed
returns-clause-listed c h i d v l lo hi on = c.loop-i.invariant.listed h i d v (omega (arith, l)) l lo hi on
