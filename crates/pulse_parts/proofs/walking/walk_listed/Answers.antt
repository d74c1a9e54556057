use Rattle.std.proofs.Common.{arith, refl}
use Rattle.pulse_parts.specs.Parts.{cells_of}
use Rattle.pulse_parts.proofs.walking.walk_listed.Goals as goal
use Rattle.pulse_parts.proofs.PartWalkLaws.{has_row, listed_all, listed_more, listed_none}
use Rattle.pulse_parts.proofs.WholeLaws.{whole_walked}

pub loop-i-init : goal.loop-i-init
loop-i-init c =
    listed_none c.args.net.now c.args.labels.now (cells_of c.args.flow.now) c.args.list.now c.args.part.now c.begin.new.self c.known.ensures.network c.requires.part c.requires.list c.requires.zero c.begin.ensures.empty

pub visit-requires-clause-v : goal.visit-requires-clause-v
visit-requires-clause-v c = omega (arith, (c.requires.list.within c.loop-i.i (omega arith)).1, c.requires.part.within)

pub visit-requires-clause-row : goal.visit-requires-clause-row
visit-requires-clause-row c =
    has_row c.args.net.now _ c.args.part.now c.loop-i.part c.known.ensures.network c.requires.part c.loop-i.invariant.same c.loop-i.invariant.sized
    (c.requires.list.within c.loop-i.i (omega arith)).0 (c.requires.list.within c.loop-i.i (omega arith)).1

pub loop-i-preserved : goal.loop-i-preserved
loop-i-preserved c =
    listed_more c.args.net.now c.args.labels.now (cells_of c.args.flow.now) c.args.list.now c.loop-i.i _ c.args.part.now c.loop-i.part c.visit.new.part c.known.ensures.network c.requires.part c.requires.list c.requires.zero
    (omega arith) refl c.loop-i.invariant c.visit.ensures.same c.visit.ensures.active c.visit.ensures.idle

pub returns : goal.returns
returns c =
    whole_walked c.args.net.now c.args.labels.now (cells_of c.args.flow.now) c.args.part.now c.loop-i.part c.requires.part
    (listed_all c.args.net.now c.args.labels.now (cells_of c.args.flow.now) c.args.list.now c.loop-i.i c.args.part.now c.loop-i.part c.requires.part c.requires.list (omega arith) (omega arith) c.loop-i.invariant)
