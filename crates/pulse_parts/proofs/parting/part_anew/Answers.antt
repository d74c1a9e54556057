use Rattle.pulse_parts.proofs.parting.part_anew.Goals as goal
use Rattle.pulse_parts.proofs.CarryLaws.{lists_anew}

pub returns-clause-lists : goal.returns-clause-lists
returns-clause-lists c =
    lists_anew c.args.net.now c.args.labels.now c.args.flow.now _ c.known.ensures.network c.requires.flow c.requires.within c.in_ok-excess.ensures.len c.in_ok-excess.ensures.each c.in_ok-next.ensures.each c.in_ok-active.ensures
