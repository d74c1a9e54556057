use Rattle.pulse_parts.proofs.walking.walk_part.Goals as goal
use Rattle.pulse_parts.proofs.ListedLaws.{covers_range}

pub walk_listed-requires-clause-list : goal.walk_listed-requires-clause-list
walk_listed-requires-clause-list c =
    covers_range c.args.net.now c.args.labels.now c.args.flow.now c.args.listed c.args.part.now.first c.args.part.now.end c.in-Some.i c.index-flow-i.result c.as_slice-list.result.now c.known.ensures.network c.requires.flow c.requires.listed
    c.in-Some.ensures c.as_slice-list.ensures.value
