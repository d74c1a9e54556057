use Rattle.pulse_parts.proofs.labels.turn_part.Goals as goal
use Rattle.pulse_parts.proofs.TurningLaws.{listed_here, listed_others}

pub returns-then-part-clause-here : goal.returns-then-part-clause-here
returns-then-part-clause-here c =
    listed_here c.args.labels.now c.turn_listed.new.labels c.as_slice.result.now c.as_slice-list.result.now c.args.part.now (c.requires.lists c.if-listed.true c.if-part.true)
    c.as_slice.ensures.value c.as_slice-list.ensures.value c.turn_listed.ensures.listed c.turn_listed.ensures.others

pub returns-then-part-clause-others : goal.returns-then-part-clause-others
returns-then-part-clause-others c =
    listed_others c.args.labels.now c.turn_listed.new.labels c.as_slice-list.result.now c.args.part.now (c.requires.lists c.if-listed.true c.if-part.true)
    c.as_slice-list.ensures.value c.turn_listed.ensures.others
