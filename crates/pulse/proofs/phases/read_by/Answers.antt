use Rattle.std.proofs.Common.{sym}
use Rattle.std.proofs.lemmas.Bool.{false≢true}
use Rattle.pulse.proofs.phases.read_by.Goals as goal
use Rattle.pulse.proofs.FlowLaws.{parts_seen, rows_of}
use Rattle.pulse.proofs.PhaseLaws.{listed_seen, read_fits, read_walked}

pub read_all-requires-clause-flow : goal.read_all-requires-clause-flow
read_all-requires-clause-flow g c κs within =
    parts_seen c.args.net.now c.args.flow.now c.flow.inside.parts.items c.as_slice-parts.result.now c.flow.inside.labels.items c.flow.inside.delivered.items c.flow.inside.caps c.flow.inside.spent c.flow.view_is
    c.as_slice-parts.ensures.value c.if-flow.false c.requires.flow

pub read_all-requires-clause-parts : goal.read_all-requires-clause-parts
read_all-requires-clause-parts g c κs within = rows_of c.args.net.now c.args.pushes.now c.pushes.inside.parts.items c.pushes.inside.spent c.pushes.view_is c.if-pushes.false c.requires.pushes

pub read_all-requires-clause-listed : goal.read_all-requires-clause-listed
read_all-requires-clause-listed g c κs within =
    listed_seen c.args.net.now c.args.flow.now c.flow.inside.parts.items c.as_slice-parts.result.now c.flow.inside.labels.items c.as_slice-labels.result.now c.flow.inside.delivered.items c.flow.inside.caps c.flow.inside.spent
    c.flow.inside.listed c.flow.view_is c.as_slice-parts.ensures.value c.as_slice-labels.ensures.value c.requires.flow c.flow.invariant.lists

pub returns-in-Ok-clause-fits : goal.returns-in-Ok-clause-fits
returns-in-Ok-clause-fits g c =
    read_fits c.args.net.now c.as_slice-labels.result.now c.as_slice-parts.result.now c.read_all.new.parts.items c.pushes.inside.spent c.known.ensures.network c.if-pushes.false c.in-Ok.ensures.read

pub returns-in-Ok-clause-walked : goal.returns-in-Ok-clause-walked
returns-in-Ok-clause-walked g c =
    read_walked c.args.net.now c.args.flow.now c.flow.inside.parts.items c.as_slice-parts.result.now c.flow.inside.labels.items c.as_slice-labels.result.now c.flow.inside.delivered.items c.flow.inside.caps c.flow.inside.spent
    c.read_all.new.parts.items c.known.ensures.network c.flow.view_is c.as_slice-parts.ensures.value c.as_slice-labels.ensures.value c.in-Ok.ensures.walked

pub invariant_of-pushes : goal.invariant_of-pushes
invariant_of-pushes g c free = absurd (false≢true (sym free))

pub invariant_of-pushes-in-Ok : goal.invariant_of-pushes-in-Ok
invariant_of-pushes-in-Ok g c free = c.in-Ok.ensures.numbered (c.pushes.invariant free)

pub invariant_of-pushes-in-Err : goal.invariant_of-pushes-in-Err
invariant_of-pushes-in-Err g c free = absurd (false≢true (sym free))
