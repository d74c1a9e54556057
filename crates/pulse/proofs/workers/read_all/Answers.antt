use Rattle.std.proofs.Common.{arith, ap, refl}
use Rattle.std.proofs.lemmas.List.{with_items_is}
use Rattle.pulse.proofs.workers.read_all.Goals as goal
use Rattle.pulse_parts.proofs.NumberLaws.{pushes_parted}
use Rattle.frame_net.specs.FlowNet.{node_count}
use Rattle.pulse.proofs.CrewLaws.{all_numbered, all_read, all_walked}

pub returns-then-not-phase-clause-read : goal.returns-then-not-phase-clause-read
returns-then-not-phase-clause-read g c =
    all_read c.args.net.now c.args.labels.now c.args.flow.now c.part_pushes.new.parts.items c.as_mut_slice.result.now c.read_every.new.parts _
    c.known.ensures.network c.as_mut_slice.ensures.value (with_items_is c.part_pushes.new.parts c.read_every.new.parts (omega arith))
    c.in_ok-part_pushes.ensures.parts c.read_every.ensures.len c.read_every.ensures.each

pub returns-then-not-phase-clause-walked : goal.returns-then-not-phase-clause-walked
returns-then-not-phase-clause-walked g c =
    all_walked c.args.net.now c.args.labels.now c.args.flow.now c.part_pushes.new.parts.items c.as_mut_slice.result.now c.read_every.new.parts _
    c.as_mut_slice.ensures.value (with_items_is c.part_pushes.new.parts c.read_every.new.parts (omega arith))
    c.in_ok-part_pushes.ensures.parts c.read_every.ensures.len c.read_every.ensures.each

pub returns-clause-read : goal.returns-clause-read
returns-clause-read g c =
    all_read c.args.net.now c.args.labels.now c.args.flow.now c.part_pushes.new.parts.items c.replace-taken.result.items c.in_ok-done.done.items c.in_ok-done.done.items
    c.known.ensures.network (ap (λ v. v.items) c.replace-taken.ensures.value) refl c.in_ok-part_pushes.ensures.parts c.in_ok-done.ensures.len c.in_ok-done.ensures.each

pub returns-clause-walked : goal.returns-clause-walked
returns-clause-walked g c =
    all_walked c.args.net.now c.args.labels.now c.args.flow.now c.part_pushes.new.parts.items c.replace-taken.result.items c.in_ok-done.done.items c.in_ok-done.done.items
    (ap (λ v. v.items) c.replace-taken.ensures.value) refl c.in_ok-part_pushes.ensures.parts c.in_ok-done.ensures.len c.in_ok-done.ensures.each

pub returns-then-not-phase-clause-numbered : goal.returns-then-not-phase-clause-numbered
returns-then-not-phase-clause-numbered g c was =
    all_numbered c.args.net.now c.args.labels.now c.args.flow.now c.part_pushes.new.parts.items c.as_mut_slice.result.now c.read_every.new.parts _
    c.as_mut_slice.ensures.value (with_items_is c.part_pushes.new.parts c.read_every.new.parts (omega arith)) c.read_every.ensures.len c.read_every.ensures.each
    (pushes_parted (node_count c.args.net.now) c.args.phase.now.share.parts c.args.parts.now.items c.part_pushes.new.parts.items c.part_pushes.ensures.shares was)

pub returns-clause-numbered : goal.returns-clause-numbered
returns-clause-numbered g c was =
    all_numbered c.args.net.now c.args.labels.now c.args.flow.now c.part_pushes.new.parts.items c.replace-taken.result.items c.in_ok-done.done.items c.in_ok-done.done.items
    (ap (λ v. v.items) c.replace-taken.ensures.value) refl c.in_ok-done.ensures.len c.in_ok-done.ensures.each
    (pushes_parted (node_count c.args.net.now) c.args.phase.now.share.parts c.args.parts.now.items c.part_pushes.new.parts.items c.part_pushes.ensures.shares was)
