use Rattle.std.proofs.Common.{List, arith, ap, refl, subst, sym}
use Rattle.std.proofs.lemmas.List.{with_items_is}
use Rattle.frame_net.specs.FlowNet.{node_count}
use Rattle.pulse_parts.specs.declared.parts.FlowPart.{FlowPart}
use Rattle.pulse_parts.specs.Listing.{ListActive}
use Rattle.pulse_parts.specs.Parts.{values_of}
use Rattle.pulse.proofs.workers.deliver_parts.Goals as goal
use Rattle.pulse.proofs.CrewLaws.{all_safe, all_delivered}

pub deliver_every-requires-clause-safe : goal.deliver_every-requires-clause-safe
deliver_every-requires-clause-safe g c =
    all_safe c.args.net.now (node_count c.args.net.now) c.args.labels.now c.args.flow.now.items c.as_mut_slice.result.now c.args.pushes.now c.known.ensures.network refl c.as_mut_slice.ensures.value
    c.requires.flow c.requires.sound c.requires.read

pub deliver_every-requires-clause-lists : goal.deliver_every-requires-clause-lists
deliver_every-requires-clause-lists g c on =
    subst (λ (x : List FlowPart). ListActive (node_count c.args.net.now) c.args.labels.now x) (sym c.as_mut_slice.ensures.value) (c.requires.lists on)

pub returns-then-not-phase-clause-each : goal.returns-then-not-phase-clause-each
returns-then-not-phase-clause-each g c =
    all_delivered c.args.net.now c.args.labels.now (values_of c.args.pushes.now) c.args.flow.now.items c.as_mut_slice.result.now c.deliver_every.new.parts _
    c.as_mut_slice.ensures.value (with_items_is c.args.flow.now c.deliver_every.new.parts (omega arith)) c.deliver_every.ensures.each

pub deliver_by_crew-requires-clause-safe : goal.deliver_by_crew-requires-clause-safe
deliver_by_crew-requires-clause-safe g c κs within =
    all_safe c.args.net.now (node_count c.args.net.now) c.args.labels.now c.args.flow.now.items c.replace-parts.result.items c.args.pushes.now c.known.ensures.network refl (ap (λ v. v.items) c.replace-parts.ensures.value)
    c.requires.flow c.requires.sound c.requires.read

pub deliver_by_crew-requires-clause-lists : goal.deliver_by_crew-requires-clause-lists
deliver_by_crew-requires-clause-lists g c κs within on =
    subst (λ (x : List FlowPart). ListActive (node_count c.args.net.now) c.args.labels.now x) (sym (ap (λ v. v.items) c.replace-parts.ensures.value)) (c.requires.lists on)
