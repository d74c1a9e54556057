use Rattle.std.proofs.Common.{List, inr, subst, sym}
use Rattle.frame_net.specs.FlowNet.{node_count}
use Rattle.pulse_parts.specs.declared.parts.FlowPart.{FlowPart}
use Rattle.pulse_parts.specs.Listing.{ListActive}
use Rattle.pulse_parts.specs.Parts.{Agree, cells_of, pairs}
use Rattle.pulse.proofs.workers.part_flow.Goals as goal
use Rattle.pulse_parts.proofs.StartStateLaws.{held_cut, parted_agrees}

pub returns-in_ok-parts-clause-parts : goal.returns-in_ok-parts-clause-parts
returns-in_ok-parts-clause-parts c = held_cut c.args.net.now _ _ c.in_ok-parts.field-0.items c.in_ok-parts.ensures.holds

pub returns-in_ok-parts-clause-shares : goal.returns-in_ok-parts-clause-shares
returns-in_ok-parts-clause-shares c = inr c.in_ok-parts.ensures.shares

pub returns-in_ok-parts-clause-agree : goal.returns-in_ok-parts-clause-agree
returns-in_ok-parts-clause-agree c =
    subst (λ (x : List FlowPart). Agree (node_count c.args.net.now) (pairs c.args.net.now (cells_of x) c.args.labels.now) (pairs c.args.net.now (cells_of c.in_ok-parts.field-0.items) c.args.labels.now)) c.as_slice.ensures.value
    (parted_agrees c.args.net.now c.args.labels.now (cells_of c.as_slice.result.now) c.in_ok-parts.field-0.items c.known.ensures.network c.in_ok-parts.ensures.holds)

pub returns-in_ok-parts-clause-lists : goal.returns-in_ok-parts-clause-lists
returns-in_ok-parts-clause-lists c was =
    c.in_ok-parts.ensures.lists (subst (λ (x : List FlowPart). ListActive (node_count c.args.net.now) c.args.labels.now x) (sym c.as_slice.ensures.value) was)
