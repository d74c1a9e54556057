use Rattle.std.proofs.Common.{arith, length}
use Rattle.pulse_parts.specs.Parts.{values_of}
use Rattle.pulse.proofs.workers.deliver_all.Goals as goal
use Rattle.frame_net.specs.FlowNet.{node_count}
use Rattle.pulse_parts.proofs.NumberLaws.{flow_parted, numbered_given}
use Rattle.pulse.proofs.CrewLaws.{sound_anew, read_anew, labels_ready, all_pulsed, keep_labels, lists_turned, parts_delivered}

pub deliver_parts-requires-clause-sound : goal.deliver_parts-requires-clause-sound
deliver_parts-requires-clause-sound g c κs within =
    sound_anew c.args.net.now c.args.labels.now c.args.flow.now.items c.part_flow.new.parts.items c.known.ensures.network c.in_ok-part_flow.ensures.agree c.requires.sound

pub deliver_parts-requires-clause-read : goal.deliver_parts-requires-clause-read
deliver_parts-requires-clause-read g c κs within =
    read_anew c.args.net.now c.args.labels.now c.args.flow.now.items c.part_flow.new.parts.items c.args.pushes.now c.known.ensures.network c.in_ok-part_flow.ensures.agree c.requires.read

pub deliver_parts-requires-clause-lists : goal.deliver_parts-requires-clause-lists
deliver_parts-requires-clause-lists g c κs within on = c.part_flow.ensures.lists (c.requires.lists on)

pub turn-requires-clause-lists : goal.turn-requires-clause-lists
turn-requires-clause-lists g c on =
    keep_labels c.args.net.now c.args.labels.now (values_of c.args.pushes.now) c.part_flow.new.parts.items c.deliver_parts.new.flow.items c.as_slice.result.now c.in_ok-deliver_parts.ensures.len c.in_ok-deliver_parts.ensures.each c.as_slice.ensures.value

pub turn-requires-clause-parts : goal.turn-requires-clause-parts
turn-requires-clause-parts g c =
    labels_ready c.args.net.now (length c.args.labels.now) c.args.labels.now (values_of c.args.pushes.now) c.part_flow.new.parts.items c.deliver_parts.new.flow.items c.as_slice.result.now c.requires.labels.each
    c.in_ok-part_flow.ensures.parts c.in_ok-deliver_parts.ensures.len c.in_ok-deliver_parts.ensures.each c.as_slice.ensures.value

pub returns-clause-ok : goal.returns-clause-ok
returns-clause-ok g c =
    all_pulsed c.args.net.now c.args.labels.now c.turn.new.labels c.args.flow.now.items c.part_flow.new.parts.items c.deliver_parts.new.flow.items c.as_slice.result.now c.args.pushes.now c.known.ensures.network
    c.in_ok-part_flow.ensures.parts c.in_ok-part_flow.ensures.agree c.requires.sound c.requires.read c.in_ok-deliver_parts.ensures.len c.in_ok-deliver_parts.ensures.each c.as_slice.ensures.value
    c.requires.labels.each (omega arith) c.turn.ensures

pub returns-clause-lists : goal.returns-clause-lists
returns-clause-lists g c =
    lists_turned c.args.net.now c.args.labels.now (values_of c.args.pushes.now) c.turn.new.labels c.part_flow.new.parts.items c.deliver_parts.new.flow.items c.as_slice.result.now c.known.ensures.network
    c.in_ok-part_flow.ensures.parts c.in_ok-deliver_parts.ensures.len c.in_ok-deliver_parts.ensures.each c.as_slice.ensures.value c.requires.labels.each (omega arith) c.turn.ensures

pub returns-clause-numbered : goal.returns-clause-numbered
returns-clause-numbered g c was =
    numbered_given c.args.net.now c.args.labels.now (values_of c.args.pushes.now) 0 (node_count c.args.net.now) c.part_flow.new.parts.items c.deliver_parts.new.flow.items c.in_ok-deliver_parts.ensures.len
    (parts_delivered c.args.net.now c.args.labels.now (values_of c.args.pushes.now) c.part_flow.new.parts.items c.deliver_parts.new.flow.items c.in_ok-deliver_parts.ensures.each)
    (flow_parted (node_count c.args.net.now) c.args.phase.now.share.parts c.args.flow.now.items c.part_flow.new.parts.items c.part_flow.ensures.shares was)
