use Rattle.frame_net.specs.FlowNet.{node_count}
use Rattle.pulse_parts.proofs.NumberLaws.{flow_parted}
use Rattle.pulse.proofs.fast_run.part_ahead.Goals as goal
use Rattle.pulse.proofs.PartLaws.{between_parts, parted_lists, parted_state}

pub part_flow-requires-clause-parts : goal.part_flow-requires-clause-parts
part_flow-requires-clause-parts c =
    between_parts c.args.net.now c.args.flow.now c.flow.inside.parts.items c.flow.inside.labels.items c.flow.inside.delivered.items c.flow.inside.caps c.flow.inside.spent c.flow.view_is c.requires.flow

pub invariant_of-flow : goal.invariant_of-flow
invariant_of-flow c = record {
  lists = λ on.
      parted_lists c.args.net.now c.args.flow.now c.flow.inside.parts.items c.part_flow.new.parts.items c.flow.inside.labels.items c.as_slice-labels.result.now c.flow.inside.delivered.items c.flow.inside.caps c.flow.inside.spent
      c.flow.view_is c.as_slice-labels.ensures.value c.requires.flow c.part_flow.ensures.lists (c.flow.invariant.lists on);
  numbered = λ free. flow_parted (node_count c.args.net.now) c.args.parts c.flow.inside.parts.items c.part_flow.new.parts.items c.part_flow.ensures.shares (c.flow.invariant.numbered free);
}

pub invariant_of-flow-2 : goal.invariant_of-flow-2
invariant_of-flow-2 c = record {
  lists = λ on.
      parted_lists c.args.net.now c.args.flow.now c.flow.inside.parts.items c.part_flow.new.parts.items c.flow.inside.labels.items c.as_slice-labels.result.now c.flow.inside.delivered.items c.flow.inside.caps c.flow.inside.spent
      c.flow.view_is c.as_slice-labels.ensures.value c.requires.flow c.part_flow.ensures.lists (c.flow.invariant.lists on);
  numbered = λ free. flow_parted (node_count c.args.net.now) c.args.parts c.flow.inside.parts.items c.part_flow.new.parts.items c.part_flow.ensures.shares (c.flow.invariant.numbered free);
}

pub returns-clause-flow : goal.returns-clause-flow
returns-clause-flow c =
    (parted_state c.args.net.now c.args.flow.now c.flow.inside.parts.items c.part_flow.new.parts.items c.flow.inside.labels.items c.as_slice-labels.result.now c.flow.inside.delivered.items c.flow.inside.caps c.flow.inside.spent
    c.known.ensures.network c.flow.view_is c.as_slice-labels.ensures.value c.requires.flow c.in_ok-part_flow.ensures.parts c.in_ok-part_flow.ensures.agree).between

pub returns-clause-agree : goal.returns-clause-agree
returns-clause-agree c =
    (parted_state c.args.net.now c.args.flow.now c.flow.inside.parts.items c.part_flow.new.parts.items c.flow.inside.labels.items c.as_slice-labels.result.now c.flow.inside.delivered.items c.flow.inside.caps c.flow.inside.spent
    c.known.ensures.network c.flow.view_is c.as_slice-labels.ensures.value c.requires.flow c.in_ok-part_flow.ensures.parts c.in_ok-part_flow.ensures.agree).agree
