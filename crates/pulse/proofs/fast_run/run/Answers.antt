use Rattle.std.proofs.Common.{◌+◌, arith, sym, ◌∙◌}
use Rattle.frame_net.specs.FlowNet.{node_count}
use Rattle.frame_net.specs.Flow.{is_active}
use Rattle.pulse_parts.proofs.ActiveLaws.{none_at}
use Rattle.pulse_parts.proofs.RunLaws.{paid_none, paid_pulse, pulses_fit}
use Rattle.pulse.specs.Conditions.{state_of}
use Rattle.pulse.proofs.PartLaws.{pulse_parted}
use Rattle.pulse.proofs.StepLaws.{paid_labels, pulse_left}
use Rattle.pulse.proofs.fast_run.run.Goals as goal

pub pulses-init : goal.pulses-init
pulses-init g c = record {
  some = c.first_share-share.ensures.some;
  between = c.relabel.ensures.flow;
  pushes = c.requires.pushes;
  usable = c.requires.usable;
  paid = paid_none c.args.net.now (state_of c.args.net.now c.relabel.new.flow) c.known.ensures.network c.relabel.ensures.flow.sound;
}

pub overflow_add-count : goal.overflow_add-count
overflow_add-count g c = omega (arith, pulses_fit c.args.net.now c.pulses.count c.known.ensures.network (omega (arith, c.pulses.invariant.paid.bounded)))

pub pulses-smaller : goal.pulses-smaller
pulses-smaller g c =
    pulse_left c.args.net.now c.pulses.flow c.part_ahead.new.flow c.relabel_after_walks.new.flow c.known.ensures.network c.pulses.invariant.between.sound (sym c.is_active.ensures ∙ c.pulses-test.true)
    (pulse_parted c.args.net.now c.pulses.flow c.pulse_by.new.flow c.part_ahead.new.flow c.in_ok-pulse_by.ensures.flow c.in_ok-part_ahead.ensures.flow c.in_ok-part_ahead.ensures.agree) c.relabel_after_walks.ensures.labels

pub pulses-preserved : goal.pulses-preserved
pulses-preserved g c = record {
  some = c.next-share.ensures.some;
  between = c.relabel_after_walks.ensures.flow;
  pushes = c.in_ok-pulse_by.ensures.pushes;
  usable = c.in_ok-pulse_by.ensures.unspent;
  paid = paid_labels c.args.net.now (c.pulses.count + 1) c.part_ahead.new.flow c.relabel_after_walks.new.flow c.known.ensures.network
      (paid_pulse c.args.net.now c.pulses.count (state_of c.args.net.now c.pulses.flow) (state_of c.args.net.now c.part_ahead.new.flow) c.known.ensures.network c.pulses.invariant.paid
      (sym c.is_active.ensures ∙ c.pulses-test.true)
      (pulse_parted c.args.net.now c.pulses.flow c.pulse_by.new.flow c.part_ahead.new.flow c.in_ok-pulse_by.ensures.flow c.in_ok-part_ahead.ensures.flow c.in_ok-part_ahead.ensures.agree).agree)
      c.relabel_after_walks.ensures.labels;
}

pub returns-clause-ended : goal.returns-clause-ended
returns-clause-ended g c = λ v h. none_at (node_count c.args.net.now) (is_active (node_count c.args.net.now) (state_of c.args.net.now c.pulses.flow)) (sym c.is_active.ensures ∙ c.pulses-test.false) v h

pub returns-clause-bounded : goal.returns-clause-bounded
returns-clause-bounded g c = omega (arith, c.pulses.invariant.paid.bounded)
