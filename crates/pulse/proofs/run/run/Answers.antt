use Rattle.std.proofs.Common.{◌+◌, arith, sym, ◌∙◌}
use Rattle.frame_net.specs.FlowNet.{node_count}
use Rattle.pulse_parts.proofs.AgreeingStateLaws.{agree_self}
use Rattle.pulse_parts.proofs.RunLaws.{running_none, running_more, running_falls, running_fits, running_done}
use Rattle.pulse.specs.Conditions.{state_of}
use Rattle.pulse.proofs.run.run.Goals as goal

pub pulses-init : goal.pulses-init
pulses-init g c = record {
  between = c.requires.flow;
  pushes = c.requires.pushes;
  usable = c.requires.usable;
  run = running_none c.args.net.now (state_of c.args.net.now c.args.flow.now) (state_of c.args.net.now c.args.flow.now) c.known.ensures.network
      (agree_self (node_count c.args.net.now) (state_of c.args.net.now c.args.flow.now)) c.requires.flow.sound;
}

pub overflow_add-count : goal.overflow_add-count
overflow_add-count g c = omega (arith, running_fits c.args.net.now c.pulses.count (state_of c.args.net.now c.args.flow.now) (state_of c.args.net.now c.pulses.flow) c.known.ensures.network c.pulses.invariant.run)

pub pulses-smaller : goal.pulses-smaller
pulses-smaller g c =
    running_falls c.args.net.now (c.pulses.count + 1) (state_of c.args.net.now c.pulses.flow) (state_of c.args.net.now c.deliver_phase.new.flow) (state_of c.args.net.now c.relabel_when_due.new.flow) c.known.ensures.network
    c.pulses.invariant.between.sound (sym c.is_active.ensures ∙ c.pulses-test.true) c.in_ok-deliver_phase.ensures.ok.pulse.agree c.relabel_when_due.ensures.after

pub pulses-preserved : goal.pulses-preserved
pulses-preserved g c = record {
  between = c.relabel_when_due.ensures.flow;
  pushes = c.in_ok-read_phase.ensures.fits;
  usable = c.in_ok-read_phase.ensures.ok.after;
  run = running_more c.args.net.now c.pulses.count (state_of c.args.net.now c.args.flow.now) (state_of c.args.net.now c.pulses.flow) (state_of c.args.net.now c.deliver_phase.new.flow)
      (state_of c.args.net.now c.relabel_when_due.new.flow) c.known.ensures.network c.pulses.invariant.run (sym c.is_active.ensures ∙ c.pulses-test.true) c.in_ok-deliver_phase.ensures.ok.pulse.agree
      c.relabel_when_due.ensures.after;
}

pub returns-clause-run : goal.returns-clause-run
returns-clause-run g c =
    running_done c.args.net.now c.pulses.count (state_of c.args.net.now c.args.flow.now) (state_of c.args.net.now c.pulses.flow) c.pulses.invariant.run (sym c.is_active.ensures ∙ c.pulses-test.false)
