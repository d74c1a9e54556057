use Rattle.frame_net.specs.Laws.{started}
use Rattle.frame_net.specs.FlowNet.{node_count}
use Rattle.pulse_parts.specs.Parts.{pair}
use Rattle.pulse.specs.Conditions.{state_of}
use Rattle.pulse.proofs.run.run_to_end.Goals as goal
use Rattle.pulse_parts.proofs.RunLaws.{run_from}

pub returns-clause-run : goal.returns-clause-run
returns-clause-run g c =
    run_from c.args.net.now c.in_ok-pulses.pulses (started (node_count c.args.net.now) (pair c.args.net.now c.args.net.now.caps)) (state_of c.args.net.now c.in_ok-flow.flow) (state_of c.args.net.now c.run.new.flow)
    c.in_ok-flow.ensures.start.agree c.in_ok-pulses.ensures.run

pub returns-clause-greatest : goal.returns-clause-greatest
returns-clause-greatest g c = record {
  fits = c.in_ok-pulses.ensures.flow.fits;
  unspent = c.in_ok-pulses.ensures.flow.unspent;
  preflow = c.in_ok-pulses.ensures.flow.sound.preflow;
  valid = c.in_ok-pulses.ensures.flow.sound.valid;
  none_active = c.in_ok-pulses.ensures.run.ended;
}
