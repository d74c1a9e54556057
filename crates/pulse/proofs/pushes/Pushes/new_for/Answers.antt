use Rattle.std.proofs.Common.{arith}
use Rattle.frame_net.specs.FlowNet.{node_count}
use Rattle.pulse_parts.proofs.NumberLaws.{pushes_numbered}
use Rattle.pulse.proofs.pushes.Pushes.new_for.Goals as goal
use Rattle.pulse.proofs.FlowLaws.{pushes_with}
use Rattle.pulse.proofs.RangeLaws.{push_ranges_of}

pub returns-clause-fits : goal.returns-clause-fits
returns-clause-fits c = pushes_with c.args.net.now c.in_ok-parts.parts.items c.known.ensures.network c.in_ok-parts.ensures.parts

pub returns-clause-shares : goal.returns-clause-shares
returns-clause-shares c = push_ranges_of (node_count c.args.net.now) c.args.workers 0 c.in_ok-parts.parts.items c.in_ok-parts.ensures.shares (omega (arith, c.in_ok-parts.ensures.len))

pub invariant_of-result : goal.invariant_of-result
invariant_of-result c free = pushes_numbered (node_count c.args.net.now) c.args.workers c.in_ok-parts.parts.items c.in_ok-parts.ensures.shares
