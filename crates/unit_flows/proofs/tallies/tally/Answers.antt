use Rattle.unit_flows.proofs.TallyLaws.{tallies-none}
use Rattle.unit_flows.proofs.tallies.tally.Goals as goal

pub loop-k-init : goal.loop-k-init
loop-k-init c = tallies-none c.args.aig.now c.args.flows.now c.args.went.now c.args.came.now c.requires.went c.requires.came
