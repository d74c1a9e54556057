use Rattle.pulse_parts.proofs.clearing.clear_listed.Goals as goal
use Rattle.pulse_parts.proofs.ClearLaws.{listed_none}

pub loop-i-init : goal.loop-i-init
loop-i-init c = listed_none c.args.net.now c.args.base c.args.list.now c.args.values.now
