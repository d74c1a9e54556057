use Rattle.std.proofs.Common.{sym}
use Rattle.unit_flows.proofs.FrameLaws.{mark-covered}
use Rattle.unit_flows.proofs.marks.covered_mark.Goals as goal

pub returns : goal.returns
returns c = sym (mark-covered c.args.first c.args.marks.now c.args.var c.requires.from)
