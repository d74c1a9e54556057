use Rattle.std.proofs.Common.{◌++◌}
use Rattle.aig_binary.proofs.FaultLaws.{part_fails}
use Rattle.aig_binary.proofs.read.read_rest.Goals as goal

pub returns-in-Ok : goal.returns-in-Ok
returns-in-Ok c = λ before holds. c.finish.ensures.gives (before ++ c.args.bytes.now) (c.feed.ensures.holds before holds)

pub returns-in-Err : goal.returns-in-Err
returns-in-Err c = λ before holds. part_fails (before ++ c.args.bytes.now) c.in-Err.fault (c.in-Err.ensures.fed before holds)
