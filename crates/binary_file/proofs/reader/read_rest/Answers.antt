use Rattle.std.proofs.Common.{◌++◌}
use Rattle.binary_file.proofs.HoldLaws.{read_failed}
use Rattle.binary_file.proofs.reader.read_rest.Goals as goal

pub returns-in-Ok : goal.returns-in-Ok
returns-in-Ok c = λ before holds. c.finish.ensures.circuit (before ++ c.args.bytes.now) (c.feed.ensures.held before holds).0

pub returns-in-Err : goal.returns-in-Err
returns-in-Err c = λ before holds. read_failed c.in-Err.fault (before ++ c.args.bytes.now) (c.in-Err.ensures.held before holds).1
