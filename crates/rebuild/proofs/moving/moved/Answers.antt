use Rattle.std.proofs.lemmas.Result.{IfOk-from_err}
use Rattle.rebuild.proofs.moving.moved.Goals as goal

pub new-requires : goal.new-requires
new-requires c = c.requires.closed

pub moved_by-requires-clause-closed : goal.moved_by-requires-clause-closed
moved_by-requires-clause-closed c = c.requires.closed

pub moved_by-requires-clause-room : goal.moved_by-requires-clause-room
moved_by-requires-clause-room c = c.requires.room

pub moved_by-requires-clause-marked : goal.moved_by-requires-clause-marked
moved_by-requires-clause-marked c = c.in_ok-marks.ensures

pub returns-clause-value : goal.returns-clause-value
returns-clause-value c = c.moved_by.ensures.value

pub returns-clause-streams : goal.returns-clause-streams
returns-clause-streams c = c.moved_by.ensures.streams

pub returns-clause-known : goal.returns-clause-known
returns-clause-known c = c.moved_by.ensures.known

pub returns-in_err-marks-clause-value : goal.returns-in_err-marks-clause-value
returns-in_err-marks-clause-value c = IfOk-from_err c.from_residual.result _ c.from_residual.ensures.0

pub returns-in_err-marks-clause-streams : goal.returns-in_err-marks-clause-streams
returns-in_err-marks-clause-streams c = IfOk-from_err c.from_residual.result _ c.from_residual.ensures.0

pub returns-in_err-marks-clause-known : goal.returns-in_err-marks-clause-known
returns-in_err-marks-clause-known c = IfOk-from_err c.from_residual.result _ c.from_residual.ensures.0
