use Rattle.std.proofs.Common.{Err}
use Rattle.command_endings.proofs.PrintingLaws.{failing}
use Rattle.fretime.proofs.RunLaws.{by_report}
use Rattle.fretime.proofs.run.finish_task.Goals as goal

pub returns-in-Ok : goal.returns-in-Ok
returns-in-Ok g c = by_report c.reported.result c.run_task-ended.result _ _ _ c.reported.ensures.outcome c.run_task-ended.ensures.prints c.reported.ensures.prints

pub returns-in-Err : goal.returns-in-Err
returns-in-Err g c =
    by_report c.reported-in-Err.result (Err c.in-Err.failure) _ _ _ c.reported-in-Err.ensures.outcome (failing c.in-Err.failure _) c.reported-in-Err.ensures.prints
