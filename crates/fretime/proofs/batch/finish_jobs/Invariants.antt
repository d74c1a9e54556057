use Rattle.std.proofs.Common.{false, All, map, take}
use Rattle.circuit_files.specs.WrittenFiles.{IsFileGiven}
use Rattle.fretime.specs.Answers.{IsWritten, report_at}
use Rattle.fretime.specs.Batches.{Printed}
use Rattle.fretime.proofs.batch.finish_jobs.Given as goal

abbrev pub invariant-loop-k : goal.invariant-loop-k
invariant-loop-k g l =
    Printed false (map report_at (take l.k l.answers)) l.ended (g.O.CountedWrite.output l.fn.out) (g.O.CountedWrite.output l.out)
    × All (IsWritten (IsFileGiven g.R.Output.Write.contents g.R.OutputFiles.is_made g.R.OutputFiles.is_let_go)) (take l.k l.answers)
