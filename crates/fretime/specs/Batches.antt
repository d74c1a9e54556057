-- How the circuits of a batch are retimed, and what is printed of it, by how it ends.
use Rattle.std.specs.Prelude.{ℕ, ◌≡◌, ◌⊎◌, Bool, true, false, List, fold}
use Rattle.counted_io.specs.Output.{Output, WritesAll}
use Rattle.frame_runs.specs.declared.options.Options.{Options}
use Rattle.batch_pool.specs.Outcomes.{AreOutcomes}
use Rattle.batch_pool.specs.declared.job.Job.{Job}
use Rattle.batch_pool.specs.declared.job.Outcome.{Outcome as JobOutcome}
use Rattle.batch_pool.specs.declared.job.Outcome.TheVariants as jobs
use Rattle.reports.specs.Batches.{job_lines}
use Rattle.reports.specs.declared.batch.JobReport.{JobReport}
use Rattle.reports.specs.declared.batch.JobReport.TheVariants as reports
use Rattle.command_line.specs.declared.task.Batch.{Batch}
use Rattle.json_reports.specs.Batches.{batch_data}
use Rattle.json_reports.specs.Lines.{json_line}
use Rattle.circuit_files.specs.Codes.{status_of}
use Rattle.circuit_files.specs.declared.outcome.Outcome.{Outcome}
use Rattle.circuit_files.specs.declared.outcome.Outcome.TheVariants.{Done, Refused, ShapesDiffer, CommandLine, Device, Memory, Differ, Unconfirmed}
use Rattle.command_endings.specs.RunOptions.{AreOptionsOf}
use Rattle.fretime.specs.Reporting.{PrintsFailure}

-- each outcome is that of its job, by the options of the task; no certificate is made
pub record AreOutcomesFor (task : Batch) (jobs : List Job) (outcomes : List JobOutcome) : Type 0 where
  pub options : Options
  pub are_options : AreOptionsOf task.options task.options.frames false options
  pub are : AreOutcomes options jobs outcomes

-- what is printed of an outcome
abbrev pub report_of : JobOutcome → JobReport
report_of (jobs.Done text before after frames) = reports.Done before after
report_of (jobs.Refused fault) = reports.Refused fault
report_of jobs.NoMemory = reports.NoMemory
report_of (jobs.NoSuchName place) = reports.NoSuchName
report_of (jobs.NoSuchLatch place) = reports.NoSuchLatch
report_of (jobs.Misread latch) = reports.Misread
report_of (jobs.NotShown latch) = reports.NotShown

-- how a batch of one file ends
abbrev pub end_of : JobReport → Outcome
end_of (reports.Done before after) = Done
end_of (reports.Refused fault) = Refused
end_of reports.NoMemory = Memory
end_of reports.NoSuchName = Refused
end_of reports.NoSuchLatch = Refused
end_of reports.Misread = Refused
end_of reports.NotShown = Refused

-- how a batch ends after one more file: the first that isn't done decides
abbrev pub after : Outcome → JobReport → Outcome
after Done report = end_of report
after ended report = ended

-- what is printed of the files of a batch that ends so: an object on a line if that is asked for,
-- else lines
abbrev pub files_text : Bool → List JobReport → Outcome → List ℕ
files_text true files ended = json_line (batch_data files (status_of ended))
files_text false files ended = job_lines files

-- all files were printed, as an object or in lines, and the batch ends as they say
pub record Printed (json : Bool) (files : List JobReport) (ended : Outcome) (old new : Output) : Type 0 where
  pub prints : WritesAll old new (files_text json files ended)
  pub ends : ended ≡ fold after Done files

-- that is so of some files
pub record PrintsFiles (json : Bool) (ended : Outcome) (old new : Output) : Type 0 where
  pub files : List JobReport
  pub printed : Printed json files ended old new

-- A batch prints all its files, or what a failure prints if it was refused or lacked memory before.
-- It prints nothing if two files of a line are one.
abbrev pub PrintsList : Bool → Outcome → Output → Output → Type 0
PrintsList json Done old new = PrintsFiles json Done old new
PrintsList json Refused old new = PrintsFailure json Refused old new ⊎ PrintsFiles json Refused old new
PrintsList json Memory old new = PrintsFailure json Memory old new ⊎ PrintsFiles json Memory old new
PrintsList json Device old new = Unit {0}
PrintsList json ShapesDiffer old new = ⊥
PrintsList json CommandLine old new = new ≡ old
PrintsList json Differ old new = ⊥
PrintsList json Unconfirmed old new = ⊥
