-- What became of the files of a batch, as an object.
use Rattle.std.specs.Prelude.{ℕ, List, codes}
use Rattle.file_words.specs.declared.fault.ReadError.TheVariants as files
use Rattle.reports.specs.declared.batch.JobReport.{JobReport}
use Rattle.reports.specs.declared.batch.JobReport.TheVariants.{Done, Misread, NoMemory, NoSuchLatch, NoSuchName, NotShown, Refused}
use Rattle.serde_json.specs.Data.{Data, null, string, object, member, no_members}
use Rattle.json_reports.specs.Faults.{fault_data}
use Rattle.json_reports.specs.Members.{count, array_of}
use Rattle.json_reports.specs.declared.fault.Fault.TheVariants as faults

-- all latches of the circuit that was read, and of the one that was written
abbrev pub latches_data : ℕ → ℕ → Data
latches_data before after = object (member (codes "after") (count after) (member (codes "before") (count before) no_members))

abbrev pub file_data : Data → Data → Data
file_data fault latches = object (member (codes "fault") fault (member (codes "latches") latches no_members))

-- the object of a file of a batch: its fault, or its latches before and after
abbrev pub job_data : JobReport → Data
job_data (Done before after) = file_data null (latches_data before after)
job_data (Refused fault) = file_data (fault_data (faults.Circuit fault)) null
job_data NoMemory = file_data (fault_data (faults.Circuit files.NoMemory)) null
job_data NoSuchName = file_data (fault_data faults.NoSuchName) null
job_data NoSuchLatch = file_data (fault_data faults.NoSuchLatch) null
job_data Misread = file_data (fault_data faults.Misread) null
job_data NotShown = file_data (fault_data faults.NotShown) null

-- the files in the order of the list
abbrev pub batch_data : List JobReport → ℕ → Data
batch_data reports status =
    object (member (codes "command") (string (codes "batch"))
    (member (codes "files") (array_of job_data reports)
    (member (codes "status") (count status) no_members)))
