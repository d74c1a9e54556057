-- What is printed of the files of a batch.
use Rattle.std.specs.Prelude.{ℕ, List, [], ◌∷◌, ◌++◌, Option, Some, None, decimal, codes}
use Rattle.counted_io.specs.Line.{numbered_lines}
use Rattle.file_words.specs.declared.fault.ReadError.{ReadError}
use Rattle.file_words.specs.Codes.{name_of, offset_of}
use Rattle.reports.specs.Retimings.{change}
use Rattle.reports.specs.declared.batch.JobReport.{JobReport}
use Rattle.reports.specs.declared.batch.JobReport.TheVariants.{Done, Misread, NoMemory, NoSuchLatch, NoSuchName, NotShown, Refused}

unfoldable pub offset_text : Option ℕ → List ℕ
offset_text None = []
offset_text (Some at) = codes " at " ++ decimal at

unfoldable pub refusal_text : ReadError → List ℕ
refusal_text fault = codes " refused " ++ (name_of fault ++ (offset_text (offset_of fault) ++ 10 ∷ []))

unfoldable pub done_text : ℕ → ℕ → List ℕ
done_text before after = codes " done " ++ change before after

-- what became of a file: the numbers of latches before and after, its fault, that memory was
-- wanting, or a name
unfoldable pub report_text : JobReport → List ℕ
report_text (Done before after) = done_text before after
report_text (Refused fault) = refusal_text fault
report_text NoMemory = codes " memory" ++ 10 ∷ []
report_text NoSuchName = codes " refused NoSuchName" ++ 10 ∷ []
report_text NoSuchLatch = codes " refused NoSuchLatch" ++ 10 ∷ []
report_text Misread = codes " refused Misread" ++ 10 ∷ []
report_text NotShown = codes " refused NotShown" ++ 10 ∷ []

-- the line of the file with this number
abbrev pub job_line : ℕ → JobReport → List ℕ
job_line number report = decimal number ++ report_text report

-- a line for each file, which are numbered from 1 on
abbrev pub job_lines : List JobReport → List ℕ
job_lines reports = numbered_lines job_line 1 reports
