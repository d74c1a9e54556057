-- The file of certificates that a retiming has, and what is left of the retiming without it.
use Rattle.std.specs.Prelude.{[]}
use Rattle.aig_graph.specs.declared.choice.Choice.{Choice}
use Rattle.certificate_files.specs.declared.file.CertFile.{CertFile}
use Rattle.merging_rounds.specs.declared.rounds.Rounds.{Rounds}

-- for each round its certificates, and the latches that it merged, if it was to merge any
abbrev pub file_of : Choice → Rounds → CertFile
file_of choice r = record { choice = choice; parts = r.parts }

abbrev pub without_file : Rounds → Rounds
without_file r = record r { parts = [] }

abbrev pub with_file : CertFile → Rounds → Rounds
with_file file r = record r { parts = file.parts }
