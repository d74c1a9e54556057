-- Merged latches that are given to a retiming, as certificates list them.
use Rattle.std.specs.Prelude.{◌≡◌, true, List, [], ◌∷◌, Option, Some, None, is_some}
use Rattle.certificate_files.specs.declared.file.CertFile.{CertFile}
use Rattle.certificate_files.specs.declared.file.CertPart.{CertPart}
use Rattle.certificates.specs.declared.merged.MergedLatch.{MergedLatch}
use Rattle.counted_io.specs.Input.{Input}
use Rattle.counted_io.specs.declared.source.Source.{Source}
use Rattle.frame_runs.specs.declared.options.Options.{Options}
use Rattle.command_endings.specs.Sources.{AreCertificatesAt}

-- a file lists merged latches
abbrev pub ListsLatches : Option (List MergedLatch) → Type 0
ListsLatches merged = is_some merged ≡ true

-- the merged latches of the first part, if it lists them
abbrev pub first_listed : List CertPart → Option (List MergedLatch)
first_listed [] = None
first_listed (part ∷ parts) = part.merged

-- they are those of the first part of the certificates that are read there
pub record AreListedAt (source : Source) (old new : Input) (classes : Option (List MergedLatch)) : Type 0 where
  pub file : CertFile
  pub read : AreCertificatesAt source old new file
  pub are : classes ≡ first_listed file.parts
  pub listed : ListsLatches classes

-- so if a file of them is given; else there are none, and nothing is read
abbrev pub AreClassesAt : Option Source → Input → Input → Option (List MergedLatch) → Type 0
AreClassesAt None old new classes = (classes ≡ None) × (new ≡ old)
AreClassesAt (Some source) old new classes = AreListedAt source old new classes

-- the options with these classes in place of theirs
abbrev pub with_classes : Option (List MergedLatch) → Options → Options
with_classes classes options = record options { classes = classes }
