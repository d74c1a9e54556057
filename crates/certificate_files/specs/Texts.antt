-- The text that is written of certificates: the third version if its parts list merged latches,
-- else the second.
use Rattle.std.specs.Prelude.{ℕ, Bool, List, [], ◌∷◌, ◌++◌, length, decimal, codes, Option, Some, None, if◌then◌else◌}
use Rattle.std.specs.List.{flat_map}
use Rattle.counted_io.specs.Line.{line}
use Rattle.frame_net.specs.declared.net.Point.{Point}
use Rattle.certificates.specs.declared.certificate.Certificate.{Certificate}
use Rattle.aig_graph.specs.declared.choice.Choice.{Choice}
use Rattle.aig_graph.specs.declared.choice.Choice.TheVariants.{Greatest, Smallest}
use Rattle.certificates.specs.declared.merged.MergedLatch.{MergedLatch}
use Rattle.certificate_files.specs.declared.file.CertFile.{CertFile}
use Rattle.certificate_files.specs.declared.file.CertPart.{CertPart}

-- + for the point after the variable, - for the one before it
abbrev pub sign_code : Bool → ℕ
sign_code behind = if behind then 43 else 45

-- a space, and the point
abbrev pub point_text : Point → List ℕ
point_text p = 32 ∷ (decimal p.var ++ sign_code p.behind ∷ [])

abbrev pub route_text : List Point → List ℕ
route_text points = codes "r" ++ flat_map point_text points ++ 10 ∷ []

abbrev pub gate_text : ℕ → List ℕ
gate_text v = codes "g " ++ line (v ∷ [])

-- the count, how many gates and routes there are, and then those
abbrev pub frame_line_text : Certificate → List ℕ
frame_line_text block = codes "frame " ++ line (block.count ∷ length block.gates ∷ length block.routes ∷ [])

abbrev pub block_text : Certificate → List ℕ
block_text block = frame_line_text block ++ flat_map gate_text block.gates ++ flat_map route_text block.routes

abbrev pub choice_text : Choice → List ℕ
choice_text Greatest = codes "choice greatest\n"
choice_text Smallest = codes "choice smallest\n"

abbrev pub merged_latch_text : MergedLatch → List ℕ
merged_latch_text m = codes "m " ++ line (m.latch ∷ m.reads ∷ [])

-- how many latches were merged, and then those
abbrev pub merged_text : List MergedLatch → List ℕ
merged_text merged = codes "merged " ++ line (length merged ∷ []) ++ flat_map merged_latch_text merged

-- the merged latches if there is a list of them
abbrev pub listed_text : Option (List MergedLatch) → List ℕ
listed_text None = []
listed_text (Some merged) = merged_text merged

-- what a part lists of merged latches, and its blocks
abbrev pub part_text : CertPart → List ℕ
part_text part = listed_text part.merged ++ flat_map block_text part.blocks

abbrev pub version_text : Option (List MergedLatch) → List ℕ
version_text None = codes "fretime-cert 2\n"
version_text (Some merged) = codes "fretime-cert 3\n"

-- the version, by whether the first part lists merged latches
abbrev pub first_line_text : List CertPart → List ℕ
first_line_text [] = version_text None
first_line_text (part ∷ parts) = version_text part.merged

-- the text of certificates that is written
unfoldable pub file_text : CertFile → List ℕ
file_text f = first_line_text f.parts ++ choice_text f.choice ++ flat_map part_text f.parts
