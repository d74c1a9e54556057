-- What holds of the text that is written.
use Rattle.std.specs.Prelude.{◌≡◌, ◌==◌, ◌&&◌, Bool, not, true, false, is_some, List, [], ◌∷◌, length, Option, Some, None, Ok}
use Rattle.std.specs.List.{list_all}
use Rattle.frame_net.specs.declared.net.Point.{Point}
use Rattle.certificates.specs.declared.certificate.Certificate.{Certificate}
use Rattle.certificates.specs.declared.merged.MergedLatch.{MergedLatch}
use Rattle.certificate_files.specs.declared.file.CertFile.{CertFile}
use Rattle.certificate_files.specs.declared.file.CertPart.{CertPart}
use Rattle.certificate_files.specs.Files.{is_small, is_small_literal, read_text}
use Rattle.certificate_files.specs.Texts.{file_text}

-- there is a point, and no number is above the greatest
abbrev pub is_writable_route : List Point → Bool
is_writable_route points = not (length points == 0) && list_all (λ p. is_small p.var) points

-- neither the count nor the numbers of gates and routes are above the greatest number, and no
-- number of a gate or a point is
abbrev pub is_writable_block : Certificate → Bool
is_writable_block block =
    is_small block.count && (is_small (length block.gates) && (is_small (length block.routes) && (list_all is_small block.gates && list_all is_writable_route block.routes)))

abbrev pub is_writable_latch : MergedLatch → Bool
is_writable_latch m = is_small m.latch && is_small_literal m.reads

-- the number of merged latches and their numbers are within the limits
abbrev pub are_writable_latches : Option (List MergedLatch) → Bool
are_writable_latches None = true
are_writable_latches (Some merged) = is_small (length merged) && list_all is_writable_latch merged

abbrev pub is_writable_part : CertPart → Bool
is_writable_part part = are_writable_latches part.merged && list_all is_writable_block part.blocks

abbrev pub lists_merged : CertPart → Bool
lists_merged part = is_some part.merged

-- a part without a list stands alone; after one with a list each has one
abbrev pub may_follow : Option (List MergedLatch) → List CertPart → Bool
may_follow None parts = length parts == 0
may_follow (Some merged) parts = list_all lists_merged parts

-- there is one part that lists no merged latches, or there are parts that all list some
abbrev pub are_of_one_version : List CertPart → Bool
are_of_one_version [] = false
are_of_one_version (part ∷ parts) = may_follow part.merged parts

-- The parts are those of a version. Counts, gates, latches and variables are at most 2^28 - 1 and
-- literals at most 2^29 - 1, and each route has a point.
abbrev pub is_writable : CertFile → Bool
is_writable f = are_of_one_version f.parts && list_all is_writable_part f.parts

-- what was written of a file is read as that file
abbrev pub CertificatesRoundTripLaw : CertFile → Type 0
CertificatesRoundTripLaw f = is_writable f ≡ true → read_text (file_text f) ≡ Ok f

-- what was read can be written, and is then read again
pub record RereadingLaw (f : CertFile) : Type 0 where
  pub writable : is_writable f ≡ true
  pub again : read_text (file_text f) ≡ Ok f
