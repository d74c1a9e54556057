-- Texts of certificates, read.
use Rattle.std.proofs.Common.{◌≡◌, ℕ, [], ◌∷◌, ◌++◌, refl, true, false, List, Some, None, Ok, Err, codes}
use Rattle.file_words.specs.Lines.{lines, pieces, numbers_of}
use Rattle.frame_net.specs.declared.net.Point.{Point}
use Rattle.certificate_files.specs.declared.fault.CertError.TheVariants.{BadHeader, BadLine, TooLarge, Truncated}
use Rattle.aig_graph.specs.declared.choice.Choice.TheVariants.{Greatest, Smallest}
use Rattle.certificate_files.specs.declared.file.CertFile.{CertFile}
use Rattle.certificate_files.specs.declared.file.CertPart.{CertPart}
use Rattle.certificates.specs.declared.certificate.Certificate.{Certificate}
use Rattle.certificates.specs.declared.merged.MergedLatch.{MergedLatch}
use Rattle.aig_graph.specs.declared.choice.Choice.{Choice}
use Rattle.certificate_files.specs.Files.{saying_of, count_in_line, merged_in_line, read_parts, read_text}

abbrev before : ℕ → Point
before v = record { var = v; behind = false }

abbrev after : ℕ → Point
after v = record { var = v; behind = true }

abbrev newline : List ℕ
newline = 10 ∷ []

abbrev one_block : List ℕ
one_block = codes "fretime-cert 1" ++ newline ++ codes "frame 1 1 1" ++ newline ++ codes "g 5" ++ newline ++ codes "r 3+ 5- 05+" ++ newline

abbrev empty_block : Certificate
empty_block = record { count = 0; gates = []; routes = [] }

-- a file whose part lists no merged latches
abbrev plain : Choice → List Certificate → CertFile
plain choice blocks = record { choice = choice; parts = record { merged = None; blocks = blocks } ∷ [] }

accepted :
    (read_text one_block ≡ Ok (plain Greatest (record { count = 1; gates = 5 ∷ []; routes = (after 3 ∷ before 5 ∷ after 5 ∷ []) ∷ [] } ∷ [])))
    × (read_text (codes "fretime-cert 1") ≡ Ok (plain Greatest []))
    × (read_text (codes "fretime-cert 2" ++ newline ++ codes "choice smallest" ++ newline) ≡ Ok (plain Smallest []))
    × (read_text (codes "fretime-cert 1" ++ newline ++ codes "frame 0 0 0" ++ newline ++ codes "frame 0 0 0" ++ newline) ≡ Ok (plain Greatest (empty_block ∷ empty_block ∷ [])))
unfolding read_text read_parts saying_of lines pieces numbers_of
accepted = (refl, refl, refl, refl)

refused :
    (read_text [] ≡ Err (BadHeader 0)) × (read_text (codes "fretime-cert 01") ≡ Err (BadHeader 0))
    × (read_text (codes "fretime-cert 2" ++ newline) ≡ Err (Truncated 15)) × (read_text (codes "fretime-cert 2" ++ newline ++ codes "choice least") ≡ Err (BadLine 15))
    × (read_text (codes "fretime-cert 1" ++ newline ++ codes "g 5") ≡ Err (BadLine 15))
    × (read_text (codes "fretime-cert 1" ++ newline ++ codes "frame 1 1 0") ≡ Err (Truncated 26))
    × (read_text (codes "fretime-cert 1" ++ newline ++ codes "frame 1 0 1" ++ newline ++ codes "r") ≡ Err (BadLine 27))
    × (read_text (codes "fretime-cert 1" ++ newline ++ codes "frame 1 0 1" ++ newline ++ codes "r 3") ≡ Err (BadLine 27))
    × (read_text (codes "fretime-cert 1" ++ newline ++ codes "frame 268435456 0 0") ≡ Err (TooLarge 15))
    × (read_text (codes "fretime-cert 1" ++ newline ++ codes "frame 1 0 0" ++ newline ++ newline) ≡ Err (BadLine 27))
unfolding read_text read_parts saying_of lines pieces numbers_of
refused = (refl, refl, refl, refl, refl, refl, refl, refl, refl, refl)

-- the third version, up to the list of merged latches
abbrev third : List ℕ
third = codes "fretime-cert 3" ++ newline ++ codes "choice greatest" ++ newline

abbrev none_merged : List ℕ
none_merged = third ++ codes "merged 0" ++ newline

abbrev two_merged : List ℕ
two_merged = third ++ codes "merged 2" ++ newline ++ codes "m 5 0" ++ newline ++ codes "m 7 11" ++ newline ++ codes "frame 0 0 0" ++ newline

-- a part that lists these merged latches
abbrev listing : List MergedLatch → List Certificate → CertPart
listing merged blocks = record { merged = Some merged; blocks = blocks }

abbrev listings : List CertPart → CertFile
listings parts = record { choice = Greatest; parts = parts }

merged-accepted :
    (read_text none_merged ≡ Ok (listings (listing [] [] ∷ [])))
    × (read_text two_merged ≡ Ok (listings (listing (record { latch = 5; reads = 0 } ∷ record { latch = 7; reads = 11 } ∷ []) (empty_block ∷ []) ∷ [])))
    × (read_text (third ++ codes "merged 1" ++ newline ++ codes "m 268435455 536870911") ≡ Ok (listings (listing (record { latch = 268435455; reads = 536870911 } ∷ []) [] ∷ [])))
unfolding read_text read_parts count_in_line merged_in_line saying_of lines pieces numbers_of
merged-accepted = (refl, refl, refl)

-- a line `merged` ends a part if no block is open
parts-accepted :
    (read_text (none_merged ++ codes "merged 0") ≡ Ok (listings (listing [] [] ∷ listing [] [] ∷ [])))
    × (read_text (two_merged ++ codes "merged 1" ++ newline ++ codes "m 6 10" ++ newline ++ codes "frame 0 0 0" ++ newline ++ codes "frame 0 0 0" ++ newline ++ codes "merged 0" ++ newline)
    ≡ Ok (listings (listing (record { latch = 5; reads = 0 } ∷ record { latch = 7; reads = 11 } ∷ []) (empty_block ∷ []) ∷ listing (record { latch = 6; reads = 10 } ∷ []) (empty_block ∷ empty_block ∷ []) ∷ listing [] [] ∷ [])))
unfolding read_text read_parts count_in_line merged_in_line saying_of lines pieces numbers_of
parts-accepted = (refl, refl)

parts-refused :
    (read_text (none_merged ++ codes "merged") ≡ Err (BadLine 40)) × (read_text (none_merged ++ codes "merged 268435456") ≡ Err (TooLarge 40))
    × (read_text (none_merged ++ codes "merged 1") ≡ Err (Truncated 48)) × (read_text (none_merged ++ codes "frame 0 1 0" ++ newline ++ codes "merged 0") ≡ Err (BadLine 52))
    × (read_text (none_merged ++ codes "merged 1" ++ newline ++ codes "merged 0") ≡ Err (BadLine 49)) × (read_text (none_merged ++ codes "merged 0" ++ newline ++ codes "g 5") ≡ Err (BadLine 49))
unfolding read_text read_parts count_in_line merged_in_line saying_of lines pieces numbers_of
parts-refused = (refl, refl, refl, refl, refl, refl)

merged-refused :
    (read_text third ≡ Err (Truncated 31)) × (read_text (third ++ codes "frame 0 0 0") ≡ Err (BadLine 31)) × (read_text (third ++ codes "merged") ≡ Err (BadLine 31))
    × (read_text (third ++ codes "merged 1 2") ≡ Err (BadLine 31)) × (read_text (third ++ codes "merged 268435456") ≡ Err (TooLarge 31))
    × (read_text (third ++ codes "merged 2" ++ newline ++ codes "m 5 0" ++ newline) ≡ Err (Truncated 46))
    × (read_text (third ++ codes "merged 2" ++ newline ++ codes "m 5 0" ++ newline ++ codes "frame 0 0 0") ≡ Err (BadLine 46))
    × (read_text (third ++ codes "merged 1" ++ newline ++ codes "m 5 0" ++ newline ++ codes "m 7 11") ≡ Err (BadLine 46))
    × (read_text (third ++ codes "merged 1" ++ newline ++ codes "m 5") ≡ Err (BadLine 40)) × (read_text (third ++ codes "merged 1" ++ newline ++ codes "m 5 536870912") ≡ Err (TooLarge 40))
    × (read_text (third ++ codes "merged 1" ++ newline ++ codes "m 268435456 0") ≡ Err (TooLarge 40))
    × (read_text (codes "fretime-cert 2" ++ newline ++ codes "choice greatest" ++ newline ++ codes "merged 0") ≡ Err (BadLine 31))
    × (read_text (codes "fretime-cert 1" ++ newline ++ codes "merged 0") ≡ Err (BadLine 15))
unfolding read_text read_parts count_in_line merged_in_line saying_of lines pieces numbers_of
merged-refused = (refl, refl, refl, refl, refl, refl, refl, refl, refl, refl, refl, refl, refl)
