-- The text of an audit.
use Rattle.std.specs.Prelude.{ℕ, ◌+◌, ◌-◌, ◌^◌, List, [], ◌∷◌, ◌++◌, length, min, option_map, slice_get, take, Option, Some, None, decimal, codes}
use Rattle.certificates.specs.declared.certificate.Certificate.{Certificate}
use Rattle.certificate_files.specs.declared.file.CertPart.{CertPart}
use Rattle.certificate_audits.specs.Ends.{block_objection_name, refused_latch}
use Rattle.certificate_audits.specs.declared.outcome.Audit.{Audit}
use Rattle.certificate_audits.specs.declared.outcome.BlockObjection.{BlockObjection}
use Rattle.certificate_audits.specs.declared.outcome.End.{End}
use Rattle.certificate_audits.specs.declared.outcome.End.TheVariants.{NoBlocks, Certified, Open, BlocksFollow, Objected, Misread, NotShown}
use Rattle.reports.specs.declared.judgement.Judgement.{Judgement}
use Rattle.reports.specs.Agreements.{agreement_text}

-- the line of a confirmed block
abbrev pub block_line : ℕ → Certificate → List ℕ
block_line number block = codes "block " ++ (decimal number ++ (codes ": yes, count " ++ (decimal block.count ++ 10 ∷ [])))

-- the line of the block with this number, which isn't confirmed
abbrev pub objection_line : ℕ → BlockObjection → List ℕ
objection_line number objection = codes "block " ++ (decimal number ++ (codes ": no, " ++ (block_objection_name objection ++ 10 ∷ [])))

-- the line of a merged latch that is refused
abbrev pub refusal_line : List ℕ → ℕ → List ℕ
refusal_line name latch = codes "merged: no, " ++ (name ++ (32 ∷ (decimal latch ++ 10 ∷ [])))

-- the line that says how an audit ended
abbrev pub end_text : ℕ → End → List ℕ
end_text number NoBlocks = []
end_text number Certified = codes "end certified\n"
end_text number Open = codes "end open\n"
end_text number BlocksFollow = codes "blocks follow the end\n"
end_text number (Objected objection) = objection_line number objection
end_text number (Misread latch) = refusal_line (codes "Misread") latch
end_text number (NotShown latch) = refusal_line (codes "NotShown") latch

-- the line of merged latches, if the file says which they are and none is refused
abbrev pub merged_text : Option ℕ → Option ℕ → List ℕ
merged_text None refused = []
merged_text (Some latches) (Some latch) = []
merged_text (Some latches) None = codes "merged: yes, " ++ (decimal latches ++ codes " latches\n")

-- a number and some more, as far as 64 bits go
abbrev pub counted_on : ℕ → ℕ → ℕ
counted_on n more = min (n + more) (2 ^ 64 - 1)

-- the lines of confirmed blocks, numbered from a number on
unfoldable pub block_lines : ℕ → List Certificate → List ℕ
block_lines number [] = []
block_lines number (block ∷ blocks) = block_line number block ++ block_lines (counted_on number 1) blocks

-- what was judged of a part: a line of merged latches and one for each confirmed block
abbrev pub part_text : ℕ → CertPart → Audit → List ℕ
part_text number part audit = merged_text (option_map length part.merged) (refused_latch audit.end) ++ block_lines number (take audit.confirmed part.blocks)

-- that of the parts that were judged, with blocks numbered on
unfoldable pub parts_text : ℕ → List CertPart → List Audit → List ℕ
parts_text number [] audits = []
parts_text number (part ∷ parts) [] = []
parts_text number (part ∷ parts) (audit ∷ audits) = part_text number part audit ++ parts_text (counted_on number audit.confirmed) parts audits

-- a number, and on by their confirmed blocks
unfoldable pub confirmed_on : ℕ → List CertPart → List Audit → ℕ
confirmed_on number [] audits = number
confirmed_on number (part ∷ parts) [] = number
confirmed_on number (part ∷ parts) (audit ∷ audits) = confirmed_on (counted_on number audit.confirmed) parts audits

abbrev pub end_of : Option Audit → End
end_of None = NoBlocks
end_of (Some audit) = audit.end

-- how the last part that was judged ended
abbrev pub last_end : List Audit → End
last_end audits = end_of (slice_get audits (length audits - 1))

-- lines for the parts that were judged, one for the last one's end, and one for a compared file
abbrev pub audit_text : List CertPart → Judgement → List ℕ
audit_text parts judgement =
    parts_text 0 parts judgement.audits ++ (end_text (confirmed_on 0 parts judgement.audits) (last_end judgement.audits) ++ agreement_text judgement.agreement)
