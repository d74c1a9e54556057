-- An audit of certificates, as an object.
use Rattle.std.specs.Prelude.{ℕ, List, [], ◌∷◌, ◌++◌, Option, Some, None, take, codes}
use Rattle.certificates.specs.declared.certificate.Certificate.{Certificate}
use Rattle.certificate_files.specs.declared.file.CertPart.{CertPart}
use Rattle.certificate_audits.specs.Ends.{block_objection_name, refused_latch}
use Rattle.certificate_audits.specs.declared.outcome.Audit.{Audit}
use Rattle.certificate_audits.specs.declared.outcome.BlockObjection.{BlockObjection}
use Rattle.certificate_audits.specs.declared.outcome.End.{End}
use Rattle.certificate_audits.specs.declared.outcome.End.TheVariants.{NoBlocks, Certified, Open, BlocksFollow, Objected, Misread, NotShown}
use Rattle.reports.specs.Audits.{last_end}
use Rattle.reports.specs.declared.agreement.Agreement.{Agreement}
use Rattle.reports.specs.declared.agreement.Agreement.TheVariants.{Same, DiffersAt}
use Rattle.reports.specs.declared.judgement.Judgement.{Judgement}
use Rattle.serde_json.specs.Data.{Data, Members, null, string, object, member, no_members, put}
use Rattle.json_reports.specs.Members.{count, array_of, or_null}

-- the name of the end of an audit
abbrev pub end_name : End → List ℕ
end_name NoBlocks = codes "NoBlocks"
end_name Certified = codes "Certified"
end_name Open = codes "Open"
end_name BlocksFollow = codes "BlocksFollow"
end_name (Objected objection) = codes "Objected"
end_name (Misread latch) = codes "Misread"
end_name (NotShown latch) = codes "NotShown"

-- why the block after the confirmed ones isn't confirmed
abbrev pub objection_at : End → Option BlockObjection
objection_at (Objected objection) = Some objection
objection_at NoBlocks = None
objection_at Certified = None
objection_at Open = None
objection_at BlocksFollow = None
objection_at (Misread latch) = None
objection_at (NotShown latch) = None

-- why a merged latch is refused
abbrev pub latch_objection : End → Option (List ℕ)
latch_objection NoBlocks = None
latch_objection Certified = None
latch_objection Open = None
latch_objection BlocksFollow = None
latch_objection (Objected objection) = None
latch_objection (Misread latch) = Some (codes "Misread")
latch_objection (NotShown latch) = Some (codes "NotShown")

-- the number of latches that a file merges, and the one that is refused, if one is
abbrev pub merged_data : ℕ → End → Data
merged_data latches end =
    object (member (codes "latch") (or_null count (refused_latch end)) (member (codes "latches") (count latches) (member (codes "objection") (or_null string (latch_objection end)) no_members)))

-- if the file says which latches were merged, that stands before these members
abbrev pub merged_before : Option ℕ → End → Members → Members
merged_before None end members = members
merged_before (Some latches) end members = member (codes "merged") (merged_data latches end) members

-- the confirmed blocks of the parts that were judged, in order
unfoldable pub confirmed_blocks : List CertPart → List Audit → List Certificate
confirmed_blocks [] audits = []
confirmed_blocks (part ∷ parts) [] = []
confirmed_blocks (part ∷ parts) (audit ∷ audits) = take audit.confirmed part.blocks ++ confirmed_blocks parts audits

abbrev pub block_data : Certificate → Data
block_data block = count block.count

-- whether a file is the text of the circuit that the blocks end in, and the offset of the first
-- difference
abbrev pub agreement_data : Agreement → Data
agreement_data Same = object (member (codes "offset") null (member (codes "result") (string (codes "Same")) no_members))
agreement_data (DiffersAt offset) = object (member (codes "offset") (count offset) (member (codes "result") (string (codes "Differs")) no_members))

-- these members, and merged latches put in, if the file says which they are
abbrev pub with_merged : Option ℕ → End → Members → Members
with_merged None end members = members
with_merged (Some latches) end members = put (codes "merged") (merged_data latches end) members

-- The bound on levels, if there is one, and the counts of the confirmed blocks, in order. Also how
-- the last part that was judged ended, merged latches, if the file has them, and the outcome of
-- comparing a file.
abbrev pub audit_members : List CertPart → Judgement → ℕ → Members
audit_members parts judgement status =
    member (codes "bound") (or_null count judgement.bound)
    (member (codes "command") (string (codes "verify"))
    (member (codes "counts") (array_of block_data (confirmed_blocks parts judgement.audits))
    (member (codes "end") (string (end_name (last_end judgement.audits)))
    (merged_before judgement.merged (last_end judgement.audits)
    (member (codes "objection") (or_null (λ objection. string (block_objection_name objection)) (objection_at (last_end judgement.audits)))
    (member (codes "out") (or_null agreement_data judgement.agreement)
    (member (codes "status") (count status) no_members)))))))

abbrev pub audit_data : List CertPart → Judgement → ℕ → Data
audit_data parts judgement status = object (audit_members parts judgement status)

-- the judgement, as if the file had no merged latches
abbrev pub without_merged : Judgement → Judgement
without_merged judgement = record judgement { merged = None }
