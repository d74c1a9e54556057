-- What is judged of merged latches, put into the members of an audit.
use Rattle.std.proofs.Common.{ℕ, ◌≡◌, ◌∙◌, List, Option, Some, None, refl, ap}
use Rattle.certificate_files.specs.declared.file.CertPart.{CertPart}
use Rattle.serde_json.specs.Data.{Members}
use Rattle.reports.specs.Audits.{last_end}
use Rattle.reports.specs.declared.judgement.Judgement.{Judgement}
use Rattle.json_reports.specs.Audits.{audit_members, with_merged, without_merged}

put-in : (merged : Option ℕ) (parts : List CertPart) (j : Judgement) (status : ℕ) → with_merged merged (last_end j.audits) (audit_members parts (record j { merged = None }) status) ≡ audit_members parts (record j { merged = merged }) status
put-in None parts j status = refl
put-in (Some latches) parts j status = refl

-- those of a judgement are the ones without merged latches, with these put in
pub merged-in : (parts : List CertPart) (j : Judgement) (status : ℕ) (before : Members) → before ≡ audit_members parts (without_merged j) status → with_merged j.merged (last_end j.audits) before ≡ audit_members parts j status
merged-in parts j status before is = ap (with_merged j.merged (last_end j.audits)) is ∙ put-in j.merged parts j status
