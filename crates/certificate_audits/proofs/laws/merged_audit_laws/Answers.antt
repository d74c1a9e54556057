use Rattle.certificate_audits.proofs.AuditLaws.{certified-law, replay-audit}
use Rattle.certificate_audits.proofs.UniqueLaws.{merged-audit-one}
use Rattle.certificate_audits.proofs.laws.merged_audit_laws.Goals as goal

pub returns-clause-certified : goal.returns-clause-certified
returns-clause-certified c = λ bound held before lines blocks replay is certified.
    certified-law bound is.start_held is.start blocks replay.audit (replay-audit bound is.start_held is.start blocks replay is.of_start) certified

pub returns-clause-one : goal.returns-clause-one
returns-clause-one c = merged-audit-one
