use Rattle.certificate_audits.proofs.UniqueLaws.{audit-one}
use Rattle.certificate_audits.proofs.laws.audit_law.Goals as goal

pub returns : goal.returns
returns c = audit-one
