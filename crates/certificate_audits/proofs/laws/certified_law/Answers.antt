use Rattle.certificate_audits.proofs.AuditLaws.{certified-law}
use Rattle.certificate_audits.proofs.laws.certified_law.Goals as goal

pub returns : goal.returns
returns c = certified-law
