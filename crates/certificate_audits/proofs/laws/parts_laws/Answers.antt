use Rattle.certificate_audits.proofs.PartLaws.{parts-levels, parts-streams}
use Rattle.certificate_audits.proofs.laws.parts_laws.Goals as goal

pub returns-clause-streams : goal.returns-clause-streams
returns-clause-streams c = parts-streams

pub returns-clause-levels : goal.returns-clause-levels
returns-clause-levels c = parts-levels
