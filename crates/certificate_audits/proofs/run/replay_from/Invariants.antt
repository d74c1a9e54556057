use Rattle.certificate_audits.proofs.AuditLaws.{LeadsTo}
use Rattle.certificate_audits.proofs.run.replay_from.Given as goal

abbrev pub invariant-loop-place : goal.invariant-loop-place
invariant-loop-place l = LeadsTo l.fn.bound l.fn.first.keep l.fn.first.circuit l.blocks l.place l.stage.keep l.stage.circuit
