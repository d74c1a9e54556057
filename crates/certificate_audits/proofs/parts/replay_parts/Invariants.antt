use Rattle.certificate_audits.proofs.PartLaws.{HaveComeTo}
use Rattle.certificate_audits.proofs.parts.replay_parts.Given as goal

abbrev pub invariant-loop-part : goal.invariant-loop-part
invariant-loop-part l = HaveComeTo l.bound l.fn.first l.parts l.part-index l.audits.items l.last
