use Rattle.std.proofs.Common.{arith}
use Rattle.gate_sharing.proofs.SharedLaws.{folded-true}
use Rattle.gate_sharing.proofs.shared.folded.Goals as goal

pub returns-then-eq-2 : goal.returns-then-eq-2
returns-then-eq-2 c = folded-true c.args.gate.now (grind (arith, c.eq-else-eq.ensures, c.if-eq-2.true, c.if-eq-2.ensures))
