use Rattle.witness_circuits.proofs.LiftLaws.{lifts-witnesses}
use Rattle.witness_circuits.proofs.lift_laws.lift_law.Goals as goal

pub returns : goal.returns
returns c = lifts-witnesses
