use Rattle.std.proofs.Common.{subst}
use Rattle.binary_file.specs.declared.stage.Stage.{Stage}
use Rattle.binary_file.specs.Stages.{HoldsStage}
use Rattle.binary_file.proofs.HoldLaws.{fault_stays}
use Rattle.binary_file.proofs.stage.Stage.refusal.Goals as goal

pub returns-in-Failed-clause-held : goal.returns-in-Failed-clause-held
returns-in-Failed-clause-held c bytes more holds = fault_stays c.in-Failed.fault bytes more (subst (λ (s : Stage). HoldsStage s bytes) c.in-Failed.is holds)
