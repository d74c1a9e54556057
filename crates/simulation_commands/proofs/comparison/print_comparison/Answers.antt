use Rattle.std.proofs.lemmas.Result.{IfOk-weaker}
use Rattle.command_endings.proofs.PrintingLaws.{failing}
use Rattle.simulation_commands.proofs.comparison.print_comparison.Goals as goal

pub returns-in-Ok-clause-finding : goal.returns-in-Ok-clause-finding
returns-in-Ok-clause-finding g c =
    IfOk-weaker c.print_finding_as.result _ _ (λ ended prints. record { finding = c.in-Ok.found; found = c.in-Ok.ensures; printed = prints }) c.print_finding_as.ensures.finding

pub returns-in-Ok-clause-prints : goal.returns-in-Ok-clause-prints
returns-in-Ok-clause-prints g c = c.print_finding_as.ensures.prints

pub returns-in-Err-clause-prints : goal.returns-in-Err-clause-prints
returns-in-Err-clause-prints g c = failing c.in-Err.failure _
