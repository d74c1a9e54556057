use Rattle.std.proofs.lemmas.Result.{IfOk-weaker}
use Rattle.commands.proofs.statistics.print_circuit.Goals as goal

pub returns-in-Ok-clause-statistics : goal.returns-in-Ok-clause-statistics
returns-in-Ok-clause-statistics g c =
    IfOk-weaker c.print_merged.result _ _ (λ ended printed. record { merged = c.in-Ok.merged; are = c.in-Ok.ensures; printed = printed }) c.print_merged.ensures.statistics
