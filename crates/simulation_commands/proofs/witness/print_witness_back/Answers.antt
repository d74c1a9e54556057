use Rattle.std.proofs.lemmas.Result.{IfOk-weaker}
use Rattle.command_endings.proofs.PrintingLaws.{ends_with_line, failing}
use Rattle.simulation_commands.specs.Verdicts.{outcome_of_verdict, verdict_text}
use Rattle.simulation_commands.proofs.VerdictLaws.{verdict_prints}
use Rattle.simulation_commands.proofs.witness.print_witness_back.Goals as goal

pub returns-in-Ok-verdict_of-clause-verdict : goal.returns-in-Ok-verdict_of-clause-verdict
returns-in-Ok-verdict_of-clause-verdict g c =
    let verdict = c.in-Ok-verdict_of.verdict in
    let printed = ends_with_line (outcome_of_verdict verdict) (verdict_text verdict) _ _ c.print_verdict-printed.result c.print_verdict-printed.ensures in
    IfOk-weaker c.print_verdict-printed.result _ _
    (λ ended prints. record { given = c.in-Ok.given; read = c.in-Ok.ensures; verdict = verdict; is = c.in-Ok-verdict_of.ensures; printed = prints }) printed

pub returns-in-Ok-verdict_of-clause-prints : goal.returns-in-Ok-verdict_of-clause-prints
returns-in-Ok-verdict_of-clause-prints g c = verdict_prints c.in-Ok-verdict_of.verdict _ _ c.print_verdict-printed.result c.print_verdict-printed.ensures

pub returns-in-Err-verdict_of-clause-prints : goal.returns-in-Err-verdict_of-clause-prints
returns-in-Err-verdict_of-clause-prints g c = failing c.in-Err-verdict_of.failure _

pub returns-in-Err-clause-prints : goal.returns-in-Err-clause-prints
returns-in-Err-clause-prints g c = failing c.in-Err.failure _
