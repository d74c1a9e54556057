use Rattle.std.proofs.Common.{ap}
use Rattle.json_reports.specs.declared.refusal.Refusal.{Refusal}
use Rattle.command_endings.proofs.RefusalLaws.{refusal_prints, refusal_said, same_said}
use Rattle.command_endings.proofs.failures.print_failure.Goals as goal

pub returns-clause-refuses : goal.returns-clause-refuses
returns-clause-refuses g c =
    let said = refusal_said c.print_refusal.result c.refusal_of-refusal.result _ _ c.print_refusal.ensures in
    refusal_prints c.refusal_of-refusal.result _ _ _ (ap (λ (r : Refusal). r.status) c.refusal_of-refusal.ensures) said

pub returns-clause-says : goal.returns-clause-says
returns-clause-says g c =
    let said = refusal_said c.print_refusal.result c.refusal_of-refusal.result _ _ c.print_refusal.ensures in
    same_said c.refusal_of-refusal.result _ _ _ c.refusal_of-refusal.ensures said
