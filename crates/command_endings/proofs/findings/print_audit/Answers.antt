use Rattle.json_reports.specs.Audits.{audit_data}
use Rattle.circuit_files.specs.Codes.{status_of}
use Rattle.command_endings.proofs.EndingLaws.{object_ends}
use Rattle.command_endings.proofs.findings.print_audit.Goals as goal

pub returns : goal.returns
returns g c =
    let line = rw c.status-status.ensures at c.print_audit-printed.ensures in
    object_ends c.print_audit-printed.result _ (audit_data c.args.parts.now c.args.judgement.now (status_of c.args.outcome)) _ _ _ c.ended.ensures line
