use Rattle.json_reports.proofs.PlainLaws.{audit, prints_as}
use Rattle.json_reports.proofs.commands.print_audit.Goals as goal

pub returns : goal.returns
returns g c =
    prints_as (g.W.CountedWrite.output c.args.writer.now) (g.W.CountedWrite.output c.print_made.new.writer) c.audit_object.result c.print_made.result c.audit_object.ensures (audit c.args.parts.now c.args.judgement.now c.args.status) c.print_made.ensures
