use Rattle.std.proofs.Common.{rules}
use Rattle.counted_io.proofs.BufferedLaws.{writes-whole}
use Rattle.reports.proofs.audit.print_audit.Goals as goal

pub returns : goal.returns
returns g c = writes-whole c.new-out.ensures c.put_judgement.ensures c.flush.ensures (search rules)
