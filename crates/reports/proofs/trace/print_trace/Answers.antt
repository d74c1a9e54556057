use Rattle.std.proofs.Common.{rules}
use Rattle.counted_io.proofs.BufferedLaws.{writes-whole}
use Rattle.reports.proofs.TraceTextLaws.{text_is}
use Rattle.reports.proofs.trace.print_trace.Goals as goal

pub returns : goal.returns
returns g c = writes-whole c.new-out.ensures (rw (text_is c.args.trace.now) at c.put_trace.ensures) c.flush.ensures (search rules)
