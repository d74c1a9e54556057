use Rattle.std.proofs.Common.{rules}
use Rattle.counted_io.proofs.BufferedLaws.{writes-whole}
use Rattle.hold_counts.proofs.printing.print_holding.Goals as goal

pub returns : goal.returns
returns g c = writes-whole c.new-out.ensures (rw c.one_holds.ensures at c.put_if.ensures) c.flush.ensures (search rules)
