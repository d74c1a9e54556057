use Rattle.std.proofs.Common.{rules}
use Rattle.counted_io.proofs.BufferedLaws.{writes-whole}
use Rattle.map_commands.proofs.obligations.print_equal.Goals as goal

pub returns : goal.returns
returns g c = writes-whole c.new-out.ensures c.put.ensures c.flush.ensures (search rules)
