use Rattle.std.proofs.Common.{rules}
use Rattle.counted_io.proofs.BufferedLaws.{writes-whole}
use Rattle.moving_commands.proofs.lines.print_lines.Goals as goal

pub returns : goal.returns
returns g c = writes-whole c.new-out.ensures c.put_moves.ensures c.flush.ensures (search rules)
