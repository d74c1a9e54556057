use Rattle.std.proofs.Common.{rules}
use Rattle.counted_io.proofs.BufferedLaws.{puts-then, writes-whole}
use Rattle.command_endings.proofs.progress.lines.write_line.Goals as goal

pub returns : goal.returns
returns g c = writes-whole c.new-out.ensures (puts-then (puts-then c.put_frame.ensures c.put_seconds.ensures) c.put_byte.ensures) c.flush.ensures (search rules)
