use Rattle.std.proofs.Common.{rules}
use Rattle.counted_io.proofs.BufferedLaws.{writes-whole}
use Rattle.mapped_answers.proofs.map_text.write_symbols.Goals as goal

pub returns : goal.returns
returns g c = writes-whole c.new-out.ensures (rw c.symbols.ensures at c.put_symbols.ensures) c.flush.ensures (search rules)
