use Rattle.std.proofs.Common.{ℕ, List, subst}
use Rattle.counted_io.specs.Buffered.{Puts}
use Rattle.fretime.proofs.ExplainingLaws.{indented_byte-10, indented_byte-other}
use Rattle.fretime.proofs.explaining.put_indented.Goals as goal

pub returns-then-byte-eq10 : goal.returns-then-byte-eq10
returns-then-byte-eq10 g c =
    subst (λ (text : List ℕ). Puts g.W.CountedWrite.output c.args.out.now c.put.new.self text) (indented_byte-10 c.args.byte c.if-byte-eq10.true) c.put.ensures

pub returns-else-byte-eq10 : goal.returns-else-byte-eq10
returns-else-byte-eq10 g c = rw (indented_byte-other c.args.byte c.if-byte-eq10.false) at c.put_byte.ensures
