use Rattle.std.proofs.Common.{ℕ, List, arith, ap, map, sym, subst}
use Rattle.std.proofs.lemmas.List.{map_more, take_all}
use Rattle.counted_io.specs.Buffered.{Puts}
use Rattle.counted_io.proofs.BufferedLaws.{puts-then}
use Rattle.circuit_files.specs.pages.Messages.{said_byte}
use Rattle.circuit_files.proofs.pages.message.put_said.Goals as goal

pub loop-byte-preserved : goal.loop-byte-preserved
loop-byte-preserved g c =
    subst (λ (text : List ℕ). Puts g.W.CountedWrite.output c.args.out.now c.put_byte.new.self text) (sym (map_more said_byte c.args.bytes.now c.loop-byte.byte-index 0 c.loop-byte-test.true))
    (puts-then c.loop-byte.invariant (rw c.said_byte.ensures at c.put_byte.ensures))

pub returns : goal.returns
returns g c =
    subst (λ (text : List ℕ). Puts g.W.CountedWrite.output c.args.out.now c.loop-byte.out text) (ap (map said_byte) (take_all c.loop-byte.byte-index c.args.bytes.now (omega (arith, c.loop-byte-test.false)))) c.loop-byte.invariant
