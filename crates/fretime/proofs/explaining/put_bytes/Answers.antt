use Rattle.std.proofs.Common.{arith, get_or}
use Rattle.std.proofs.lemmas.List.{get_or_default}
use Rattle.counted_io.proofs.BufferedLaws.{puts-end, puts-next}
use Rattle.fretime.specs.Explaining.{indented_byte}
use Rattle.fretime.proofs.explaining.put_bytes.Goals as goal

pub loop-byte-preserved : goal.loop-byte-preserved
loop-byte-preserved g c =
    let here = get_or c.args.bytes.now c.loop-byte.byte-index 0 in
    puts-next indented_byte c.args.bytes.now c.loop-byte.byte-index here c.loop-byte-test.true (get_or_default c.args.bytes.now c.loop-byte.byte-index 0 here c.loop-byte-test.true) c.loop-byte.invariant c.put_indented.ensures

pub returns : goal.returns
returns g c = puts-end indented_byte c.args.bytes.now _ (omega (arith, c.loop-byte-test.false)) c.loop-byte.invariant
