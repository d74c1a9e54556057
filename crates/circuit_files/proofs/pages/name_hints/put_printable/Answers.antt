use Rattle.std.proofs.Common.{arith, get_or}
use Rattle.std.proofs.lemmas.List.{get_or_default}
use Rattle.counted_io.proofs.BufferedLaws.{puts-end, puts-next}
use Rattle.circuit_files.specs.pages.HintedLines.{shown_byte}
use Rattle.circuit_files.proofs.pages.name_hints.put_printable.Goals as goal

pub loop-byte-preserved : goal.loop-byte-preserved
loop-byte-preserved g c =
    let here = get_or c.args.name.now c.loop-byte.byte-index 0 in
    puts-next shown_byte c.args.name.now c.loop-byte.byte-index here c.loop-byte-test.true (get_or_default c.args.name.now c.loop-byte.byte-index 0 here c.loop-byte-test.true) c.loop-byte.invariant (rw c.printable.ensures at c.put_byte.ensures)

pub returns : goal.returns
returns g c = puts-end shown_byte c.args.name.now _ (omega (arith, c.loop-byte-test.false)) c.loop-byte.invariant
