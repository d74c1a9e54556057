use Rattle.std.proofs.Common.{arith, get_or}
use Rattle.std.proofs.lemmas.List.{get_or_default}
use Rattle.counted_io.proofs.BufferedLaws.{puts-end, puts-next}
use Rattle.pictures.specs.Labels.{label_byte}
use Rattle.pictures.proofs.label.put_label_bytes.Goals as goal

pub loop-byte-preserved : goal.loop-byte-preserved
loop-byte-preserved g c =
    let here = get_or c.args.name.now c.loop-byte.byte-index 0 in
    puts-next (label_byte c.args.utf8) c.args.name.now c.loop-byte.byte-index here c.loop-byte-test.true (get_or_default c.args.name.now c.loop-byte.byte-index 0 here c.loop-byte-test.true) c.loop-byte.invariant c.put_label_byte.ensures

pub returns : goal.returns
returns g c = puts-end (label_byte c.args.utf8) c.args.name.now _ (omega (arith, c.loop-byte-test.false)) c.loop-byte.invariant
