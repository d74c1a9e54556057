use Rattle.std.proofs.Common.{false, get_or}
use Rattle.std.proofs.lemmas.List.{get_or_default}
use Rattle.pictures.proofs.TextLaws.{puts-numbered_end, puts-numbered_up}
use Rattle.pictures.specs.Pictures.{centre_line}
use Rattle.pictures.proofs.middle.put_marked.Goals as goal

pub loop-k-preserved : goal.loop-k-preserved
loop-k-preserved g c =
    let marks = c.args.marks.now in
    let mark = get_or marks c.loop-k.k false in
    puts-numbered_up centre_line marks c.loop-k.k mark c.loop-k-test.true
    (get_or_default marks c.loop-k.k false mark c.loop-k-test.true) c.loop-k.invariant c.put_line.ensures

pub bounds-marks-k : goal.bounds-marks-k
bounds-marks-k g c = c.loop-k-test.true

pub returns : goal.returns
returns g c = puts-numbered_end centre_line 0 c.args.marks.now _ c.loop-k-test.false c.loop-k.invariant
