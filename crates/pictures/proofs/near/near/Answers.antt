use Rattle.std.proofs.Common.{◌≡◌, ◌∙◌, arith}
use Rattle.pictures.proofs.MarkLaws.{near-none, near-more}
use Rattle.pictures.proofs.near.near.Goals as goal

pub loop-init : goal.loop-init
loop-init c = near-none c.args.circuit.now c.args.name.now _ c.in_ok-marks.ensures

pub loop-preserved : goal.loop-preserved
loop-preserved c =
    near-more c.args.circuit.now c.args.name.now c.loop.counter _ _ _ c.aig.ensures.value (c.as_slice.ensures.value ∙ c.loop.invariant) c.in_ok-marks-2.ensures

pub returns : goal.returns
returns c =
    let all : c.loop.counter ≡ c.args.depth = omega (arith, c.loop.auto, c.loop-test.false) in
    rw all at c.loop.invariant
