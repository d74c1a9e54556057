use Rattle.std.proofs.Common.{arith}
use Rattle.std.proofs.lemmas.List.{get_or_default}
use Rattle.counted_io.proofs.BufferedLaws.{puts-end, puts-next}
use Rattle.witnesses.specs.Texts.{spaced_property}
use Rattle.witnesses.proofs.writing.put_all_spaced.Goals as goal

pub loop-property-preserved : goal.loop-property-preserved
loop-property-preserved g c =
    puts-next spaced_property c.args.properties.now c.loop-property.property-index _ c.loop-property-test.true (get_or_default c.args.properties.now c.loop-property.property-index _ _ c.loop-property-test.true) c.loop-property.invariant c.put_spaced.ensures

pub returns : goal.returns
returns g c = puts-end spaced_property c.args.properties.now _ (omega (arith, c.loop-property-test.false)) c.loop-property.invariant
