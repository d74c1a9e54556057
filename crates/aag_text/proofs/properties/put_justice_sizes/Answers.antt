use Rattle.std.proofs.lemmas.List.Folds.{flat_map-map}
use Rattle.counted_io.proofs.BufferedLaws.{puts-end}
use Rattle.aag_text.proofs.properties.put_justice_sizes.Goals as goal

pub returns : goal.returns
returns g c = rw flat_map-map (puts-end _ _ _ c.loop-lits-test.false c.loop-lits.invariant)
