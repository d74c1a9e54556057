use Rattle.std.proofs.Common.{take}
use Rattle.std.specs.List.{flat_map}
use Rattle.counted_io.specs.Buffered.{Puts}
use Rattle.witnesses.specs.Texts.{spaced_property}
use Rattle.witnesses.proofs.writing.put_all_spaced.Given as goal

abbrev pub invariant-loop-property : goal.invariant-loop-property
invariant-loop-property g l = Puts g.W.CountedWrite.output l.fn.out l.out (flat_map spaced_property (take l.property-index l.properties))
