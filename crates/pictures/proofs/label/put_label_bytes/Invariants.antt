use Rattle.std.proofs.Common.{take}
use Rattle.std.specs.List.{flat_map}
use Rattle.pictures.specs.Labels.{label_byte}
use Rattle.counted_io.specs.Buffered.{Puts}
use Rattle.pictures.proofs.label.put_label_bytes.Given as goal

abbrev pub invariant-loop-byte : goal.invariant-loop-byte
invariant-loop-byte g l = Puts g.W.CountedWrite.output l.fn.out l.out (flat_map (label_byte l.utf8) (take l.byte-index l.name))
