use Rattle.std.proofs.Common.{take}
use Rattle.std.specs.List.{flat_map}
use Rattle.counted_io.specs.Buffered.{Puts}
use Rattle.certificate_files.specs.Texts.{part_text}
use Rattle.certificate_files.proofs.writing.put_parts.Given as goal

abbrev pub invariant-loop-part : goal.invariant-loop-part
invariant-loop-part g l = Puts g.W.CountedWrite.output l.fn.out l.out (flat_map part_text (take l.part-index l.parts))
