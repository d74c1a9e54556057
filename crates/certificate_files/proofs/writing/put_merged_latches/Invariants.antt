use Rattle.std.proofs.Common.{take}
use Rattle.std.specs.List.{flat_map}
use Rattle.counted_io.specs.Buffered.{Puts}
use Rattle.certificate_files.specs.Texts.{merged_latch_text}
use Rattle.certificate_files.proofs.writing.put_merged_latches.Given as goal

abbrev pub invariant-loop-latch : goal.invariant-loop-latch
invariant-loop-latch g l = Puts g.W.CountedWrite.output l.fn.out l.out (flat_map merged_latch_text (take l.latch-index l.merged))
