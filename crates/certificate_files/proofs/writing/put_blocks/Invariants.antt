use Rattle.std.proofs.Common.{take}
use Rattle.std.specs.List.{flat_map}
use Rattle.counted_io.specs.Buffered.{Puts}
use Rattle.certificate_files.specs.Texts.{block_text}
use Rattle.certificate_files.proofs.writing.put_blocks.Given as goal

abbrev pub invariant-loop-block : goal.invariant-loop-block
invariant-loop-block g l = Puts g.W.CountedWrite.output l.fn.out l.out (flat_map block_text (take l.block-index l.blocks))
