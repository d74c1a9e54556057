use Rattle.std.proofs.Common.{◌≡◌, take}
use Rattle.counted_io.specs.Buffered.{Puts}
use Rattle.reports.specs.Audits.{block_lines, counted_on}
use Rattle.reports.proofs.audit.put_blocks.Given as goal

abbrev pub invariant-loop-block : goal.invariant-loop-block
invariant-loop-block g l = record {
  text : Puts g.W.CountedWrite.output l.fn.out l.out (block_lines l.fn.first (take l.block-index l.blocks));
  number : l.number ≡ counted_on l.fn.first l.block-index;
}
