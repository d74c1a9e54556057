use Rattle.std.proofs.Common.{◌^◌, ◌<◌, ◌≡◌, ℕ, arith, subst}
use Rattle.counted_io.specs.Buffered.{Puts}
use Rattle.counted_io.proofs.BufferedLaws.{puts-nothing}
use Rattle.reports.specs.Audits.{block_line, block_lines, counted_on}
use Rattle.reports.proofs.AuditTextLaws.{puts-next_block}
use Rattle.reports.proofs.audit.put_blocks.Goals as goal

pub loop-block-init : goal.loop-block-init
unfolding block_lines
loop-block-init g c = record { text = puts-nothing _; number = omega (arith, c.ranges.first) }

pub loop-block-preserved : goal.loop-block-preserved
loop-block-preserved g c =
    let small : c.args.first < 2 ^ 64 = omega (arith, c.ranges.first) in
    let counted : c.loop-block.number ≡ counted_on c.args.first c.loop-block.block-index = c.loop-block.invariant.number in
    let line = subst (λ (n : ℕ). Puts g.W.CountedWrite.output c.loop-block.out c.put_block.new.out (block_line n c.block-item.result)) counted c.put_block.ensures in
    record {
      text = puts-next_block c.args.blocks.now c.loop-block.block-index c.args.first c.block-item.result small c.loop-block-test.true c.block-item.is c.loop-block.invariant.text line;
      number = omega (arith, counted, c.saturating_add-number.ensures);
    }
