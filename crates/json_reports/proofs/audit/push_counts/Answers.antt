use Rattle.std.proofs.Common.{sym, append-nil}
use Rattle.json_reports.proofs.CountLaws.{counts-pushed, counts-whole}
use Rattle.json_reports.proofs.audit.push_counts.Goals as goal

pub loop-block-init : goal.loop-block-init
loop-block-init c = sym (append-nil _)

pub loop-block-preserved : goal.loop-block-preserved
loop-block-preserved c = counts-pushed c.args.blocks.now c.loop-block.block-index c.block-item.result _ _ _ _ c.loop-block-test.true c.block-item.is c.loop-block.invariant c.from.ensures c.in_ok-push.ensures.ok

pub returns : goal.returns
returns c = counts-whole c.args.blocks.now c.loop-block.block-index _ _ c.loop-block-test.false c.loop-block.invariant
