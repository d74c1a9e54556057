use Rattle.std.proofs.Common.{refl}
use Rattle.witness_circuits.proofs.PutLaws.{put_after, put_all}
use Rattle.witness_circuits.proofs.latches.push_resets.Goals as goal

pub loop-latch-preserved : goal.loop-latch-preserved
loop-latch-preserved c = put_after (λ latch. latch.reset) _ _ _ _ c.loop-latch-test.true c.latch-item.is c.loop-latch.invariant refl c.in_ok-push.ensures.items

pub returns : goal.returns
returns c = put_all (λ latch. latch.reset) _ _ _ _ c.loop-latch-test.false c.loop-latch.invariant
