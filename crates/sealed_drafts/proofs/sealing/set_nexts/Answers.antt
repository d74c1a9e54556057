use Rattle.sealed_drafts.proofs.SealLaws.{wired-more}
use Rattle.sealed_drafts.proofs.sealing.set_nexts.Goals as goal

pub loop-place-preserved : goal.loop-place-preserved
loop-place-preserved c = wired-more c.args.builder.now c.loop-place.builder c.set_latch.new.self c.loop-place.place c.in_ok-next.next c.loop-place.invariant c.set_latch.ensures
