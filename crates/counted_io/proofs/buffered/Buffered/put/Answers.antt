use Rattle.counted_io.proofs.BufferedLaws.{puts-piece}
use Rattle.counted_io.proofs.buffered.Buffered.put.Goals as goal

pub loop-rest-preserved : goal.loop-rest-preserved
loop-rest-preserved g c =
    let front = rw c.split_at.ensures.front at c.append.ensures.puts in
    rw c.split_at.ensures.back (λ end after. c.loop-rest.invariant end (puts-piece _ _ front c.send.ensures.puts after))
