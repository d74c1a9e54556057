use Rattle.std.proofs.Common.{ℕ}
use Rattle.aig_graph.specs.declared.graph.Latch.{Latch}
use Rattle.counted_io.specs.Line.{line}
use Rattle.counted_io.proofs.BufferedLaws.{puts-numbered_next}
use Rattle.file_words.specs.Text.{latch_row}
use Rattle.aag_text.proofs.graph.put_latches.Goals as goal

pub loop-k-preserved : goal.loop-k-preserved
loop-k-preserved g c =
    puts-numbered_next (λ (v : ℕ) (x : Latch). line (latch_row v x)) c.args.first c.args.latches.now c.loop-k.k _
    c.loop-k-test.true c.index-latches-k.is c.loop-k.invariant c.put_latch.ensures
