use Rattle.std.proofs.lemmas.List.{get_or_default}
use Rattle.counted_io.proofs.BufferedLaws.{puts-numbered_next}
use Rattle.moving_commands.specs.Printing.{frame_line}
use Rattle.moving_commands.proofs.lines.put_frames.Goals as goal

pub loop-k-preserved : goal.loop-k-preserved
loop-k-preserved g c =
    let within = c.loop-k-test.true in
    puts-numbered_next frame_line 1 c.args.frames.now c.loop-k.k _ within (get_or_default _ _ _ _ within) c.loop-k.invariant c.put_frame.ensures
