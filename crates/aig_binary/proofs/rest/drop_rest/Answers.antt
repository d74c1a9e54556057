use Rattle.std.proofs.Common.{◌++◌, take, refl}
use Rattle.counted_io.proofs.InputLaws.{first-more}
use Rattle.aig_binary.proofs.rest.drop_rest.Goals as goal

pub loop-preserved : goal.loop-preserved
loop-preserved g c =
    let read = c.loop.invariant.0 in
    let next = c.in_ok-next_piece.ensures in
    let piece = take c.in_ok-next_piece.field-0 c.next_piece.new.piece in
    (read ++ piece, first-more _ _ _ read piece (read ++ piece) c.loop.invariant.1 next.ok next.failures refl)
