use Rattle.counted_io.proofs.InputLaws.{first-dropped}
use Rattle.counted_io.proofs.ResultLaws.{on_err}
use Rattle.counted_io.proofs.reading.read_all.Goals as goal

pub returns-in_err-extend_from_slice-clause-err : goal.returns-in_err-extend_from_slice-clause-err
returns-in_err-extend_from_slice-clause-err g c =
    on_err c.from_residual-in_err-extend_from_slice.result (first-dropped _ _ _ _ _ c.loop-bytes.invariant c.in_ok-count.ensures.ok)
