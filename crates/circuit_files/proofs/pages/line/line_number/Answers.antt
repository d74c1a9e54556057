use Rattle.std.proofs.Common.{arith}
use Rattle.circuit_files.proofs.pages.line.line_number.Goals as goal

pub slice_bounds-piece-end : goal.slice_bounds-piece-end
slice_bounds-piece-end g c = omega (arith, c.min-wanted.ensures, c.type_inv.piece)
