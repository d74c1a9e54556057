use Rattle.std.proofs.Common.{arith, ap}
use Rattle.certificate_files.specs.Steps.{lines_of_next}
use Rattle.certificate_files.proofs.parts.parts_from.Goals as goal

pub loop-next-smaller : goal.loop-next-smaller
loop-next-smaller c = omega (arith, c.in_ok-next-2.ensures.shorter, ap lines_of_next c.in-Some.is)
