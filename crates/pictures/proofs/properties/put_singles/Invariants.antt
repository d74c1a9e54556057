use Rattle.std.proofs.Common.{take}
use Rattle.pictures.specs.Pictures.{single_lines}
use Rattle.pictures.specs.Views.{drawn_in, look_in}
use Rattle.counted_io.specs.Buffered.{Puts}
use Rattle.pictures.proofs.properties.put_singles.Given as goal

abbrev pub invariant-loop-position : goal.invariant-loop-position
invariant-loop-position g l = Puts g.W.CountedWrite.output l.fn.out l.out (single_lines (look_in l.view) (drawn_in l.view) l.letter (take l.position l.lits))
