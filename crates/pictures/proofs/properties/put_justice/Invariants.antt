use Rattle.std.proofs.Common.{take}
use Rattle.counted_io.specs.Line.{numbered_lines}
use Rattle.std.specs.Str.{byte}
use Rattle.pictures.specs.Pictures.{property_lines}
use Rattle.pictures.specs.Views.{drawn_in, look_in}
use Rattle.counted_io.specs.Buffered.{Puts}
use Rattle.pictures.proofs.properties.put_justice.Given as goal

abbrev pub invariant-loop-position : goal.invariant-loop-position
invariant-loop-position g l = Puts g.W.CountedWrite.output l.fn.out l.out (numbered_lines (property_lines (look_in l.view) (drawn_in l.view) (byte "j")) 0 (take l.position l.justice))
