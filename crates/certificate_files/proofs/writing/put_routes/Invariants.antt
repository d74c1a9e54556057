use Rattle.std.proofs.Common.{take}
use Rattle.std.specs.List.{flat_map}
use Rattle.counted_io.specs.Buffered.{Puts}
use Rattle.certificate_files.specs.Texts.{route_text}
use Rattle.certificate_files.proofs.writing.put_routes.Given as goal

abbrev pub invariant-loop-number : goal.invariant-loop-number
invariant-loop-number g l = Puts g.W.CountedWrite.output l.fn.out l.out (flat_map route_text (take l.number l.routes))
