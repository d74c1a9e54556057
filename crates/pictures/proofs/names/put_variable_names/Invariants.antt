use Rattle.std.proofs.Common.{take}
use Rattle.std.specs.List.{flat_map}
use Rattle.pictures.specs.Pictures.{variable_name}
use Rattle.pictures.specs.Views.{drawn_in, look_in}
use Rattle.counted_io.specs.Buffered.{Puts}
use Rattle.pictures.proofs.names.put_variable_names.Given as goal

abbrev pub invariant-loop-symbol : goal.invariant-loop-symbol
invariant-loop-symbol g l = Puts g.W.CountedWrite.output l.fn.out l.out (flat_map (variable_name (look_in l.view) (drawn_in l.view) l.first) (take l.symbol-index l.symbols))
