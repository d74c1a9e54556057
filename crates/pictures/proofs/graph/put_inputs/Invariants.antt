use Rattle.std.specs.List.{flat_map, range_with_len}
use Rattle.pictures.specs.Pictures.{input_lines}
use Rattle.pictures.specs.Views.{drawn_in, look_in}
use Rattle.counted_io.specs.Buffered.{Puts}
use Rattle.pictures.proofs.graph.put_inputs.Given as goal

abbrev pub invariant-loop-input : goal.invariant-loop-input
invariant-loop-input g l = Puts g.W.CountedWrite.output l.fn.out l.out (flat_map (input_lines (look_in l.view) (drawn_in l.view)) (range_with_len 1 l.input))
