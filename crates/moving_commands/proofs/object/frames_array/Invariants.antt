use Rattle.std.proofs.Common.{◌≡◌, map, take}
use Rattle.serde_json.specs.View.{view}
use Rattle.moving_commands.specs.Printing.{backward_frame_data}
use Rattle.moving_commands.proofs.object.frames_array.Given as goal

abbrev pub invariant-loop-frame : goal.invariant-loop-frame
invariant-loop-frame l = map view l.list.items ≡ map backward_frame_data (take l.frame-index l.frames)
