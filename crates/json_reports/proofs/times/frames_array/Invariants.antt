use Rattle.std.proofs.Common.{◌≡◌, map, take}
use Rattle.serde_json.specs.View.{view}
use Rattle.json_reports.specs.Timings.{frame_times_data}
use Rattle.json_reports.proofs.times.frames_array.Given as goal

abbrev pub invariant-loop-frame : goal.invariant-loop-frame
invariant-loop-frame l = map view l.list.items ≡ map frame_times_data (take l.frame-index l.frames)
