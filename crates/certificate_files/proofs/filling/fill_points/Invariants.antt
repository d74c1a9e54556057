use Rattle.std.proofs.Common.{◌≡◌, ◌*◌, ◌<◌, ◌≤◌, ◌++◌, length, drop}
use Rattle.std.specs.List.{flat_map}
use Rattle.certificate_files.specs.Texts.{point_text}
use Rattle.certificate_files.proofs.filling.fill_points.Given as goal

abbrev pub invariant-loop-left : goal.invariant-loop-left
invariant-loop-left l = record {
  left : l.left ≤ length l.points;
  room : 12 * l.left < l.start;
  start : l.start ≤ l.end;
  long : length l.line ≡ length l.fn.line;
  text : drop l.start l.line ≡ flat_map point_text (drop l.left l.points) ++ drop l.end l.fn.line;
}

abbrev pub decreases-loop-left : goal.decreases-loop-left
decreases-loop-left l = l.left
