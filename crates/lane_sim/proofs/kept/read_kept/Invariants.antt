use Rattle.std.proofs.Common.{◌≡◌, ◌-◌, [], length}
use Rattle.file_words.specs.Lines.{lines}
use Rattle.file_words.specs.Reading.{read_lines}
use Rattle.lane_sim.specs.Kept.{read_place}
use Rattle.lane_sim.proofs.kept.read_kept.Given as goal

abbrev pub invariant-loop-line : goal.invariant-loop-line
invariant-loop-line l =
    read_lines (read_place l.free) 0 [] (lines l.bytes) ≡ read_lines (read_place l.free) (l.lines.end - length l.lines.rest.now) l.kept.items (lines l.lines.rest.now)

abbrev pub decreases-loop-line : goal.decreases-loop-line
decreases-loop-line l = length l.lines.rest.now
