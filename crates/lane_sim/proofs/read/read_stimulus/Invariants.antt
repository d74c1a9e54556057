use Rattle.std.proofs.Common.{◌≡◌, ◌-◌, length}
use Rattle.file_words.specs.Lines.{lines}
use Rattle.file_words.specs.Reading.{read_lines}
use Rattle.lane_sim.specs.Stimuli.{read_line, read_text}
use Rattle.lane_sim.proofs.read.read_stimulus.Given as goal

abbrev pub invariant-loop-line : goal.invariant-loop-line
invariant-loop-line l = read_text l.inputs l.free l.bytes ≡ read_lines (read_line l.inputs l.free) (l.lines.end - length l.lines.rest.now) l.sequences.items (lines l.lines.rest.now)

abbrev pub decreases-loop-line : goal.decreases-loop-line
decreases-loop-line l = length l.lines.rest.now
