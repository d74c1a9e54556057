-- What is printed of a retimed circuit.
use Rattle.std.specs.Prelude.{ℕ, List, [], ◌∷◌, ◌++◌, length, decimal, codes}
use Rattle.counted_io.specs.Line.{numbered_lines}
use Rattle.merging_rounds.specs.declared.rounds.Rounds.{Rounds}
use Rattle.retimed_circuits.specs.declared.report.FrameReport.{FrameReport}

-- two numbers with "to" between, which end a line
abbrev pub change : ℕ → ℕ → List ℕ
change before after = decimal before ++ codes " to " ++ decimal after ++ 10 ∷ []

-- the line of the frame with this number
abbrev pub frame_line : ℕ → FrameReport → List ℕ
frame_line number frame = codes "frame " ++ decimal number ++ codes ": " ++ change frame.before frame.after

-- a line for each frame, which are numbered from 1 on
abbrev pub frame_lines : List FrameReport → List ℕ
frame_lines frames = numbered_lines frame_line 1 frames

-- a line for each frame, and how many latches were read and are left
abbrev pub retiming_text : Rounds → List ℕ
retiming_text r = frame_lines r.frames ++ codes "latches " ++ change r.read_latches (length r.circuit.aig.latches)
