-- What is shown of a run, and on what.
use Rattle.std.specs.Prelude.{ℕ, ◌+◌, ◌-◌, ◌^◌, min, Bool, true, false, length}
use Rattle.aig_graph.specs.Graph.{Graph, known_latches}
use Rattle.command_line.specs.declared.task.Shown.{Shown}
use Rattle.command_line.specs.declared.task.Shown.TheVariants as asked
use Rattle.command_endings.specs.declared.progress.lines.Frame.{Frame}
use Rattle.command_endings.specs.declared.progress.Show.{Show}
use Rattle.command_endings.specs.declared.progress.Show.TheVariants.{Nothing, EachFrame, InPlace}

-- if one line is asked for, it is shown on a terminal alone
abbrev pub show_for : Shown → Bool → Show
show_for asked.EachFrame is_terminal = EachFrame
show_for asked.OnTerminal true = InPlace
show_for asked.OnTerminal false = Nothing
show_for asked.Nothing is_terminal = Nothing

-- After `taken` frames a set is looked for in the graph. Frames are counted from 1, and of the
-- latches those with a known reset.
abbrev pub frame_of : ℕ → Graph → Frame
frame_of taken graph = record { number = min (taken + 1) (2 ^ 64 - 1); latches = known_latches graph; gates = length graph.gates }
