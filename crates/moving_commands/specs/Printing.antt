-- What the commands `backward` and `enables` print.
use Rattle.std.specs.Prelude.{ℕ, Bool, true, false, List, [], ◌∷◌, ◌++◌, Option, Some, None, Result, length, decimal, codes, nat_eq, if◌then◌else◌}
use Rattle.frame_runs.specs.declared.bound.PathBound.{PathBound}
use Rattle.frame_runs.specs.declared.bound.PathBound.TheVariants as bounds
use Rattle.aig_graph.specs.Circuits.{Netlist}
use Rattle.counted_io.specs.Line.{numbered_lines}
use Rattle.counted_io.specs.Output.{Output}
use Rattle.backward_moves.specs.declared.frame.FrameCounts.{FrameCounts}
use Rattle.backward_moves.specs.declared.staying.Staying.{Staying}
use Rattle.reports.specs.CircuitCounts.{counts}
use Rattle.reports.specs.declared.statistics.Counts.{Counts}
use Rattle.serde_json.specs.Data.{Data, boolean, null, string, object, member, no_members}
use Rattle.reports.specs.Retimings.{change}
use Rattle.json_reports.specs.Counts.{circuit_data}
use Rattle.json_reports.specs.Members.{array_of, count, or_null}
use Rattle.counted_io.specs.declared.target.Target.{Target}
use Rattle.command_line.specs.Asking.{move_name}
use Rattle.command_line.specs.declared.task.Moving.{Moving}
use Rattle.circuit_files.specs.declared.outcome.Outcome.{Outcome}
use Rattle.circuit_files.specs.declared.outcome.Outcome.TheVariants.{Done}
use Rattle.circuit_files.specs.declared.outcome.Failure.{Failure}
use Rattle.command_endings.specs.Objects.{EndsPrintingObject}
use Rattle.command_endings.specs.Printing.{EndsPrinting}
use Rattle.moving_commands.specs.declared.answering.Answer.{Answer}
use Rattle.moving_commands.specs.declared.engines.Report.{Report}
use Rattle.moving_commands.specs.declared.engines.Report.TheVariants.{OfBackward, OfEnables}

-- the line of the frame with this number
abbrev pub frame_line : ℕ → FrameCounts → List ℕ
frame_line number frame = codes "frame " ++ decimal number ++ codes ": " ++ change frame.before frame.after

-- a line for each frame, which are numbered from 1 on
abbrev pub backward_frame_lines : List FrameCounts → List ℕ
backward_frame_lines frames = numbered_lines frame_line 1 frames

-- the frames that were taken: a line for each of `backward`, and one with their number of `enables`
abbrev pub taken_lines : Report → List ℕ
taken_lines (OfBackward frames staying is_shown) = backward_frame_lines frames.items
taken_lines (OfEnables frames refused) = codes "frames " ++ decimal frames ++ 10 ∷ []

-- a line that the judge refused what was found, if it did
abbrev pub shown_line : Bool → List ℕ
shown_line true = []
shown_line false = codes "not shown: OUT is IN" ++ 10 ∷ []

-- a line that a draft of this many frames was refused, if one was, and that OUT is IN if no frame
-- was taken then
abbrev pub refused_line : ℕ → ℕ → List ℕ
refused_line frames refused = if nat_eq refused 0 then [] else if nat_eq frames 0 then shown_line false else codes "not shown: a draft of " ++ decimal refused ++ codes " frames" ++ 10 ∷ []

-- the last line, if the judge refused something
abbrev pub end_line : Report → List ℕ
end_line (OfBackward frames staying is_shown) = shown_line is_shown
end_line (OfEnables frames refused) = refused_line frames refused

-- the frames, the numbers of all latches that were read and that are left, and what the judge
-- refused
abbrev pub moves_text : Answer → List ℕ
moves_text answer = taken_lines answer.moved.report ++ codes "latches " ++ change answer.before.latches (length answer.moved.circuit.aig.latches) ++ end_line answer.moved.report

-- the latches that take part before and after a frame, the variables that have two latches, and the
-- gates that moved
abbrev pub backward_frame_data : FrameCounts → Data
backward_frame_data f =
    object (member (codes "after") (count f.after) (member (codes "before") (count f.before) (member (codes "doubled") (count f.doubled) (member (codes "gates") (count f.gates) no_members))))

-- how many constraints and gates a map has
abbrev pub map_circuit_data : Netlist → Data
map_circuit_data m = object (member (codes "constraints") (count (length m.props.constraints)) (member (codes "gates") (count (length m.aig.gates)) no_members))

-- the same where one is written
abbrev pub map_data_for : Option Target → Netlist → Data
map_data_for None m = null
map_data_for (Some target) m = map_circuit_data m

-- the most gates on a path that the run was to leave, if it had a bound, by what the circuit had
-- that was read
abbrev pub reported_bound : PathBound → Counts → Option ℕ
reported_bound bounds.None before = None
reported_bound bounds.NoLonger before = Some before.levels
reported_bound (bounds.Levels levels) before = Some levels

-- how many latches stay and for what, and how many gates may move. What is told of those behind a
-- gate on too long a path is given.
abbrev pub staying_with : Staying → Data → Data
staying_with s too_long =
    object (member (codes "behind_no_gate") (count s.behind_no_gate)
    (member (codes "could_move") (count s.could_move)
    (member (codes "free") (count s.free)
    (member (codes "held") (count s.held)
    (member (codes "least") (boolean s.is_least)
    (member (codes "movable") (count s.movable)
    (member (codes "read_elsewhere") (count s.read_elsewhere)
    (member (codes "too_long") too_long no_members))))))))

-- the same, where those are counted under a bound alone
abbrev pub staying_data : Staying → Data
staying_data s = staying_with s (or_null count s.too_long)

-- what each frame of `backward` did, and how many frames `enables` took
abbrev pub frames_data : Report → Data
frames_data (OfBackward frames staying is_shown) = array_of backward_frame_data frames.items
frames_data (OfEnables frames refused) = count frames

-- why no more latches go, as `backward` tells it
abbrev pub held_back_data : Report → Data
held_back_data (OfBackward frames staying is_shown) = staying_data staying
held_back_data (OfEnables frames refused) = null

-- whether nothing was found that the judge refused
abbrev pub is_shown : Report → Bool
is_shown (OfBackward frames staying shown) = shown
is_shown (OfEnables frames refused) = nat_eq refused 0

-- what the written circuit has and what the one had that was read, the bound, each frame, and why
-- no more latches go. Then what the map has, and whether nothing was found that the judge refused.
abbrev pub moves_data : Moving → Answer → Counts → Data
moves_data task answer after =
    object (member (codes "after") (circuit_data after)
    (member (codes "before") (circuit_data answer.before)
    (member (codes "bound") (or_null count (reported_bound task.options.bound answer.before))
    (member (codes "command") (string (move_name task.kind))
    (member (codes "frames") (frames_data answer.moved.report)
    (member (codes "held_back") (held_back_data answer.moved.report)
    (member (codes "map") (map_data_for task.map answer.moved.map)
    (member (codes "shown") (boolean (is_shown answer.moved.report))
    (member (codes "status") (count 0) no_members)))))))))

-- how printing it ends, as an object of JSON where that is asked for, else in lines
abbrev pub EndsPrintingMoves : Bool → Moving → Answer → Output → Output → Result Outcome Failure → Type 0
EndsPrintingMoves true task answer old new result = EndsPrintingObject Done (moves_data task answer (counts answer.moved.circuit)) old new result
EndsPrintingMoves false task answer old new result = EndsPrinting Done (moves_text answer) old new result

-- so it was printed where nobody asks how that ended
pub record SaysMoves (task : Moving) (answer : Answer) (old new : Output) : Type 0 where
  pub ended : Result Outcome Failure
  pub prints : EndsPrintingMoves task.json task answer old new ended
