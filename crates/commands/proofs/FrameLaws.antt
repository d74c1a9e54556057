-- How printing a retiming ends, by the form that is asked for.
use Rattle.std.proofs.Common.{◌≡◌, ℕ, Bool, true, List, Option, Result, length, nat_lt, sym, subst, ap}
use Rattle.std.specs.Prelude.{option_map}
use Rattle.reports.specs.RemainingCounts.{remaining}
use Rattle.counted_io.specs.Output.{Output}
use Rattle.merging_rounds.specs.declared.rounds.Rounds.{Rounds}
use Rattle.json_reports.specs.Retimings.{retiming_data}
use Rattle.json_reports.specs.declared.times.Times.{Times}
use Rattle.json_reports.specs.declared.counts.MapCounts.{MapCounts}
use Rattle.circuit_files.specs.declared.outcome.Outcome.{Outcome}
use Rattle.circuit_files.specs.declared.outcome.Outcome.TheVariants.{Done}
use Rattle.circuit_files.specs.declared.outcome.Failure.{Failure}
use Rattle.command_endings.specs.Objects.{EndsPrintingObject}
use Rattle.reports.specs.declared.remaining_counts.Remaining.{Remaining}
use Rattle.command_line.specs.declared.task.Retiming.{Retiming}
use Rattle.commands.specs.declared.answer.Answer.{Answer}
use Rattle.commands.specs.RetimingTasks.{EndsPrintingFrames, counts_of, remaining_of}

-- an object where it was asked for
pub frames_as_object : (json : Bool) (task : Retiming) (a : Answer) (times : Option Times) (old new : Output) (result : Result Outcome Failure)
    → json ≡ true → EndsPrintingFrames true task a times old new result → EndsPrintingFrames json task a times old new result
frames_as_object json task a times old new result asked p = subst (λ (j : Bool). EndsPrintingFrames j task a times old new result) (sym asked) p

-- by what is left of it, by the times that were taken, and by what its map has
pub object_of_frames : (task : Retiming) (a : Answer) (left : Remaining) (took times : Option Times) (mapped : Option MapCounts) (old new : Output) (result : Result Outcome Failure)
    → left ≡ remaining_of task a.levels.bound a.rounds a.keep → took ≡ times → mapped ≡ option_map counts_of a.map
    → EndsPrintingObject Done (retiming_data a.rounds a.levels left took mapped) old new result → EndsPrintingFrames true task a times old new result
object_of_frames task a left took times mapped old new result is same counted p =
    subst (λ (m : Option MapCounts). EndsPrintingObject Done (retiming_data a.rounds a.levels (remaining_of task a.levels.bound a.rounds a.keep) times m) old new result) counted
    (subst (λ (t : Option Times). EndsPrintingObject Done (retiming_data a.rounds a.levels (remaining_of task a.levels.bound a.rounds a.keep) t mapped) old new result) same
    (subst (λ (x : Remaining). EndsPrintingObject Done (retiming_data a.rounds a.levels x took mapped) old new result) is p))

-- what is left, by the number of frames
pub remaining_is : (task : Retiming) (bound : Option ℕ) (r : Rounds) (held : List ℕ) (frames : ℕ) → frames ≡ length r.frames
    → remaining r.circuit held bound (nat_lt frames task.options.frames) ≡ remaining_of task bound r held
remaining_is task bound r held frames many = ap (λ (n : ℕ). remaining r.circuit held bound (nat_lt n task.options.frames)) many
