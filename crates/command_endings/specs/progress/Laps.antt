-- The parts of a run, and what a report says of the time that each took.
use Rattle.std.specs.Prelude.{ℕ, ◌≡◌, ◌==◌, ◌+◌, ◌-◌, ◌/◌, ◌^◌, ◌++◌, min, Bool, false, Option, Some, None, List, [], ◌∷◌, slice_get, if◌then◌else◌}
use Rattle.std.specs.Option.{option_to_list}
use Rattle.std.specs.Time.{instant_nanos}
use Rattle.frame_runs.specs.declared.watcher.Stage.{Stage}
use Rattle.frame_runs.specs.declared.watcher.Stage.TheVariants as stages
use Rattle.json_reports.specs.declared.times.FrameTimes.{FrameTimes}
use Rattle.json_reports.specs.declared.times.Times.{Times}
use Rattle.command_endings.specs.declared.progress.laps.Lap.{Lap}
use Rattle.command_endings.specs.declared.progress.laps.Part.{Part}
use Rattle.command_endings.specs.declared.progress.laps.Part.TheVariants.{Reading, Cleaning, Looking, Moving, Writing}
use Rattle.command_endings.specs.declared.progress.stopwatch.Stopwatch.{Stopwatch}

-- the part that begins with a stage; reading goes before all stages
abbrev pub part_of : Stage → Part
part_of stages.Cleaning = Cleaning
part_of (stages.Looking taken aig) = Looking
part_of stages.Moving = Moving
part_of stages.Writing = Writing

-- the place that a variable was given
abbrev pub place_of : Part → ℕ
place_of Reading = 0
place_of Cleaning = 1
place_of Looking = 2
place_of Moving = 3
place_of Writing = 4

-- whether two parts of a run are one
abbrev pub is_part : Part → Part → Bool
is_part part other = place_of part == place_of other

-- whole microseconds of nanoseconds, 2^64 - 1 at most
abbrev pub microseconds_of : ℕ → ℕ
microseconds_of nanos = min (nanos / 1000) (2 ^ 64 - 1)

-- how long a part took that is of this kind; one of another kind counts for nothing
abbrev pub time_of : Part → Lap → ℕ
time_of part lap = if is_part lap.part part then lap.microseconds else 0

-- how long all parts of this kind took together
unfoldable pub total_in : Part → List Lap → ℕ
total_in part [] = 0
total_in part (lap ∷ laps) = time_of part lap + total_in part laps

-- that, 2^64 - 1 at most
abbrev pub time_in : Part → List Lap → ℕ
time_in part laps = min (total_in part laps) (2 ^ 64 - 1)

-- how long latches moved in a part, if there is one
abbrev pub moving_of : Option Lap → ℕ
moving_of None = 0
moving_of (Some lap) = time_of Moving lap

-- how long latches moved, if they did first
abbrev pub moving_first : List Lap → ℕ
moving_first laps = moving_of (slice_get laps 0)

-- if a set was looked for, how long that took, and moving over it next
abbrev pub look_of : Lap → List Lap → Option FrameTimes
look_of lap rest = if is_part lap.part Looking then Some (record { looking = lap.microseconds; moving = moving_first rest }) else None

-- that of each circuit of which a set was looked for
unfoldable pub frames_in : List Lap → List FrameTimes
frames_in [] = []
frames_in (lap ∷ laps) = option_to_list (look_of lap laps) ++ frames_in laps

-- what was measured of a run of these parts, in which networks found n sets
abbrev pub times_of : ℕ → List Lap → Times
times_of networks laps = record { reading = time_in Reading laps; cleaning = time_in Cleaning laps; frames = frames_in laps; writing = time_in Writing laps; networks = networks }

-- The part that went on has ended at the time that the clock told. Its time is the last one, and
-- the next one is counted from there.
pub record EndsPart (old new : Stopwatch) : Type 0 where
  pub laps : new.laps.items ≡ old.laps.items ++ record { part = old.part; microseconds = microseconds_of (instant_nanos new.since - instant_nanos old.since) } ∷ []

-- if the clock was read and there was memory, so far and now
abbrev pub IsEnded : Stopwatch → Stopwatch → Type 0
IsEnded old new = new.has_failed ≡ false → EndsPart old new

-- the last part has ended so, and these are the times of all parts, with the number of sets that
-- networks found
pub record IsStopped (watch : Stopwatch) (times : Times) : Type 0 where
  pub last : Stopwatch
  pub ended : EndsPart watch last
  pub told : times ≡ times_of watch.networks last.laps.items
