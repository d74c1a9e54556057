-- What is shown of a run.
use Rattle.std.specs.Prelude.{ℕ, List, [], ◌∷◌, ◌++◌, Option, Some, None, decimal, codes}
use Rattle.command_endings.specs.declared.progress.lines.Frame.{Frame}
use Rattle.command_endings.specs.declared.progress.lines.State.{State}
use Rattle.command_endings.specs.declared.progress.lines.State.TheVariants.{Cleaning, Looking, Moving, Checking, Writing}

-- the seconds since the beginning, if a clock told them
abbrev pub seconds_text : Option ℕ → List ℕ
seconds_text None = []
seconds_text (Some seconds) = codes ", seconds " ++ decimal seconds

-- which frame it is, what is done of it, and in how many known latches and gates
abbrev pub frame_text : List ℕ → Frame → List ℕ
frame_text doing frame =
    codes "frame " ++ decimal frame.number ++ codes ": " ++ doing ++ codes "known latches " ++ decimal frame.latches ++ codes ", gates " ++ decimal frame.gates

-- a frame that a set is looked for in, and the seconds, as a line
abbrev pub frame_line : Frame → Option ℕ → List ℕ
frame_line frame seconds = frame_text [] frame ++ seconds_text seconds ++ 10 ∷ []

-- what a run does
abbrev pub state_text : State → List ℕ
state_text Cleaning = codes "cleaning"
state_text (Looking frame) = frame_text (codes "looking, ") frame
state_text (Moving frame) = frame_text (codes "moving, ") frame
state_text Checking = codes "checking"
state_text Writing = codes "writing"

-- to the beginning of the line, which is cleared
abbrev pub cleared : List ℕ
cleared = 13 ∷ 27 ∷ codes "[K"

-- from here on the terminal cuts a line at its width, or goes on in the next
abbrev pub cut_at_width : List ℕ
cut_at_width = 27 ∷ codes "[?7l"

-- what makes a terminal wrap lines again
abbrev pub wrap_at_width : List ℕ
wrap_at_width = 27 ∷ codes "[?7h"

-- what a run does, and the seconds, in the place of what the line shows
abbrev pub state_in_place : State → Option ℕ → List ℕ
state_in_place state seconds = cleared ++ cut_at_width ++ state_text state ++ seconds_text seconds ++ wrap_at_width
