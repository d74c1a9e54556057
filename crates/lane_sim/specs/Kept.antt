-- The free latches of a circuit that another one has: the list of them, and the stimulus for the
-- other by that of the first.
use Rattle.std.specs.Prelude.{ℕ, ◌+◌, ◌-◌, ◌<◌, ◌++◌, ◌||◌, ◌==◌, List, [], ◌∷◌, Option, Some, None, Result, Ok, Err, All, length, map, nat_lt, nat_le, slice_get, if◌then◌else◌}
use Rattle.std.specs.List.Sorted.{IsStrictlyIncreasing}
use Rattle.file_words.specs.Answering.{◌>>=◌}
use Rattle.file_words.specs.Lines.{lines}
use Rattle.file_words.specs.Numbers.{number_of}
use Rattle.file_words.specs.Reading.{read_lines}
use Rattle.lane_sim.specs.Traces.{choice_of}
use Rattle.lane_sim.specs.declared.stimulus.InputSequence.{InputSequence}
use Rattle.lane_sim.specs.declared.fault.StimError.{StimError}
use Rattle.lane_sim.specs.declared.fault.StimError.TheVariants.{BadLine, Width}

-- the sequence for a circuit with these free latches alone: their values, and its steps
abbrev pub for_kept : List ℕ → InputSequence → InputSequence
for_kept kept s = record { choice = map (choice_of s) kept; steps = s.steps }

-- places among `free` free latches, rising
pub record ArePlaces (free : ℕ) (kept : List ℕ) : Type 0 where
  pub rising : IsStrictlyIncreasing kept
  pub below : All (λ place. place < free) kept

-- the least place that may follow
abbrev pub after_last : Option ℕ → ℕ
after_last None = 0
after_last (Some place) = place + 1

-- the least place that may follow
abbrev pub next_place : List ℕ → ℕ
next_place kept = after_last (slice_get kept (length kept - 1))

-- the places with one more, or the fault that it isn't one
abbrev pub with_place : ℕ → ℕ → List ℕ → Option ℕ → Result (List ℕ) StimError
with_place free at kept None = Err (BadLine at)
with_place free at kept (Some place) =
    if nat_le free place || nat_lt place (next_place kept) then Err (BadLine at) else Ok (kept ++ place ∷ [])

-- a line is the number of a place among `free` free latches, above the places before it
abbrev pub read_place : ℕ → ℕ → List ℕ → List ℕ → Result (List ℕ) StimError
read_place free at kept line = with_place free at kept (number_of line)

-- all places, if they are as many as the count
abbrev pub counted : ℕ → ℕ → List ℕ → Result (List ℕ) StimError
counted count end kept = if length kept == count then Ok kept else Err (Width end)

-- the places of a text, a line each, in the number of the count, or its first fault
abbrev pub read_kept : ℕ → ℕ → List ℕ → Result (List ℕ) StimError
read_kept free count bytes = read_lines (read_place free) 0 [] (lines bytes) >>= counted count (length bytes)
