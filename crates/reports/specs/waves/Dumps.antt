-- Waves as text: a value change dump (IEEE 1364).
use Rattle.std.specs.Prelude.{ℕ, zero, suc, ◌-◌, ◌==◌, ◌||◌, not, max, Bool, true, false, List, [], ◌∷◌, ◌++◌, length, get_or, decimal, codes, Option, Some, None, if◌then◌else◌}
use Rattle.std.specs.List.{flat_map, range_with_len}
use Rattle.std.specs.Str.{byte}
use Rattle.counted_io.specs.Line.{numbered_lines}
use Rattle.lane_sim.specs.Traces.{at_place}

-- what a value is written as: a digit, or an x after the last step of a sequence
abbrev pub value_character : Option Bool → ℕ
value_character None = byte "x"
value_character (Some false) = byte "0"
value_character (Some true) = byte "1"

-- of a wave at a time, which is the number of a step
abbrev pub value_character_at : List (List (List Bool)) → ℕ → ℕ → ℕ → ℕ
value_character_at trace sequence time place = value_character (at_place trace sequence time place)

-- the code of a wave: the numbers of its sequence and of its place
unfoldable pub code : ℕ → ℕ → List ℕ
code sequence place = byte "v" ∷ (decimal sequence ++ (byte "." ∷ decimal place))

-- ---- declarations

unfoldable pub wave_line : ℕ → ℕ → List ℕ → List ℕ
wave_line sequence place name = codes "$var wire 1 " ++ (code sequence place ++ (32 ∷ (name ++ codes " $end\n")))

-- each sequence is a scope, which has all waves
unfoldable pub scope_text : List (List ℕ) → ℕ → List ℕ
scope_text names sequence =
    codes "$scope module sequence" ++ (decimal sequence ++ (codes " $end\n" ++ (numbered_lines (wave_line sequence) 0 names ++ codes "$upscope $end\n")))

-- the declarations of a dump
unfoldable pub dump_header : List (List ℕ) → ℕ → List ℕ
dump_header names sequences = codes "$timescale 1 ns $end\n" ++ (flat_map (scope_text names) (range_with_len 0 sequences) ++ codes "$enddefinitions $end\n")

-- ---- values

unfoldable pub value_line : ℕ → ℕ → ℕ → List ℕ
value_line sequence place value = value ∷ (code sequence place ++ 10 ∷ [])

-- a value is written at the start, and if it changes
abbrev pub is_dumped : List (List (List Bool)) → ℕ → ℕ → ℕ → Bool
is_dumped trace sequence time place = time == 0 || not (value_character_at trace sequence (time - 1) place == value_character_at trace sequence time place)

-- the line of a value that is dumped at this time, if it is
unfoldable pub value_at : List (List (List Bool)) → ℕ → ℕ → ℕ → List ℕ
value_at trace time sequence place = if is_dumped trace sequence time place then value_line sequence place (value_character_at trace sequence time place) else []

-- those of a sequence with n waves, and of all sequences
unfoldable pub values_of : List (List (List Bool)) → ℕ → ℕ → ℕ → List ℕ
values_of trace places time sequence = flat_map (value_at trace time sequence) (range_with_len 0 places)

unfoldable pub values : List (List (List Bool)) → ℕ → ℕ → List ℕ
values trace places time = flat_map (values_of trace places time) (range_with_len 0 (length trace))

-- all values at the start
unfoldable pub dump_start : List (List (List Bool)) → ℕ → List ℕ
dump_start trace places = codes "#0\n$dumpvars\n" ++ (values trace places 0 ++ codes "$end\n")

-- a time, and what changes at it
unfoldable pub time_text : List (List (List Bool)) → ℕ → ℕ → List ℕ
time_text trace places time = byte "#" ∷ (decimal time ++ (10 ∷ values trace places time))

-- the steps of the longest of the first n sequences
abbrev pub longest_of : List (List (List Bool)) → ℕ → ℕ
longest_of trace zero = 0
longest_of trace (suc n) = max (longest_of trace n) (length (get_or trace n []))

abbrev pub longest : List (List (List Bool)) → ℕ
longest trace = longest_of trace (length trace)

-- the times of all steps but the first, and the one at which the longest sequence ends
unfoldable pub later_times : List (List (List Bool)) → ℕ → List ℕ
later_times trace places = flat_map (time_text trace places) (range_with_len 1 (longest trace))

-- the dump of waves with these names and values
unfoldable pub waves_text : List (List ℕ) → List (List (List Bool)) → List ℕ
waves_text names trace = dump_header names (length trace) ++ (dump_start trace (length names) ++ later_times trace (length names))
