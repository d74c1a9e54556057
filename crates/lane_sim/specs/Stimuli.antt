-- The text of a stimulus.
use Rattle.std.specs.Prelude.{ℕ, ◌^◌, ◌==◌, ◌||◌, Bool, ◌++◌, List, [], ◌∷◌, length, map, Result, Ok, Err, if◌then◌else◌}
use Rattle.std.specs.List.{list_all}
use Rattle.file_words.specs.Lines.{lines}
use Rattle.file_words.specs.Reading.{read_lines}
use Rattle.lane_sim.specs.declared.stimulus.InputSequence.{InputSequence}
use Rattle.lane_sim.specs.declared.fault.StimError.{StimError}
use Rattle.lane_sim.specs.declared.fault.StimError.TheVariants.{BadLine, Width, TooMany}

abbrev pub is_digit : ℕ → Bool
is_digit b = b == 48 || b == 49

-- the values that digits spell
abbrev pub values_of : List ℕ → List Bool
values_of digits = map (λ b. b == 49) digits

-- one more sequence, which has no step yet
abbrev pub begun : List InputSequence → List Bool → List InputSequence
begun sequences choice = sequences ++ record { choice = choice; steps = [] } ∷ []

-- one more step of the last sequence
unfoldable pub continued : List InputSequence → List Bool → List InputSequence
continued [] row = []
continued (s ∷ []) row = record { choice = s.choice; steps = s.steps ++ row ∷ [] } ∷ []
continued (s ∷ r ∷ more) row = s ∷ continued (r ∷ more) row

-- the sequences after a line that begins one, or its fault
abbrev pub begin : ℕ → ℕ → List InputSequence → List ℕ → Result (List InputSequence) StimError
begin free at sequences digits =
    if length digits == free then (if length sequences == 2 ^ 20 then Err (TooMany at) else Ok (begun sequences (values_of digits))) else Err (Width at)

-- the sequences after a line that is a step, or its fault
abbrev pub step : ℕ → ℕ → List InputSequence → List ℕ → Result (List InputSequence) StimError
step inputs at sequences digits =
    if length sequences == 0 then Err (BadLine at) else (if length digits == inputs then Ok (continued sequences (values_of digits)) else Err (Width at))

-- the sequences after any line: `=` begins a sequence, `:` is a step, and only digits may follow
abbrev pub read_line : ℕ → ℕ → ℕ → List InputSequence → List ℕ → Result (List InputSequence) StimError
read_line inputs free at sequences [] = Err (BadLine at)
read_line inputs free at sequences (kind ∷ digits) =
    if list_all is_digit digits
    then (if kind == 61 then begin free at sequences digits else (if kind == 58 then step inputs at sequences digits else Err (BadLine at)))
    else Err (BadLine at)

-- the sequences of a text, or its first fault
abbrev pub read_text : ℕ → ℕ → List ℕ → Result (List InputSequence) StimError
read_text inputs free bytes = read_lines (read_line inputs free) 0 [] (lines bytes)
