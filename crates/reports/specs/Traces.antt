-- The text of a trace.
use Rattle.std.specs.Prelude.{ℕ, Bool, false, List, [], ◌∷◌, ◌++◌, length, map, get_or, if◌then◌else◌}
use Rattle.std.specs.List.{flat_map, range_with_len}

abbrev pub digit : Bool → ℕ
digit value = if value then 49 else 48

-- the line of a step: a colon, and a digit for each place
abbrev pub step_line : List Bool → List ℕ
step_line row = 58 ∷ (map digit row ++ 10 ∷ [])

-- the lines of a sequence: an equals sign, and the lines of its steps
abbrev pub sequence_lines : List (List Bool) → List ℕ
sequence_lines steps = 61 ∷ 10 ∷ flat_map step_line steps

-- the lines of all sequences
unfoldable pub trace_text : List (List (List Bool)) → List ℕ
trace_text t = flat_map sequence_lines t

-- ---- by number of sequence, step and place

abbrev pub digit_at : List (List (List Bool)) → ℕ → ℕ → ℕ → List ℕ
digit_at t sequence step place = digit (get_or (get_or (get_or t sequence []) step []) place false) ∷ []

unfoldable pub values_at : List (List (List Bool)) → ℕ → ℕ → List ℕ
values_at t sequence step = flat_map (digit_at t sequence step) (range_with_len 0 (length (get_or (get_or t sequence []) step [])))

unfoldable pub step_at : List (List (List Bool)) → ℕ → ℕ → List ℕ
step_at t sequence step = 58 ∷ (values_at t sequence step ++ 10 ∷ [])

unfoldable pub steps_at : List (List (List Bool)) → ℕ → List ℕ
steps_at t sequence = flat_map (step_at t sequence) (range_with_len 0 (length (get_or t sequence [])))

unfoldable pub sequence_at : List (List (List Bool)) → ℕ → List ℕ
sequence_at t sequence = 61 ∷ 10 ∷ steps_at t sequence

unfoldable pub sequences_at : List (List (List Bool)) → List ℕ
sequences_at t = flat_map (sequence_at t) (range_with_len 0 (length t))
