-- The lines that a check of a map prints.
use Rattle.std.specs.Prelude.{ℕ, List, [], ◌∷◌, ◌++◌, decimal, codes}
use Rattle.map_checks.specs.declared.answer.Obligation.{Obligation}
use Rattle.map_checks.specs.declared.answer.Obligation.TheVariants.{ConstraintAtReset, LatchAtReset, Constraint, Latch, Output, Bad, Invariant, Justice, Fairness}

-- which question is open: of step 0, of the constraints a step later, of the latches a step later,
-- or of the properties
abbrev pub question_of : Obligation → List ℕ
question_of (ConstraintAtReset place) = codes "reset"
question_of (LatchAtReset place) = codes "reset"
question_of (Constraint place) = codes "keep"
question_of (Latch place) = codes "next"
question_of (Output place) = codes "read"
question_of (Bad place) = codes "read"
question_of (Invariant place) = codes "read"
question_of (Justice place) = codes "read"
question_of (Fairness place) = codes "read"

-- of what
abbrev pub kind_of_obligation : Obligation → List ℕ
kind_of_obligation (ConstraintAtReset place) = codes "constraint"
kind_of_obligation (LatchAtReset place) = codes "latch"
kind_of_obligation (Constraint place) = codes "constraint"
kind_of_obligation (Latch place) = codes "latch"
kind_of_obligation (Output place) = codes "output"
kind_of_obligation (Bad place) = codes "bad"
kind_of_obligation (Invariant place) = codes "constraint"
kind_of_obligation (Justice place) = codes "justice"
kind_of_obligation (Fairness place) = codes "fairness"

-- its place among those of its kind
abbrev pub place_of_obligation : Obligation → ℕ
place_of_obligation (ConstraintAtReset place) = place
place_of_obligation (LatchAtReset place) = place
place_of_obligation (Constraint place) = place
place_of_obligation (Latch place) = place
place_of_obligation (Output place) = place
place_of_obligation (Bad place) = place
place_of_obligation (Invariant place) = place
place_of_obligation (Justice place) = place
place_of_obligation (Fairness place) = place

-- the line that says which obligation is open
unfoldable pub obligation_text : Obligation → List ℕ
obligation_text obligation =
    codes "not shown: " ++ (question_of obligation ++ (codes " " ++ (kind_of_obligation obligation ++ (codes " " ++ (decimal (place_of_obligation obligation) ++ 10 ∷ [])))))

-- the line of a retiming
abbrev pub retiming_line : List ℕ
retiming_line = codes "retiming" ++ 10 ∷ []

-- the line of circuits that are compared without a map, and are equal
abbrev pub equal_line : List ℕ
equal_line = codes "equal" ++ 10 ∷ []
