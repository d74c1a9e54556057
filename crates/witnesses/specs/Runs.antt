-- The input sequence of a witness.
use Rattle.std.specs.Prelude.{Bool, true, false, map, if◌then◌else◌}
use Rattle.aig_graph.specs.Graph.{Graph}
use Rattle.lane_sim.specs.declared.stimulus.InputSequence.{InputSequence}
use Rattle.witnesses.specs.declared.witness.Digit.{Digit}
use Rattle.witnesses.specs.declared.witness.Digit.TheVariants.{Zero, One, Either}
use Rattle.witnesses.specs.declared.witness.Witness.{Witness}
use Rattle.witnesses.specs.Carrying.{free_digits}

-- 0 is taken for either value
abbrev pub is_one : Digit → Bool
is_one Zero = false
is_one One = true
is_one Either = false

-- the value that is taken, as a digit
abbrev pub taken_digit : Digit → Digit
taken_digit d = if is_one d then One else Zero

-- a witness with the values that are taken: it has no x
abbrev pub settled_witness : Witness → Witness
settled_witness w = record { properties = w.properties; latches = map taken_digit w.latches; inputs = map (map taken_digit) w.inputs }

-- the input sequence with them
abbrev pub run_of : Graph → Witness → InputSequence
run_of g w = record { choice = map is_one (free_digits g.latches w.latches); steps = map (map is_one) w.inputs }
