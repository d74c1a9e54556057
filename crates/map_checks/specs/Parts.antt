-- What a step has to show, part by part, and what shows a part if some literals are 1.
use Rattle.std.specs.Prelude.{ℕ, ◌+◌, ◌≡◌, ◌++◌, Bool, true, false, List, [], length, map, replicate, All}
use Rattle.std.specs.List.{slice_index_or}
use Rattle.aig_graph.specs.Circuits.{Netlist}
use Rattle.aig_graph.specs.Gates.{AreOne, Gates, Respects}
use Rattle.aig_graph.specs.Streams.{property_literals}
use Rattle.state_maps.specs.States.{Digits, State}
use Rattle.state_maps.specs.MapCircuits.{is_kept}
use Rattle.gate_sharing.specs.Copies.{Copy, copy_of}
use Rattle.gate_sharing.specs.Equal.{Equal, IsRight}
use Rattle.map_checks.specs.Images.{Views, in_first, in_map_later, in_second_mapped, nexts_of}

-- how many parts there are: the constraints and outputs of the map, and the properties
abbrev pub parts : Netlist → Netlist → ℕ
parts d m = length m.props.constraints + length m.props.outputs + length (property_literals d.props)

-- what a step gives for each part: the constraints and the outputs of the map a step later, and the
-- properties of the second circuit
abbrev pub given : Netlist → Netlist → Netlist → Digits → State → List Bool
given c d m x s = map (in_map_later c m x s) m.props.constraints ++ map (in_map_later c m x s) m.props.outputs ++ map (in_second_mapped d m x s) (property_literals d.props)

-- what it must be: 1, what the latches of the second circuit hold a step later, and the properties
-- of the first circuit
abbrev pub wanted : Netlist → Netlist → Netlist → Digits → State → List Bool
wanted c d m x s = replicate (length m.props.constraints) true ++ map (in_second_mapped d m x s) (nexts_of d.aig.latches) ++ map (in_first c x s) (property_literals c.props)

-- a list of marks has one at a place
abbrev pub IsMarked : List Bool → ℕ → Type 0
IsMarked marks place = slice_index_or marks place false ≡ true

-- a part is what it must be wherever the map's constraints hold and these literals of the first
-- circuit are 1
abbrev pub IsShownWhere : Netlist → Netlist → Netlist → List ℕ → ℕ → Type 0
IsShownWhere c d m lits part = (x : Digits) (s : State) → is_kept m s → AreOne (in_first c x s) lits → slice_index_or (given c d m x s) part false ≡ slice_index_or (wanted c d m x s) part false

-- a mark for each part, and those that are marked are shown
pub record AreShownWhere (c d m : Netlist) (lits : List ℕ) (marks : List Bool) : Type 0 where
  pub long : length marks ≡ parts d m
  pub shown : (part : ℕ) → IsMarked marks part → IsShownWhere c d m lits part

-- the shared literals of the parts
abbrev pub given_literals : Netlist → Netlist → Copy → Copy → List ℕ
given_literals d m later after = map (copy_of later) m.props.constraints ++ map (copy_of later) m.props.outputs ++ map (copy_of after) (property_literals d.props)

-- For each part the literal that it is compared with. It is 1 for a constraint of the map. For a
-- latch it is that of the second circuit's next literal, for a property that of the first
-- circuit's.
abbrev pub wanted_literals : Netlist → Netlist → Netlist → Copy → Copy → List ℕ
wanted_literals c d m before after = replicate (length m.props.constraints) 1 ++ map (copy_of after) (nexts_of d.aig.latches) ++ map (copy_of before) (property_literals c.props)

-- Shared literals for the parts. If the constraints hold, they have the values of the parts, and
-- the substitute of a variable has its value.
pub record ArePairs (k : Gates) (e f : Equal) (c d m : Netlist) (lits others : List ℕ) : Type 0 where
  pub long : length lits ≡ parts d m
  pub as_long : length others ≡ parts d m
  pub right : (values : ℕ → Bool) (x : Digits) (s : State) → Views k e c.aig x s values → is_kept m s → IsRight f values
  pub lits_are : (values : ℕ → Bool) (x : Digits) (s : State) → Views k e c.aig x s values → is_kept m s → map values lits ≡ given c d m x s
  pub others_are : (values : ℕ → Bool) (x : Digits) (s : State) → Views k e c.aig x s values → is_kept m s → map values others ≡ wanted c d m x s

-- the literals at a place have one value
abbrev pub AreEqualAt : Gates → Equal → List ℕ → List ℕ → ℕ → Type 0
AreEqualAt k f lits others place = (values : ℕ → Bool) → Respects k values → IsRight f values → values (slice_index_or lits place 0) ≡ values (slice_index_or others place 0)

-- so have those at each place that is marked
abbrev pub AreMarkedEqual : Gates → Equal → List ℕ → List ℕ → List Bool → Type 0
AreMarkedEqual k f lits others marks = (place : ℕ) → IsMarked marks place → AreEqualAt k f lits others place

-- each pair has a mark, and those that are marked have one value
abbrev pub ArePairMarks : Gates → Equal → List ℕ → List ℕ → List Bool → Type 0
ArePairMarks k f lits others marks = (length marks ≡ length lits) × AreMarkedEqual k f lits others marks

-- if these literals of the first circuit are 1, the substitute of a variable has its value
abbrev pub AssumesCase : Gates → Netlist → List ℕ → Equal → Equal → Type 0
AssumesCase k c lits e f = (values : ℕ → Bool) (x : Digits) (s : State) → Views k e c.aig x s values → AreOne (in_first c x s) lits → IsRight f values

-- cases that are to be asked yet, and marks: a part that is marked is shown if each of these cases
-- shows it
pub record IsTree (c d m : Netlist) (pending : List (List ℕ)) (marks : List Bool) : Type 0 where
  pub long : length marks ≡ parts d m
  pub covers : (part : ℕ) → IsMarked marks part → All (λ lits. IsShownWhere c d m lits part) pending → IsShownWhere c d m [] part
