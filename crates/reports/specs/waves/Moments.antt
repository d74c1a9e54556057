-- Waves of a circuit that is simulated while they are written.
use Rattle.std.specs.Prelude.{ℕ, ◌+◌, ◌-◌, ◌/◌, ◌%◌, ◌<◌, ◌≤◌, ◌≡◌, min, Bool, List, length, Option, None, map, nat_lt, slice_get, if◌then◌else◌}
use Rattle.std.specs.List.{slice_index_or}
use Rattle.aig_graph.specs.Circuits.{AreLiteralsOf, Netlist}
use Rattle.aig_graph.specs.Graph.{Graph}
use Rattle.aig_graph.specs.Streams.{property_literals}
use Rattle.lane_sim.specs.declared.steps.State.{State}
use Rattle.lane_sim.specs.declared.stimulus.InputSequence.{InputSequence}
use Rattle.lane_sim.specs.Blocks.{block_of}
use Rattle.lane_sim.specs.Steps.{AreAt, AreFor, HoldsAt, IsStateFor}
use Rattle.lane_sim.specs.Traces.{trace, value_in}
use Rattle.reports.specs.declared.waves.moment.Moment.{Moment}
use Rattle.reports.specs.declared.waves.room.WaveRoom.{WaveRoom}

-- the value of the literal at a place, at a time of a sequence, if that has the step and there is
-- such a literal
abbrev pub shown_of : Graph → InputSequence → List ℕ → ℕ → ℕ → Option Bool
shown_of g s literals time place = if nat_lt time (length s.steps) then slice_get (map (value_in g s time) literals) place else None

-- the trace whose values are dumped
abbrev pub trace_of : Moment → List (List (List Bool))
trace_of m = trace m.circuit.now m.sequences.now

-- the literals are those of the circuit's properties, and the values are those of a block, at the
-- time and at the one before
pub record IsMoment (number : ℕ) (m : Moment) : Type 0 where
  pub literals : m.literals.now ≡ property_literals m.circuit.now.props
  pub inside : AreLiteralsOf m.circuit.now.aig m.literals.now
  pub before : AreAt m.circuit.now.aig (block_of m.sequences.now number) m.before.now (m.time - 1)
  pub values : AreAt m.circuit.now.aig (block_of m.sequences.now number) m.values.now m.time

-- the number of blocks of n sequences
abbrev pub blocks : ℕ → ℕ
blocks n = n / 256 + min 1 (n % 256)

-- room for a circuit under sequences, if the states of the blocks below n are as Done says, and the
-- others as Waiting does
pub record HasStates (c : Netlist) (sequences : List InputSequence) (Done Waiting : ℕ → State → Type 0) (n : ℕ) (room : WaveRoom) : Type 0 where
  pub literals : room.literals.items ≡ property_literals c.props
  pub before : AreFor c.aig room.before
  pub values : AreFor c.aig room.values
  pub many : length room.states.items ≡ blocks (length sequences)
  pub done : (b : ℕ) (d : State) → b < n → b < length room.states.items → Done b (slice_index_or room.states.items b d)
  pub waiting : (b : ℕ) (d : State) → n ≤ b → b < length room.states.items → Waiting b (slice_index_or room.states.items b d)

-- there is room
abbrev pub HasRoom : Netlist → ℕ → State → Type 0
HasRoom c b state = IsStateFor c.aig state

-- the state of a block is that at a step
abbrev pub IsAt : Netlist → List InputSequence → ℕ → ℕ → State → Type 0
IsAt c sequences t b state = HoldsAt c.aig (block_of sequences b) state t

-- room for the waves of a circuit under sequences
abbrev pub IsWaveRoomFor : Netlist → List InputSequence → WaveRoom → Type 0
IsWaveRoomFor c sequences room = HasStates c sequences (HasRoom c) (HasRoom c) 0 room

-- that room, if the latches of all blocks hold what they do at a step
abbrev pub IsRoomAt : Netlist → List InputSequence → ℕ → WaveRoom → Type 0
IsRoomAt c sequences t room = HasStates c sequences (IsAt c sequences t) (IsAt c sequences t) 0 room
