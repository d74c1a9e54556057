-- The waves of what is simulated.
use Rattle.std.specs.Prelude.{ℕ, ◌≡◌, ◌⊎◌, Bool, true, false, List}
use Rattle.aig_graph.specs.Circuits.{Netlist}
use Rattle.lane_sim.specs.Traces.{trace}
use Rattle.simulation_commands.specs.Room.{is_too_long}
use Rattle.reports.specs.waves.Dumps.{waves_text}
use Rattle.reports.specs.waves.Moments.{IsWaveRoomFor}
use Rattle.reports.specs.waves.Names.{wave_names}
use Rattle.reports.specs.waves.Probes.{probed}
use Rattle.command_line.specs.declared.task.Simulation.{Simulation}
use Rattle.command_line.specs.declared.task.Stimuli.{Stimuli}
use Rattle.command_line.specs.declared.task.Stimuli.TheVariants.{Read, Random}
use Rattle.circuit_files.specs.declared.outcome.Failure.{Failure}
use Rattle.circuit_files.specs.declared.outcome.Failure.TheVariants as fails
use Rattle.command_endings.specs.HeldNames.{OfSource}
use Rattle.simulation_commands.specs.declared.dumping.Shown.{Shown}
use Rattle.simulation_commands.specs.declared.dumping.Waves.{Waves}
use Rattle.simulation_commands.specs.declared.simulation.Case.{Case}

-- the circuit that has the waves of a circuit as its outputs, with room for simulating it under the
-- stimulus
pub record IsShownOf (given : Case) (shown : Shown) : Type 0 where
  pub circuit : shown.circuit ≡ probed given.circuit
  pub room : IsWaveRoomFor (probed given.circuit) given.stimulus shown.room

-- the waves of a circuit under a stimulus: their names, and the circuit that has them as its
-- outputs
pub record AreWavesOf (given : Case) (waves : Waves) : Type 0 where
  pub names : waves.names ≡ wave_names given.circuit
  pub shown : IsShownOf given waves.shown

-- the dump of the waves of a circuit under a stimulus
abbrev pub dump_of : Case → List ℕ
dump_of given = waves_text (wave_names given.circuit) (trace (probed given.circuit) given.stimulus)

-- whether a trace of the circuit under random sequences takes too much memory; no stimulus that is
-- read does
abbrev pub are_too_long : Stimuli → Netlist → Bool
are_too_long (Read source) c = false
are_too_long (Random asked) c = is_too_long c asked.count asked.steps

-- why there is no trace of the circuit that has the waves as its outputs: it would take too much
-- memory, or memory is wanting
abbrev pub IsFailureToShow : Simulation → Netlist → Failure → Type 0
IsFailureToShow task shown failure = (failure ≡ fails.Memory) ⊎ ((are_too_long task.stimuli shown ≡ true) × OfSource task.input (λ path. failure ≡ fails.TooManySteps path))
