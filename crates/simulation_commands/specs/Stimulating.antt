-- What circuits are simulated under.
use Rattle.std.specs.Prelude.{◌≡◌, false, List}
use Rattle.counted_io.specs.Input.{Input}
use Rattle.aig_graph.specs.Circuits.{Netlist}
use Rattle.aig_graph.specs.Graph.{free_latches}
use Rattle.lane_sim.specs.declared.stimulus.InputSequence.{InputSequence}
use Rattle.simulation_commands.specs.Random.{random_stimulus}
use Rattle.simulation_commands.specs.Room.{is_too_long}
use Rattle.command_line.specs.declared.task.Sequences.{Sequences}
use Rattle.command_line.specs.declared.task.Stimuli.{Stimuli}
use Rattle.command_line.specs.declared.task.Stimuli.TheVariants.{Read, Random}
use Rattle.command_endings.specs.Sources.{IsStimulusAt}

-- the random sequences that are asked for, with the widths of a circuit, which aren't too long for
-- it
pub record AreRandom (asked : Sequences) (c : Netlist) (found : List InputSequence) : Type 0 where
  pub short : is_too_long c asked.count asked.steps ≡ false
  pub are : found ≡ random_stimulus c.aig.inputs (free_latches c.aig) asked.count asked.steps asked.seed

-- the stimulus that is read, with the widths of the circuit, or random sequences, for which nothing
-- is read
abbrev pub AreStimuliAt : Stimuli → Netlist → Input → Input → List InputSequence → Type 0
AreStimuliAt (Read source) c old new found = IsStimulusAt source c.aig old new found
AreStimuliAt (Random asked) c old new found = (new ≡ old) × AreRandom asked c found
