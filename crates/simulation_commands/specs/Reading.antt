-- Two circuits that are read.
use Rattle.counted_io.specs.Input.{Input}
use Rattle.counted_io.specs.declared.source.Source.{Source}
use Rattle.command_endings.specs.Sources.{IsCircuitAt}
use Rattle.simulation_commands.specs.declared.reading.Pair.{Pair}

-- both circuits are read in this order
pub record ArePair (first second : Source) (before after : Input) (pair : Pair) : Type 0 where
  pub between : Input
  pub read_first : IsCircuitAt first before between pair.first
  pub read_second : IsCircuitAt second between after pair.second
