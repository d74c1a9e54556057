-- The circuits that a command about maps reads.
use Rattle.counted_io.specs.Input.{Input}
use Rattle.counted_io.specs.declared.source.Source.{Source}
use Rattle.command_endings.specs.Sources.{IsCircuitAt}
use Rattle.simulation_commands.specs.Reading.{ArePair}
use Rattle.map_commands.specs.declared.given.Mapped.{Mapped}

-- both circuits are read, and then the map
pub record AreReadWithMap (input retimed map : Source) (before after : Input) (mapped : Mapped) : Type 0 where
  pub circuits : Input
  pub pair : ArePair input retimed before circuits mapped.pair
  pub mapping : IsCircuitAt map circuits after mapped.map
