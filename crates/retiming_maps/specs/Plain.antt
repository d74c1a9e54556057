-- Circuits that a map of states is.
use Rattle.std.specs.Prelude.{◌≡◌, []}
use Rattle.aig_graph.specs.Circuits.{IsNetlist, Netlist}

-- a circuit whose properties are outputs and constraints alone
pub record IsPlainMap (m : Netlist) : Type 0 where
  pub netlist : IsNetlist m
  pub bad : m.props.bad ≡ []
  pub justice : m.props.justice ≡ []
  pub fairness : m.props.fairness ≡ []
