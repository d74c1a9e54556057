-- A product machine, as it is put together.
use Rattle.std.specs.Prelude.{◌≡◌, ◌↔◌, Bool, true, false, IsTrue, map, All}
use Rattle.aig_graph.specs.declared.properties.Props.{Props}
use Rattle.aig_graph.specs.Circuits.{ArePropsOf, Netlist, no_symbols}
use Rattle.aig_graph.specs.Graph.{Graph}
use Rattle.aig_graph.specs.Value.{value_within}
use Rattle.state_maps.specs.States.{Digits, State}
use Rattle.witness_circuits.specs.Witnesses.{bad_states}
use Rattle.map_miters.specs.declared.products.Built.{Built}
use Rattle.map_miters.specs.declared.products.Wanted.{Wanted}
use Rattle.map_miters.specs.declared.goals.Goal.{Goal}
use Rattle.map_miters.specs.Products.{AreTied, GoesBeside, StartsAlike, good_of}

-- what the constraint and the bad state say
pub record AreProductProps (h : Graph) (wanted : Wanted) (c d m : Netlist) (p : Props) : Type 0 where
  pub within : ArePropsOf h p
  pub allowed : (z : Digits) (u : State) → All (λ b. b ≡ true) (map (value_within h z u) p.constraints) ↔ StartsAlike c d m wanted.tied u
  pub good : (z : Digits) (u : State) → All (λ b. b ≡ false) (map (value_within h z u) (bad_states p)) ↔ good_of wanted.goal c d m z u

-- a graph whose latches go on as those of both, and its properties
pub record IsFilled (h : Graph) (wanted : Wanted) (c d m : Netlist) (p : Props) : Type 0 where
  pub beside : GoesBeside c.aig d.aig wanted.tied h
  pub props : AreProductProps h wanted c d m p

-- the circuit of this graph and these properties, without names
abbrev pub netlist_of : Built → Netlist
netlist_of b = record { aig = b.gates; props = b.props; symbols = no_symbols }

-- built for some goal, if free latches are tied
pub record IsBuilt (goal : Goal) (c d m : Netlist) (b : Built) : Type 0 where
  pub tied : Bool
  pub ties : IsTrue tied ↔ AreTied c d m
  pub filled : IsFilled b.gates (record { goal = goal; tied = tied }) c d m b.props
