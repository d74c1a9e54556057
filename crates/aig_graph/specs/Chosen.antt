-- The least set that a choice takes.
use Rattle.std.specs.Prelude.{ℕ, ◌≡◌, List}
use Rattle.aig_graph.specs.Circuits.{Netlist}
use Rattle.aig_graph.specs.Border.{IsLeast, IsGreatestLeast, IsSmallestLeast}
use Rattle.aig_graph.specs.declared.choice.Choice.{Choice}
use Rattle.aig_graph.specs.declared.choice.Choice.TheVariants.{Greatest, Smallest}

-- the least set that holds every least set, or the one that lies in every least set
abbrev pub IsChosen : Choice → Netlist → List ℕ → List ℕ → Type 0
IsChosen Greatest c held s = IsGreatestLeast c held s
IsChosen Smallest c held s = IsSmallestLeast c held s

-- it is a least set, and there is at most one
pub record ChosenLaw (choice : Choice) (c : Netlist) (held s r : List ℕ) : Type 0 where
  pub least : IsChosen choice c held s → IsLeast c held s
  pub one : IsChosen choice c held s → IsChosen choice c held r → s ≡ r
