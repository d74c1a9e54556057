-- By either choice there is one chosen set.
use Rattle.std.proofs.Common.{ℕ, ◌≡◌, List}
use Rattle.aig_graph.specs.Circuits.{Netlist}
use Rattle.aig_graph.specs.Border.{IsLeast}
use Rattle.aig_graph.proofs.SetLaws.{at_most_one}
use Rattle.aig_graph.specs.declared.choice.Choice.{Choice}
use Rattle.aig_graph.specs.declared.choice.Choice.TheVariants.{Greatest, Smallest}
use Rattle.aig_graph.specs.Chosen.{IsChosen}

-- a chosen set is a least one, by either choice
pub chosen-least : (choice : Choice) (c : Netlist) (held s : List ℕ) → IsChosen choice c held s → IsLeast c held s
chosen-least Greatest c held s greatest = greatest.least
chosen-least Smallest c held s smallest = smallest.least

-- two sets that are chosen by one choice are one
pub chosen-one : (choice : Choice) (c : Netlist) (held s r : List ℕ) → IsChosen choice c held s → IsChosen choice c held r → s ≡ r
chosen-one Greatest c held s r p q = (at_most_one c held s r).greatest p q
chosen-one Smallest c held s r p q = (at_most_one c held s r).smallest p q
