-- What the routes of a greatest flow show.
use Rattle.std.specs.Prelude.{◌≡◌, ℕ, All, List, [], ◌∷◌, length}
use Rattle.std.specs.List.{AllByRecursion}
use Rattle.aig_graph.specs.Circuits.{Netlist}
use Rattle.aig_graph.specs.Move.{move_of}
use Rattle.aig_graph.specs.Border.{border_size, IsLeast, IsSmallestLeast}
use Rattle.aig_graph.specs.Chosen.{IsChosen}
use Rattle.aig_graph.specs.declared.choice.Choice.{Choice}
use Rattle.frame_net.specs.FlowNet.{FlowNet}
use Rattle.frame_net.specs.declared.net.Point.{Point}
use Rattle.frame_net.specs.Cuts.{IsNetworkOf}
use Rattle.certificates.specs.Verdicts.{AreRoutes, AreApart}

-- no point stands twice in the list
abbrev pub HasNoPointTwice : List Point → Type 0
HasNoPointTwice [] = Unit {0}
HasNoPointTwice (p ∷ rest) = AllByRecursion (λ q. p ≡ q → ⊥) rest × HasNoPointTwice rest

-- routes that are apart, none with a point twice, as many as a least set's border has variables
pub record AreLeastRoutes (c : Netlist) (held : List ℕ) (routes : List (List Point)) : Type 0 where
  pub right : AreRoutes c held routes
  pub apart : AreApart routes
  pub once : All HasNoPointTwice routes
  pub count : (gates : List ℕ) → IsLeast c held gates → border_size (move_of c held gates) ≡ length routes

-- least routes of each circuit and held latches with this network
abbrev pub AreLeastRoutesOf : FlowNet → List (List Point) → Type 0
AreLeastRoutesOf net routes = (c : Netlist) (held : List ℕ) → IsNetworkOf c held net → AreLeastRoutes c held routes

-- s is the smallest least set of each circuit and held latches with this network and these least
-- routes
abbrev pub IsSmallestLeastBy : FlowNet → List (List Point) → List ℕ → Type 0
IsSmallestLeastBy net routes s = (c : Netlist) (held : List ℕ) → IsNetworkOf c held net → AreLeastRoutes c held routes → IsSmallestLeast c held s

-- s is the chosen set of each circuit and held latches whose network this is
abbrev pub IsChosenOf : Choice → FlowNet → List ℕ → Type 0
IsChosenOf choice net s = (c : Netlist) (held : List ℕ) → IsNetworkOf c held net → IsChosen choice c held s
