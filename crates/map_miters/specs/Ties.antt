-- What says that free latches start alike.
use Rattle.std.specs.Prelude.{ℕ, ◌<◌, ◌≡◌, ◌↔◌, Bool, true, List, length, map, All, slice_get}
use Rattle.aig_graph.specs.Circuits.{AreLiteralsOf, Netlist}
use Rattle.aig_graph.specs.Graph.{Graph, is_free_latch}
use Rattle.aig_graph.specs.Value.{value_within}
use Rattle.state_maps.specs.States.{Digits, State}
use Rattle.map_miters.specs.Products.{IsTied, StartsAlike, product_resets}

-- h has the inputs of c, and a latch for each of both and for what tells the first step
pub record HasLatches (c d : Graph) (tied : Bool) (h : Graph) : Type 0 where
  pub inputs : h.inputs ≡ c.inputs
  pub latches : length h.latches ≡ length (product_resets c d tied)

-- the literals are 1 if and only if the free ones of the first n latches of d hold what the map
-- gives
pub record AreTies (h : Graph) (c d m : Netlist) (n : ℕ) (lits : List ℕ) : Type 0 where
  pub within : AreLiteralsOf h lits
  pub says : (z : Digits) (u : State) → All (λ l. value_within h z u l ≡ true) lits
      ↔ ((j : ℕ) → j < n → is_free_latch (slice_get d.aig.latches j) ≡ true → IsTied c m j u)

-- the constraints are 1 if and only if free latches start alike, if they are tied
pub record AreConstraints (h : Graph) (c d m : Netlist) (tied : Bool) (lits : List ℕ) : Type 0 where
  pub within : AreLiteralsOf h lits
  pub says : (z : Digits) (u : State) → All (λ b. b ≡ true) (map (value_within h z u) lits) ↔ StartsAlike c d m tied u
