-- Graphs of numbers, as far as their shape goes. Their latches and gates are looked at as a whole.
use Rattle.std.specs.Prelude.{ℕ, ◌+◌, ◌<◌, ◌≡◌, List, length, All}
use Rattle.aig_graph.specs.declared.graph.Reset.{Reset}
use Rattle.aig_graph.specs.declared.graph.Reset.TheVariants.{Zero, One, Free}
use Rattle.aig_graph.specs.declared.properties.Props.{Props}
use Rattle.aig_graph.specs.Graph.{Graph, IsGraph, variable}
use Rattle.aig_graph.specs.Mapped.{mapped_props}
use Rattle.backward_sets.specs.declared.drafts.DraftReset.{DraftReset}
use Rattle.backward_sets.specs.declared.drafts.DraftReset.TheVariants as draft
use Rattle.cleaned_circuits.specs.Merged.{replaced}

-- the value of a draft's latch at step 0: 0 if it may have either value
abbrev pub reset_of : DraftReset → Reset
reset_of draft.Zero = Zero
reset_of draft.One = One
reset_of draft.Free = Free
reset_of draft.Any = Zero

-- n gates more, and the inputs and latches as they were
pub record IsGrown (g : Graph) (n : ℕ) (h : Graph) : Type 0 where
  pub inputs : h.inputs ≡ g.inputs
  pub latches : h.latches ≡ g.latches
  pub gates : length h.gates ≡ length g.gates + n

-- the latches may have other next literals
pub record IsWired (g h : Graph) : Type 0 where
  pub inputs : h.inputs ≡ g.inputs
  pub latches : length h.latches ≡ length g.latches
  pub gates : h.gates ≡ g.gates

-- a graph with these numbers of inputs, latches and gates
pub record IsSealed (inputs latches gates : ℕ) (g : Graph) : Type 0 where
  pub graph : IsGraph g
  pub inputs_are : g.inputs ≡ inputs
  pub latches_are : length g.latches ≡ latches
  pub gates_are : length g.gates ≡ gates

-- a literal for each variable before n, each of a variable below the end
pub record AreStanding (n end : ℕ) (stands : List ℕ) : Type 0 where
  pub long : length stands ≡ n
  pub below : All (λ lit. variable lit < end) stands

-- the properties read what stands for each of n variables, whose own variables are below the end
pub record ReadStanding (n end : ℕ) (p q : Props) : Type 0 where
  pub stands : List ℕ
  pub standing : AreStanding n end stands
  pub mapped : q ≡ mapped_props (replaced stands) p
