-- The three circuits in one graph.
use Rattle.std.proofs.Common.{ℕ, ◌≡◌, Bool, false, List, length, map, get_or, ap, ◌∙◌, subst}
use Rattle.aig_graph.specs.Circuits.{IsNetlist, Netlist}
use Rattle.aig_graph.specs.Graph.{Graph}
use Rattle.aig_graph.specs.Value.{value_within}
use Rattle.state_maps.specs.States.{Digits, State}
use Rattle.state_maps.specs.MapCircuits.{mapped}
use Rattle.map_circuits.specs.Growing.{Extends}
use Rattle.map_circuits.proofs.GrowingLaws.{extends-transitive}
use Rattle.witness_circuits.specs.declared.sharing.Sharing.{Sharing}
use Rattle.witness_circuits.specs.Joining.{joined, own_at}
use Rattle.map_circuits.specs.Instances.{substitute}
use Rattle.witness_circuits.specs.declared.parts.Parts.{Parts}
use Rattle.witness_circuits.specs.Lifting.{in_witness, witness_digits}
use Rattle.witness_circuits.specs.Parts.{AreParts, HasPlaces, IsView, held_by, in_shared}
use Rattle.witness_circuits.proofs.PropertyLaws.{substitutes-values}
use Rattle.witness_circuits.proofs.ViewLaws.{view-grows}

-- a graph that grows keeps its places
pub places-stay : (h i c : Graph) (k : Sharing) → Extends h i → HasPlaces h c k → HasPlaces i c k
places-stay h i c k more p = record {
  inputs = more.inputs ∙ p.inputs;
  latches = ap length more.latches ∙ p.latches;
}

-- the literals of the map's outputs hold what the map gives
module _ (h : Graph) (c m w : Netlist) (k : Sharing) (literals : List ℕ) (view : IsView h m.aig (λ z u. value_within m.aig u (λ j. false)) literals) (net : IsNetlist m) where
  held-same : (z : Digits) (u : State) → held_by h (map (substitute literals) m.props.outputs) z u ≡ mapped m u
  held-same z u = ap (λ (bs : List Bool). λ (j : ℕ). get_or bs j false) (substitutes-values h m.aig (λ z u. value_within m.aig u (λ j. false)) literals view z u m.props.outputs net.props.outputs)

  -- a view of the witness over literals that hold what the map gives is a view over what the map
  -- gives
  pub shared-view : (i : Graph) (seen : List ℕ) → IsView i w.aig (in_shared h (map (substitute literals) m.props.outputs) c.aig w.aig k) seen → IsView i w.aig (in_witness c m w k) seen
  shared-view i seen p = record {
    many = p.many;
    within = p.within;
    values = λ z u lit less.
        p.values z u lit less
        ∙ ap (λ (s : State). value_within w.aig (witness_digits c k z) (joined k.latches s (λ j. u (own_at (length c.aig.latches) k.latches j))) lit) (held-same z u);
  }

-- all three, after the last was added
pub all-parts : (h1 h2 h3 : Graph) (c m w : Netlist) (k : Sharing) (p : Parts) (outputs : List ℕ) → IsNetlist m → Extends h1 h2 → Extends h2 h3 → IsView h1 c.aig (λ z u. value_within c.aig z u) p.first
    → IsView h2 m.aig (λ z u. value_within m.aig u (λ j. false)) p.map → outputs ≡ map (substitute p.map) m.props.outputs → IsView h3 w.aig (in_shared h2 outputs c.aig w.aig k) p.witness → AreParts h3 c m w k p
all-parts h1 h2 h3 c m w k p outputs net one two first of_map are seen = record {
  first = view-grows h1 h3 c.aig (λ z u. value_within c.aig z u) p.first (extends-transitive h1 h2 h3 one two) first;
  map = view-grows h2 h3 m.aig (λ z u. value_within m.aig u (λ j. false)) p.map two of_map;
  witness = shared-view h2 c m w k p.map of_map net h3 p.witness (subst (λ (ls : List ℕ). IsView h3 w.aig (in_shared h2 ls c.aig w.aig k) p.witness) are seen);
}
