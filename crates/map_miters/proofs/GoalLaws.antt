-- What says that a state is good.
use Rattle.std.proofs.Common.{ℕ, ◌<◌, ◌≡◌, ◌↔◌, Bool, false, ◌&&◌, List, length, map, get_or, arith, ap, sym, ◌∙◌}
use Rattle.std.proofs.lemmas.Bool.{and_from, and_parts}
use Rattle.std.proofs.lemmas.List.{ext_get_or, length-map}
use Rattle.aig_graph.specs.Circuits.{Netlist}
use Rattle.aig_graph.specs.Graph.{Graph}
use Rattle.aig_graph.specs.Streams.{SameShape, property_literals}
use Rattle.aig_graph.specs.Value.{value_within}
use Rattle.state_maps.specs.MapCircuits.{mapped}
use Rattle.state_maps.specs.States.{Digits, State}
use Rattle.map_circuits.specs.Growing.{Extends, IsConjunction}
use Rattle.map_miters.specs.declared.images.Image.{Image}
use Rattle.map_miters.specs.Comparing.{AreEqualIn, SaysThat}
use Rattle.map_miters.specs.Holding.{Held, HoldAs, IsImage}
use Rattle.map_miters.proofs.ComparingLaws.{says-same}
use Rattle.map_miters.proofs.HoldingLaws.{holds-grow, step-grows}
use Rattle.aig_graph.proofs.ShapeLaws.{as-many}
use Rattle.map_miters.specs.declared.sides.Sides.{Sides}
use Rattle.map_miters.specs.Products.{AgreeIn, GivesState, HoldsMapped, second_state}
use Rattle.map_miters.specs.Sides.{AreSides, beside_digits, beside_first, beside_second}

-- the steps of both stay such as the graph grows
pub sides-grow : (g h : Graph) (c d : Netlist) (sides : Sides) → Extends g h → AreSides g c d sides → AreSides h c d sides
sides-grow g h c d sides more p = record {
  first_long = p.first_long;
  second_long = p.second_long;
  of_first = holds-grow g h sides.leaves.first.items beside_first more p.of_first;
  of_second = holds-grow g h sides.leaves.second.items (beside_second c.aig) more p.of_second;
  first = step-grows g h c beside_digits beside_first sides.first more p.first;
  second = step-grows g h d beside_digits (beside_second c.aig) sides.second more p.second;
}

module _ (g : Graph) (c d : Netlist) (sides : Sides) (shape : SameShape c d) (are : AreSides g c d sides) where
  -- there are as many properties on both sides
  pub props-long : length sides.second.props.items ≡ length sides.first.props.items
  props-long = are.second.many_props ∙ as-many c d shape ∙ sym are.first.many_props

  props-same : (z : Digits) (u : State) → AreEqualIn g sides.second.props.items sides.first.props.items z u ↔ AgreeIn c d z u
  props-same z u =
      let D : List Bool = map (value_within d.aig z (second_state c.aig u)) (property_literals d.props) in
      let C : List Bool = map (value_within c.aig z u) (property_literals c.props) in
      let many_d : length D ≡ length (property_literals d.props) = length-map (property_literals d.props) (value_within d.aig z (second_state c.aig u)) in
      let many_c : length C ≡ length (property_literals c.props) = length-map (property_literals c.props) (value_within c.aig z u) in
      let as_many = as-many c d shape in (
        λ equal. ext_get_or false D C (many_d ∙ as_many ∙ sym many_c) (λ k less.
            let short : k < length sides.second.props.items = omega (arith, less, many_d, are.second.many_props) in
            sym (are.second.props.values z u k short) ∙ equal k short ∙ are.first.props.values z u k (omega (arith, less, many_d, as_many, are.first.many_props))),
        λ same k less.
            are.second.props.values z u k less ∙ ap (λ (bs : List Bool). get_or bs k false) same
            ∙ sym (are.first.props.values z u k (omega (arith, less, are.second.many_props, as_many, are.first.many_props))),
      )

  -- what says that the literals of all properties are equal says that both circuits agree
  pub agreement-says : (h : Graph) (lit : ℕ) → SaysThat h lit (AreEqualIn g sides.second.props.items sides.first.props.items) → SaysThat h lit (AgreeIn c d)
  agreement-says h lit says = says-same h lit (AreEqualIn g sides.second.props.items sides.first.props.items) (AgreeIn c d) props-same says

-- what says that the constraints of a map are 1 for a state, and that its outputs are what literals
-- hold
module _ (m : Netlist) (image : Image) (g h i : Graph) (given : List ℕ) (s t : Held) (long : length given ≡ length m.props.outputs) (is : IsImage g m s image) (held : HoldAs g given t) where
  outputs-same : (z : Digits) (u : State) → AreEqualIn g image.outputs.items given z u ↔ ((j : ℕ) → j < length m.props.outputs → mapped m (s z u) j ≡ t z u j)
  outputs-same z u = (
    λ equal j less.
        let short : j < length image.outputs.items = omega (arith, less, is.many) in
        sym (is.outputs.values z u j short) ∙ equal j short ∙ held.values z u j (omega (arith, less, long)),
    λ same k less.
        let short : k < length m.props.outputs = omega (arith, less, is.many) in
        is.outputs.values z u k less ∙ same k short ∙ sym (held.values z u k (omega (arith, short, long))),
  )

  -- says that the map gives the state that these hold
  pub given-says : (equal both : ℕ) → Extends g h → SaysThat h equal (AreEqualIn g image.outputs.items given) → Extends h i → IsConjunction i image.kept equal both
      → SaysThat i both (λ z u. GivesState m (s z u) (t z u))
  given-says equal both one says two conjunction = record {
    within = conjunction.within;
    is = λ z u.
        let kept : value_within i z u image.kept ≡ value_within g z u image.kept =
        two.values z u image.kept (one.literals image.kept is.within) ∙ one.values z u image.kept is.within in
        let same : value_within i z u equal ≡ value_within h z u equal = two.values z u equal says.within in
        let value : value_within i z u both ≡ (value_within g z u image.kept && value_within h z u equal) =
        conjunction.is z u ∙ ap (λ (b : Bool). b && value_within i z u equal) kept ∙ ap (λ (b : Bool). value_within g z u image.kept && b) same in (
          λ e.
              let parts = and_parts (value_within g z u image.kept) (value_within h z u equal) (sym value ∙ e) in
              ((is.kept z u).0 parts.0, (outputs-same z u).0 ((says.is z u).0 parts.1)),
          λ holds. value ∙ and_from (value_within g z u image.kept) (value_within h z u equal) ((is.kept z u).1 holds.0) ((says.is z u).1 ((outputs-same z u).1 holds.1)),
        );
  }

-- that the map gives what the latches of d hold says that they are mapped
pub mapped-says : (c d m : Netlist) (h : Graph) (lit : ℕ) → length m.props.outputs ≡ length d.aig.latches → SaysThat h lit (λ z u. GivesState m u (second_state c.aig u))
    → SaysThat h lit (λ z u. HoldsMapped c d m u)
mapped-says c d m h lit outputs says = says-same h lit (λ z u. GivesState m u (second_state c.aig u)) (λ z u. HoldsMapped c d m u) (λ z u. (
  λ gives. (gives.0, λ j less. gives.1 j (omega (arith, less, outputs))),
  λ holds. (holds.0, λ j less. holds.1 j (omega (arith, less, outputs))),
)) says
