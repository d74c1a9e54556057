-- The filled graph with its names is a lifted witness.
use Rattle.std.proofs.Common.{ℕ, ◌+◌, ◌<◌, ◌≤◌, ◌≡◌, length, map, get_or, refl, arith, ap, ◌∙◌}
use Rattle.std.proofs.lemmas.List.{get_or-map, length-map}
use Rattle.aig_graph.proofs.TableLaws.{length-table, table-at}
use Rattle.aig_graph.specs.declared.properties.Props.{Props}
use Rattle.aig_graph.specs.declared.properties.Symbol.{Symbol}
use Rattle.aig_graph.specs.declared.properties.Symbols.{Symbols}
use Rattle.aig_graph.specs.Circuits.{AreNamesBelow, IsNetlist, Netlist, no_symbols}
use Rattle.aig_graph.specs.Graph.{Graph, first_latch}
use Rattle.aig_graph.proofs.HoldingLaws.{no-names}
use Rattle.witness_circuits.specs.declared.sharing.Sharing.{Sharing}
use Rattle.witness_circuits.specs.Built.{IsFilled}
use Rattle.witness_circuits.specs.Lifting.{HasRoomFor, IsLiftedOver, IsNamedAs, literal_name, literal_names}

-- the names of a lifted witness
abbrev pub named : Graph → Symbols
named g = record no_symbols { inputs = literal_names 1 g.inputs; latches = literal_names (first_latch g) (length g.latches) }

literal-names-below : (first n all : ℕ) → n ≤ all → AreNamesBelow all (literal_names first n)
literal-names-below first n all fits = record {
  rising = λ k less.
      let long : k + 1 < n = omega (arith, less, length-map (literal_names first n) (λ (s : Symbol). s.position), length-table 0 n (literal_name first)) in
      let here = at k (omega (arith, long)) in
      let next = at (k + 1) long in
      omega (arith, here, next);
  below = λ k d less.
      let short : k < n = omega (arith, less, length-table 0 n (literal_name first)) in
      let is = ap (λ (s : Symbol). s.position) (table-at 0 n (literal_name first) k d short) in
      omega (arith, is, short, fits);
}
  where
    at : (k : ℕ) → k < n → get_or (map (λ (s : Symbol). s.position) (literal_names first n)) k 0 ≡ k
    at k short =
        let d : Symbol = literal_name first 0 in
        let place : 0 + k ≡ k = omega arith in
        get_or-map (λ (s : Symbol). s.position) (literal_names first n) k d 0 (omega (arith, short, length-table 0 n (literal_name first)))
        ∙ ap (λ (s : Symbol). s.position) (table-at 0 n (literal_name first) k d short) ∙ place

module _ (h : Graph) (c m w : Netlist) (k : Sharing) (props : Props) (filled : IsFilled h c m w k props) where
  -- the filled graph with its properties and the names of a graph with no more inputs and latches
  -- than the circuit is a netlist
  pub lifted-netlist : (g : Graph) → HasRoomFor g c.aig → IsNetlist (record { aig = h; props = props; symbols = named g })
  lifted-netlist g room = record {
    props = filled.props.within;
    symbols = record {
      inputs = literal-names-below 1 g.inputs h.inputs (omega (arith, filled.places.inputs, room.inputs));
      latches = literal-names-below (first_latch g) (length g.latches) (length h.latches) (omega (arith, filled.places.latches, room.latches));
      outputs = no-names (length props.outputs);
      bad = no-names (length props.bad);
      constraints = no-names (length props.constraints);
      justice = no-names (length props.justice);
      fairness = no-names (length props.fairness);
    };
  }

  -- the filled graph with its properties and names is the lifted witness
  pub is-lifted : (g : Graph) → IsLiftedOver c m w k (record { aig = h; props = props; symbols = named g })
  is-lifted g = record {
    inputs = filled.places.inputs;
    latches = filled.places.latches;
    first = filled.first;
    own = filled.own;
    allowed = filled.props.allowed;
    good = filled.props.good;
  }

-- the names are those of the graph
pub is-named : (g h : Graph) (props : Props) → IsNamedAs g (record { aig = h; props = props; symbols = named g })
is-named g h props = record { inputs = refl; latches = refl }
