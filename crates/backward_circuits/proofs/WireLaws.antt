-- The map of a circuit's states to themselves.
use Rattle.std.proofs.Common.{ℕ, ◌+◌, ◌*◌, ◌≤◌, ◌≡◌, ◌∙◌, List, [], length, ap, arith, refl, sym, subst}
use Rattle.aig_graph.specs.declared.literal.TheConstants.{MAX_VARIABLES}
use Rattle.aig_graph.specs.declared.graph.Gate.{Gate}
use Rattle.aig_graph.specs.declared.graph.Latch.{Latch}
use Rattle.aig_graph.specs.declared.properties.Props.{Props}
use Rattle.aig_graph.specs.declared.properties.Symbol.{Symbol}
use Rattle.aig_graph.specs.declared.properties.Symbols.{Symbols}
use Rattle.aig_graph.specs.Building.{without_gates}
use Rattle.aig_graph.specs.Circuits.{AreNamesBelow, IsNetlist, Netlist, outputs_alone}
use Rattle.aig_graph.specs.Graph.{Graph, IsGraph}
use Rattle.aig_graph.specs.Laws.{all_free}
use Rattle.aig_graph.proofs.HoldingLaws.{no-names}
use Rattle.retiming_maps.specs.Mapping.{IsMapBy}
use Rattle.retiming_maps.proofs.FreeLaws.{free-stay}
use Rattle.retiming_maps.proofs.StartLaws.{identity-map, inputs-graph}
use Rattle.aig_graph.specs.Tables.{table}
use Rattle.backward_circuits.specs.Drawn.{IsWires, map_names}

-- the inputs alone, with the names of the latches
abbrev pub wires_of : Netlist → Netlist
wires_of c = record {
  aig = without_gates (length c.aig.latches) [];
  props = outputs_alone (table 0 (length c.aig.latches) (λ j. 2 * (1 + j)));
  symbols = map_names c.symbols.latches c.symbols.latches;
}

module _ (c : Netlist) (graph : IsGraph c.aig) (netlist : IsNetlist c) where
  abbrev n : ℕ
  n = length c.aig.latches

  -- there is room for an input for each latch
  pub few : n + 1 ≤ MAX_VARIABLES
  few = omega (arith, graph.small)

  by-inputs : IsMapBy c c (all_free c.aig) (without_gates n []) (table 0 n (λ j. 2 * (1 + j))) []
  by-inputs = identity-map c (without_gates n []) (table 0 n (λ j. 2 * (1 + j))) [] (record { graph = graph; netlist = netlist }) (inputs-graph n few) refl refl refl

  -- the wires are a circuit
  pub wires-netlist : IsNetlist (wires_of c)
  wires-netlist = record {
    props = record {
      outputs = by-inputs.functions_within;
      bad = λ k a less. absurd (omega (arith, less));
      constraints = λ k a less. absurd (omega (arith, less));
      justice = λ k a less. absurd (omega (arith, less));
      fairness = λ k a less. absurd (omega (arith, less));
    };
    symbols = record {
      inputs = netlist.symbols.latches;
      latches = no-names 0;
      outputs = subst (λ (m : ℕ). AreNamesBelow m c.symbols.latches) (sym by-inputs.many) netlist.symbols.latches;
      bad = no-names 0;
      constraints = no-names 0;
      justice = no-names 0;
      fairness = no-names 0;
    };
  }

  -- the wires are the map of a circuit's states to themselves
  pub wires-are : IsWires c (wires_of c)
  wires-are = record {
    map = record {
      graph = by-inputs.graph;
      netlist = wires-netlist;
      inputs = refl;
      latches = refl;
      outputs = by-inputs.many;
      maps = by-inputs.maps;
    };
    free = free-stay c c (wires_of c) (all_free c.aig) by-inputs.places by-inputs.many by-inputs.free;
    outputs = refl;
  }

-- what is made of these parts
pub made-of : (c : Netlist) (n : ℕ) (names : List Symbol) (latches : List Latch) (gates : List Gate) (outputs : List ℕ) (g : Graph) (p : Props) (s : Symbols) → n ≡ length c.aig.latches
    → names ≡ c.symbols.latches → latches ≡ [] → gates ≡ [] → outputs ≡ table 0 n (λ j. 2 * (1 + j)) → g ≡ record { inputs = n; latches = latches; gates = gates } → p ≡ outputs_alone outputs
    → s ≡ map_names names names → ◌≡◌ {A = Netlist} (record { aig = g; props = p; symbols = s }) (wires_of c)
made-of c n names latches gates outputs g p s many named no_latches no_gates filled graph props symbols =
    let one : Graph → Netlist = λ h. record { aig = h; props = p; symbols = s } in
    let two : Props → Netlist = λ q. record { aig = without_gates (length c.aig.latches) []; props = q; symbols = s } in
    let three : Symbols → Netlist = λ t. record { aig = without_gates (length c.aig.latches) []; props = outputs_alone (table 0 (length c.aig.latches) (λ j. 2 * (1 + j))); symbols = t } in
    let by_inputs : ℕ → Graph = λ k. record { inputs = k; latches = latches; gates = gates } in
    let by_latches : List Latch → Graph = λ xs. record { inputs = length c.aig.latches; latches = xs; gates = gates } in
    let by_gates : List Gate → Graph = λ xs. record { inputs = length c.aig.latches; latches = []; gates = xs } in
    ap one (graph ∙ ap by_inputs many ∙ ap by_latches no_latches ∙ ap by_gates no_gates)
    ∙ ap two (props ∙ ap (λ (xs : List ℕ). outputs_alone xs) (filled ∙ ap (λ (k : ℕ). table 0 k (λ j. 2 * (1 + j))) many))
    ∙ ap three (symbols ∙ ap (λ (xs : List Symbol). map_names xs xs) named)
