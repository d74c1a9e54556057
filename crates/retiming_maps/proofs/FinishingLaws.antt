-- The finished parts are a map as a circuit.
use Rattle.std.proofs.Common.{ℕ, List, length, arith, refl, sym, subst}
use Rattle.aig_graph.specs.Circuits.{AreNamesBelow, IsNetlist, Netlist}
use Rattle.aig_graph.proofs.HoldingLaws.{no-names}
use Rattle.state_maps.specs.MapCircuits.{FreeStay, IsMapCircuit}
use Rattle.retiming_maps.specs.declared.parts.MapParts.{MapParts}
use Rattle.retiming_maps.specs.Mapping.{IsMapTo, map_of, map_symbols}
use Rattle.retiming_maps.specs.Plain.{IsPlainMap}
use Rattle.retiming_maps.proofs.FreeLaws.{free-stay}

module _ (c d : Netlist) (kept : List ℕ) (m : MapParts) (one : IsNetlist c) (two : IsNetlist d) (map : IsMapTo c d kept m) where
  -- the parts of a map with the names are a netlist
  map-netlist : IsNetlist (map_of m (map_symbols c d))
  map-netlist = record {
    props = record {
      outputs = map.functions_within;
      bad = λ k a less. absurd (omega (arith, less));
      constraints = map.constraints_within;
      justice = λ k a less. absurd (omega (arith, less));
      fairness = λ k a less. absurd (omega (arith, less));
    };
    symbols = record {
      inputs = subst (λ (n : ℕ). AreNamesBelow n c.symbols.latches) (sym map.inputs) one.symbols.latches;
      latches = no-names (length m.gates.latches);
      outputs = subst (λ (n : ℕ). AreNamesBelow n d.symbols.latches) (sym map.many) two.symbols.latches;
      bad = no-names 0;
      constraints = no-names (length m.constraints.items);
      justice = no-names 0;
      fairness = no-names 0;
    };
  }

  -- their properties are outputs and constraints alone
  pub map-plain : IsPlainMap (map_of m (map_symbols c d))
  map-plain = record { netlist = map-netlist; bad = refl; justice = refl; fairness = refl }

  -- the parts of a map with the names are a map as a circuit
  pub map-circuit : IsMapCircuit c d kept (map_of m (map_symbols c d))
  map-circuit = record { graph = map.graph; netlist = map-netlist; inputs = map.inputs; latches = map.latches; outputs = map.many; maps = map.maps }

  -- in it free latches stay
  pub map-free : FreeStay c d (map_of m (map_symbols c d))
  map-free = free-stay c d (map_of m (map_symbols c d)) kept map.places map.many map.free
