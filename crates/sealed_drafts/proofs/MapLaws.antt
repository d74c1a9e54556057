-- The circuit of a map.
use Rattle.std.proofs.Common.{ℕ, List, length, arith, sym, subst}
use Rattle.aig_graph.specs.declared.properties.Symbol.{Symbol}
use Rattle.aig_graph.specs.Circuits.{AreNamesBelow, IsNetlist, no_symbols, outputs_alone}
use Rattle.aig_graph.specs.Graph.{Graph, variables_end}
use Rattle.aig_graph.proofs.HoldingLaws.{no-names}
use Rattle.backward_circuits.specs.Drawn.{map_names}
use Rattle.sealed_drafts.specs.Sealed.{AreStanding, IsSealed}

-- a graph without latches, with outputs and constraints and with names of its inputs and outputs,
-- is a circuit
pub map-netlist : (g : Graph) (n k j m : ℕ) (outputs constraints : List ℕ) (inside outside : List Symbol) → IsSealed n 0 m g → AreStanding k (variables_end g) outputs → AreStanding j (variables_end g) constraints
    → AreNamesBelow n inside → AreNamesBelow k outside → IsNetlist (record { aig = g; props = record (outputs_alone outputs) { constraints = constraints }; symbols = map_names inside outside })
map-netlist g n k j m outputs constraints inside outside sealed standing facts one two = record {
  props = record {
    outputs = standing.below;
    bad = λ j a less. absurd (omega (arith, less));
    constraints = facts.below;
    justice = λ j a less. absurd (omega (arith, less));
    fairness = λ j a less. absurd (omega (arith, less));
  };
  symbols = record {
    inputs = subst (λ (i : ℕ). AreNamesBelow i inside) (sym sealed.inputs_are) one;
    latches = no-names (length g.latches);
    outputs = subst (λ (i : ℕ). AreNamesBelow i outside) (sym standing.long) two;
    bad = no-names 0;
    constraints = no-names (length constraints);
    justice = no-names 0;
    fairness = no-names 0;
  };
}

-- a graph with outputs and without names is a circuit
pub outputs-netlist : (g : Graph) (n l m k : ℕ) (outputs : List ℕ) → IsSealed n l m g → AreStanding k (variables_end g) outputs → IsNetlist (record { aig = g; props = outputs_alone outputs; symbols = no_symbols })
outputs-netlist g n l m k outputs sealed standing = record {
  props = record {
    outputs = standing.below;
    bad = λ j a less. absurd (omega (arith, less));
    constraints = λ j a less. absurd (omega (arith, less));
    justice = λ j a less. absurd (omega (arith, less));
    fairness = λ j a less. absurd (omega (arith, less));
  };
  symbols = record {
    inputs = no-names g.inputs;
    latches = no-names (length g.latches);
    outputs = no-names (length outputs);
    bad = no-names 0;
    constraints = no-names 0;
    justice = no-names 0;
    fairness = no-names 0;
  };
}
