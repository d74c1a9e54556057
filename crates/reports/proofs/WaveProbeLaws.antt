-- The circuit whose outputs are all that is shown of another one.
use Rattle.std.proofs.Common.{ℕ, ◌+◌, ◌*◌, ◌/◌, ◌<◌, ◌≡◌, length, arith, subst, sym}
use Rattle.std.proofs.lemmas.List.Elements.{All-append}
use Rattle.aig_graph.proofs.TableLaws.{length-table, table-at}
use Rattle.aig_graph.specs.Graph.{Graph, IsLiteralOf, variables_end}
use Rattle.aig_graph.specs.Circuits.{AreLiteralsOf, IsNetlist, Netlist}
use Rattle.aig_graph.specs.Streams.{property_literals}
use Rattle.aig_graph.proofs.PropsLaws.{properties-within}
use Rattle.aig_graph.proofs.HoldingLaws.{no-names}
use Rattle.reports.specs.waves.Probes.{leaf_literals, literal, probed, shown_literals}

half : (n : ℕ) → 2 * n / 2 ≡ n
half n = omega arith

-- the inputs and the latches have variables of the graph
leaves-in : (g : Graph) → AreLiteralsOf g (leaf_literals g)
leaves-in g = λ k d less.
    let n = g.inputs + length g.latches in
    let below : k < n = subst (λ (m : ℕ). k < m) (length-table 1 n literal) less in
    subst (λ (lit : ℕ). IsLiteralOf g lit) (sym (table-at 1 n literal k d below)) (subst (λ (v : ℕ). v < variables_end g) (sym (half (1 + k))) (omega (arith, below)))

-- so has all that is shown
pub shown-in : (c : Netlist) → IsNetlist c → AreLiteralsOf c.aig (shown_literals c)
unfolding shown_literals
shown-in c netlist =
    All-append (λ lit. IsLiteralOf c.aig lit) (leaf_literals c.aig) (property_literals c.props) (leaves-in c.aig) (properties-within c netlist)

-- so the circuit that shows it is one
pub probed-netlist : (c : Netlist) → IsNetlist c → IsNetlist (probed c)
probed-netlist c netlist = record {
  props = record {
    outputs = shown-in c netlist;
    bad = λ k a less. absurd (omega (arith, less));
    constraints = λ k a less. absurd (omega (arith, less));
    justice = λ k a less. absurd (omega (arith, less));
    fairness = λ k a less. absurd (omega (arith, less));
  };
  symbols = record {
    inputs = no-names c.aig.inputs;
    latches = no-names (length c.aig.latches);
    outputs = no-names (length (shown_literals c));
    bad = no-names 0;
    constraints = no-names 0;
    justice = no-names 0;
    fairness = no-names 0;
  };
}
