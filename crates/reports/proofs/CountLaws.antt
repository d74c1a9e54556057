-- The counts of a circuit, by its graph and its properties.
use Rattle.std.proofs.Common.{ℕ, ◌≡◌, ◌∙◌, List, [], length, ap}
use Rattle.aig_graph.specs.declared.properties.Props.{Props}
use Rattle.aig_graph.specs.Graph.{Graph, free_latches, known_latches}
use Rattle.aig_graph.specs.Circuits.{Netlist}
use Rattle.frame_net.specs.Passable.{passable_gates}
use Rattle.path_levels.specs.Levels.{levels}
use Rattle.reports.specs.CircuitCounts.{counts, statistics}
use Rattle.reports.specs.declared.statistics.Counts.{Counts}
use Rattle.reports.specs.declared.statistics.Statistics.{Statistics}

-- the numbers that were taken of a graph and its properties, one by one, are the counts of the
-- circuit
pub counts-is : (c : Netlist) (g : Graph) (p : Props) (inputs latches free known gates high outputs bad constraints justice fairness : ℕ) → g ≡ c.aig → p ≡ c.props
    → inputs ≡ g.inputs → latches ≡ length g.latches → free ≡ free_latches g → known ≡ known_latches g → gates ≡ length g.gates → high ≡ levels c
    → outputs ≡ length p.outputs → bad ≡ length p.bad → constraints ≡ length p.constraints → justice ≡ length p.justice → fairness ≡ length p.fairness
    → record { inputs = inputs; latches = latches; free = free; known = known; gates = gates; levels = high; outputs = outputs; bad = bad; constraints = constraints; justice = justice; fairness = fairness } ≡ counts c
unfolding counts
counts-is c g p inputs latches free known gates high outputs bad constraints justice fairness same_g same_p a b d e f h k l m n o =
    let inputs_are : inputs ≡ c.aig.inputs = a ∙ ap (λ (x : Graph). x.inputs) same_g in
    let latches_are : latches ≡ length c.aig.latches = b ∙ ap (λ (x : Graph). length x.latches) same_g in
    let free_are : free ≡ free_latches c.aig = d ∙ ap free_latches same_g in
    let known_are : known ≡ known_latches c.aig = e ∙ ap known_latches same_g in
    let gates_are : gates ≡ length c.aig.gates = f ∙ ap (λ (x : Graph). length x.gates) same_g in
    let outputs_are : outputs ≡ length c.props.outputs = k ∙ ap (λ (q : Props). length q.outputs) same_p in
    let bad_are : bad ≡ length c.props.bad = l ∙ ap (λ (q : Props). length q.bad) same_p in
    let constraints_are : constraints ≡ length c.props.constraints = m ∙ ap (λ (q : Props). length q.constraints) same_p in
    let justice_are : justice ≡ length c.props.justice = n ∙ ap (λ (q : Props). length q.justice) same_p in
    let fairness_are : fairness ≡ length c.props.fairness = o ∙ ap (λ (q : Props). length q.fairness) same_p in
    λ i. record {
      inputs = inputs_are i;
      latches = latches_are i;
      free = free_are i;
      known = known_are i;
      gates = gates_are i;
      levels = h i;
      outputs = outputs_are i;
      bad = bad_are i;
      constraints = constraints_are i;
      justice = justice_are i;
      fairness = fairness_are i;
    }

-- the counts and the number of gates passable if none is held are the circuit's statistics
pub statistics-is : (c : Netlist) (n : Counts) (passable : ℕ) → n ≡ counts c → passable ≡ length (passable_gates c.aig []) → record { counts = n; passable = passable } ≡ statistics c
unfolding statistics
statistics-is c n passable is_counts is_passable = λ i. record { counts = is_counts i; passable = is_passable i }
