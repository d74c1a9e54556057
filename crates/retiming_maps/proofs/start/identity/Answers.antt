use Rattle.std.proofs.Common.{ℕ, List, [], ◌≡◌, ◌∙◌, ◌+◌, ◌*◌, arith, ap, sym, subst, length}
use Rattle.aig_graph.specs.declared.graph.Latch.{Latch}
use Rattle.aig_graph.specs.Building.{without_gates}
use Rattle.aig_graph.specs.Graph.{Graph, IsGraph}
use Rattle.aig_graph.specs.Tables.{table}
use Rattle.retiming_maps.proofs.StartLaws.{identity-map, inputs-graph}
use Rattle.retiming_maps.proofs.start.identity.Goals as goal

pub returns : goal.returns
returns c =
    let n : ℕ = length c.args.circuit.now.aig.latches in
    let many : length c.latches.result.now ≡ n = ap (λ (xs : List Latch). length xs) c.latches.ensures.value ∙ ap (λ (g : Graph). length g.latches) c.aig.ensures.value in
    let built : c.new-gates.result ≡ without_gates n [] = c.new-gates.ensures ∙ ap (λ (k : ℕ). without_gates k []) many in
    let graph : IsGraph c.new-gates.result = subst (λ (g : Graph). IsGraph g) (sym built) (inputs-graph n (omega (arith, c.known.ensures.graph.small))) in
    identity-map c.args.circuit.now c.new-gates.result c.of.result c.new-constraints.result.items
    (record { graph = c.known.ensures.graph; netlist = c.known.ensures.netlist }) graph built
    (c.of.ensures ∙ c.in_ok-literals.ensures ∙ ap (λ (k : ℕ). table 0 k (λ j. 2 * (1 + j))) many) c.new-constraints.ensures.items
