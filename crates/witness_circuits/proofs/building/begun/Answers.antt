use Rattle.std.proofs.Common.{ℕ, List, ◌≡◌, ◌∙◌, ◌+◌, arith, ap, sym, subst}
use Rattle.aig_graph.specs.declared.graph.Latch.{Latch}
use Rattle.aig_graph.specs.declared.graph.Reset.{Reset}
use Rattle.aig_graph.specs.Building.{without_gates}
use Rattle.aig_graph.specs.Graph.{Graph, IsGraph}
use Rattle.witness_circuits.specs.Parts.{both_resets}
use Rattle.witness_circuits.proofs.BuildLaws.{begun-graph}
use Rattle.witness_circuits.proofs.building.begun.Goals as goal

pub returns-clause-is : goal.returns-clause-is
returns-clause-is c =
    let own : List Latch = c.args.own.now in
    let resets : c.in_ok-resets.resets.items ≡ both_resets c.args.first.now.latches own =
    c.in_ok-resets.ensures ∙ ap (λ (ls : List Latch). both_resets ls own) c.latches.ensures.value in
    c.in_ok-gates.ensures.ok
    ∙ ap (λ (n : ℕ). without_gates (n + c.args.own_inputs) c.in_ok-resets.resets.items) c.inputs.ensures.value
    ∙ ap (λ (rs : List Reset). without_gates (c.args.first.now.inputs + c.args.own_inputs) rs) resets

pub returns-clause-graph : goal.returns-clause-graph
returns-clause-graph c =
    let n : ℕ = c.inputs.result + c.args.own_inputs in
    subst (λ (g : Graph). IsGraph g) (sym c.in_ok-gates.ensures.ok)
    (begun-graph n c.in_ok-resets.resets.items (grind (arith, c.in_ok-gates.ensures.too_large.1)))
