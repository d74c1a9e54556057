use Rattle.std.proofs.Common.{ℕ, ◌≡◌, ◌∙◌, ap₂, sym, subst, map, List}
use Rattle.std.specs.List.{enumerate_from}
use Rattle.aig_graph.specs.Marking.{mark_at}
use Rattle.aig_graph.specs.declared.graph.Gate.{Gate}
use Rattle.aig_graph.specs.Graph.{Graph, IsGraph, first_gate}
use Rattle.path_levels.specs.Bounded.{gate_left, gates_left, graph_left}
use Rattle.path_levels.proofs.BarringLaws.{graph-left}
use Rattle.path_levels.proofs.bounding.graph_left.Goals as goal

pub from_parts-requires : goal.from_parts-requires
from_parts-requires c =
    let g = c.args.aig.now in
    let test = mark_at (first_gate g) c.args.barred.now in
    let gates : c.in_ok-gates.gates.items ≡ gates_left test g =
    c.in_ok-gates.ensures
    ∙ ap₂ (λ (n : ℕ) (xs : List Gate). map (λ (e : ℕ × Gate). gate_left (mark_at n c.args.barred.now e.0) e.1) (enumerate_from n xs)) c.first_gate.ensures.value c.gates.ensures.value in
    let made : Graph = record { inputs = c.inputs.result; latches = c.in_ok-latches.latches.items; gates = c.in_ok-gates.gates.items } in
    let same : made ≡ graph_left test g = λ i. record {
      inputs = c.inputs.ensures.value i;
      latches = (c.in_ok-latches.ensures.items ∙ c.latches.ensures.value) i;
      gates = gates i;
    } in
    subst IsGraph (sym same) (graph-left test g c.first_gate.ensures.graph)

pub returns : goal.returns
returns c =
    let g = c.args.aig.now in
    let test = mark_at (first_gate g) c.args.barred.now in
    let gates : c.in_ok-gates.gates.items ≡ gates_left test g =
    c.in_ok-gates.ensures
    ∙ ap₂ (λ (n : ℕ) (xs : List Gate). map (λ (e : ℕ × Gate). gate_left (mark_at n c.args.barred.now e.0) e.1) (enumerate_from n xs)) c.first_gate.ensures.value c.gates.ensures.value in
    let made : Graph = record { inputs = c.inputs.result; latches = c.in_ok-latches.latches.items; gates = c.in_ok-gates.gates.items } in
    let same : made ≡ graph_left test g = λ i. record {
      inputs = c.inputs.ensures.value i;
      latches = (c.in_ok-latches.ensures.items ∙ c.latches.ensures.value) i;
      gates = gates i;
    } in
    c.from_parts.ensures ∙ same
