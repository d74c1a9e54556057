use Rattle.std.proofs.Common.{ℕ, ◌∙◌, Bool, List, arith, ap, sym, subst, length}
use Rattle.aig_graph.specs.declared.graph.Gate.{Gate}
use Rattle.aig_graph.specs.Graph.{Graph, IsGraph}
use Rattle.clean.specs.Sweep.{is_marked}
use Rattle.clean.proofs.CloseLaws.{closed-is, gates-within}
use Rattle.clean.proofs.TrimLaws.{length-new_literals, trimmed-is}
use Rattle.clean.proofs.trim.closed_graph.Goals as goal

pub closed_gates-gates-requires-clause-small : goal.closed_gates-gates-requires-clause-small
closed_gates-gates-requires-clause-small c =
    omega (arith, c.first_gate-first.ensures.value, c.first_gate-first.ensures.graph.small, ap (λ (xs : List Gate). length xs) c.into_parts-inputs.ensures.gates)

pub closed_gates-gates-requires-clause-larger : goal.closed_gates-gates-requires-clause-larger
closed_gates-gates-requires-clause-larger c = λ k d h.
    let g : Graph = c.args.aig in
    let within = gates-within g c.into_parts-inputs.result.2.items c.first_gate-first.ensures.graph c.into_parts-inputs.ensures.gates k d h in
    omega (arith, within.0, ap (λ (xs : List ℕ). length xs) c.requires.literals, length-new_literals g (is_marked c.args.reached.now))

pub closed_gates-gates-requires-clause-smaller : goal.closed_gates-gates-requires-clause-smaller
closed_gates-gates-requires-clause-smaller c = λ k d h.
    let g : Graph = c.args.aig in
    let within = gates-within g c.into_parts-inputs.result.2.items c.first_gate-first.ensures.graph c.into_parts-inputs.ensures.gates k d h in
    omega (arith, within.1, ap (λ (xs : List ℕ). length xs) c.requires.literals, length-new_literals g (is_marked c.args.reached.now))

pub from_parts-requires : goal.from_parts-requires
from_parts-requires c =
    let g : Graph = c.args.aig in
    let s : ℕ → Bool = is_marked c.args.reached.now in
    let closed = c.closed_gates-gates.ensures
    ∙ closed-is g s c.args.literals.now c.first_gate-first.result c.into_parts-inputs.result.2.items c.requires.literals c.first_gate-first.ensures.value c.into_parts-inputs.ensures.gates
    (gates-within g c.into_parts-inputs.result.2.items c.first_gate-first.ensures.graph c.into_parts-inputs.ensures.gates) in
    let same = trimmed-is g s c.into_parts-inputs.result.0 c.args.latches.items c.closed_gates-gates.result.items c.into_parts-inputs.ensures.inputs c.requires.latches closed in
    subst (λ (h : Graph). IsGraph h) (sym same) c.requires.graph

pub returns : goal.returns
returns c =
    let g : Graph = c.args.aig in
    let s : ℕ → Bool = is_marked c.args.reached.now in
    let closed = c.closed_gates-gates.ensures
    ∙ closed-is g s c.args.literals.now c.first_gate-first.result c.into_parts-inputs.result.2.items c.requires.literals c.first_gate-first.ensures.value c.into_parts-inputs.ensures.gates
    (gates-within g c.into_parts-inputs.result.2.items c.first_gate-first.ensures.graph c.into_parts-inputs.ensures.gates) in
    c.from_parts.ensures ∙ trimmed-is g s c.into_parts-inputs.result.0 c.args.latches.items c.closed_gates-gates.result.items c.into_parts-inputs.ensures.inputs c.requires.latches closed
