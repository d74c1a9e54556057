use Rattle.std.proofs.Common.{ℕ, ◌+◌, ◌<◌, ◌∙◌, ◌++◌, List, ap, arith, subst, sym}
use Rattle.aig_graph.specs.declared.graph.Gate.{Gate}
use Rattle.aig_graph.specs.declared.literal.TheConstants.{MAX_VARIABLES}
use Rattle.aig_graph.specs.Building.{gate_of, with_gate}
use Rattle.aig_graph.specs.Graph.{Graph, IsLiteralOf}
use Rattle.aig_binary.specs.Text.{gate_deltas}
use Rattle.map_circuits.specs.Packing.{packed}
use Rattle.map_circuits.proofs.PackingLaws.{are-packed-more, packed-more}
use Rattle.map_circuits.proofs.map_gates.MapGates.and.Goals as goal

pub invariant_of-self-2 : goal.invariant_of-self-2
invariant_of-self-2 c =
    let n : ℕ = c.self.inside.inputs in
    let count : ℕ = c.self.inside.count in
    let before : List ℕ = c.self.inside.deltas.items in
    let a : ℕ = c.args.a in
    let b : ℕ = c.args.b in
    let within_a : IsLiteralOf (packed n before) a = subst (λ (g : Graph). IsLiteralOf g a) (sym c.self.view_is) c.requires.a in
    let within_b : IsLiteralOf (packed n before) b = subst (λ (g : Graph). IsLiteralOf g b) (sym c.self.view_is) c.requires.b in
    let small : 1 + n + count < MAX_VARIABLES = omega arith in
    are-packed-more n count before c.append_gate.new.deltas.items a b c.self.invariant small within_a within_b
    (c.in_ok-append_gate.ensures ∙ ap (λ (x : Gate). before ++ gate_deltas (1 + n + count) x) c.of.ensures)

pub returns-clause-ok : goal.returns-clause-ok
returns-clause-ok c =
    let n : ℕ = c.self.inside.inputs in
    let count : ℕ = c.self.inside.count in
    let before : List ℕ = c.self.inside.deltas.items in
    let a : ℕ = c.args.a in
    let b : ℕ = c.args.b in
    let within_a : IsLiteralOf (packed n before) a = subst (λ (g : Graph). IsLiteralOf g a) (sym c.self.view_is) c.requires.a in
    let within_b : IsLiteralOf (packed n before) b = subst (λ (g : Graph). IsLiteralOf g b) (sym c.self.view_is) c.requires.b in
    let small : 1 + n + count < MAX_VARIABLES = omega (arith, c.if-variable-eq-MAX_VARIABLES.false, c.self.invariant.graph.small, c.self.invariant.many) in
    packed-more n count before c.append_gate.new.deltas.items a b c.self.invariant small within_a within_b
    (c.in_ok-append_gate.ensures ∙ ap (λ (x : Gate). before ++ gate_deltas (1 + n + count) x) c.of.ensures)
    ∙ ap (λ (g : Graph). with_gate g (gate_of a b)) c.self.view_is
