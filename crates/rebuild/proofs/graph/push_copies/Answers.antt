use Rattle.std.proofs.Common.{◌++◌, ◌∙◌, ◌≡◌, List, ap, map, sym, arith, Some, true, ℕ, get_or}
use Rattle.aig_graph.proofs.FoldingLaws.{gate_at-is}
use Rattle.aig_graph.proofs.KindLaws.{GatePlace, gate_place}
use Rattle.aig_graph.proofs.PushLaws.{all_taken}
use Rattle.aig_graph.specs.Graph.{Graph, IsGateAt, gate_at, variable}
use Rattle.std.proofs.lemmas.Bool.{and_parts}
use Rattle.rebuild.proofs.MemberLaws.{member-at}
use Rattle.rebuild.proofs.NumberLaws.{from-latch}
use Rattle.rebuild.specs.Members.{is_latch_or_in}
use Rattle.rebuild.specs.Moved.{copy_for}
use Rattle.rebuild.specs.Planned.{planned}
use Rattle.aig_graph.specs.Marking.{has}
use Rattle.rebuild.proofs.graph.push_copies.Goals as goal

pub copied_gate-requires-clause-first : goal.copied_gate-requires-clause-first
copied_gate-requires-clause-first c =
    let k = c.args.plan.now.marks in
    let g = k.circuit.now.aig in
    let v : ℕ = get_or c.vars-var-items.result.now c.loop-var.var-index 0 in
    let there : gate_at g v ≡ Some c.in-Some.gate = ap (λ (h : Graph). gate_at h v) (sym c.aig.ensures) ∙ sym c.gate.ensures ∙ c.in-Some.is in
    let at : IsGateAt v c.in-Some.gate = gate_at-is g k.graph v c.in-Some.gate there in
    let place : GatePlace g v c.in-Some.gate = gate_place g v c.in-Some.gate there in
    omega (arith, at.below, place.below)

pub copied_gate-requires-clause-second : goal.copied_gate-requires-clause-second
copied_gate-requires-clause-second c =
    let k = c.args.plan.now.marks in
    let g = k.circuit.now.aig in
    let v : ℕ = get_or c.vars-var-items.result.now c.loop-var.var-index 0 in
    let there : gate_at g v ≡ Some c.in-Some.gate = ap (λ (h : Graph). gate_at h v) (sym c.aig.ensures) ∙ sym c.gate.ensures ∙ c.in-Some.is in
    let at : IsGateAt v c.in-Some.gate = gate_at-is g k.graph v c.in-Some.gate there in
    let place : GatePlace g v c.in-Some.gate = gate_place g v c.in-Some.gate there in
    omega (arith, at.below, at.ordered, place.below)

pub copied_gate-requires-clause-first_from : goal.copied_gate-requires-clause-first_from
copied_gate-requires-clause-first_from c =
    let k = c.args.plan.now.marks in
    let g = k.circuit.now.aig in
    let v : ℕ = get_or c.vars-var-items.result.now c.loop-var.var-index 0 in
    let there : gate_at g v ≡ Some c.in-Some.gate = ap (λ (h : Graph). gate_at h v) (sym c.aig.ensures) ∙ sym c.gate.ensures ∙ c.in-Some.is in
    let member : has k.set.now v ≡ true = member-at k.set.now c.vars-var-items.result.now c.loop-var.var-index c.vars-var-items.ensures.value c.loop-var-test.true in
    let inside = and_parts (is_latch_or_in g k.set.now (variable c.in-Some.gate.rhs0)) (is_latch_or_in g k.set.now (variable c.in-Some.gate.rhs1)) (k.fan_ins v c.in-Some.gate member there) in
    from-latch (planned c.args.plan.now) k.passable (variable c.in-Some.gate.rhs0) inside.0

pub copied_gate-requires-clause-second_from : goal.copied_gate-requires-clause-second_from
copied_gate-requires-clause-second_from c =
    let k = c.args.plan.now.marks in
    let g = k.circuit.now.aig in
    let v : ℕ = get_or c.vars-var-items.result.now c.loop-var.var-index 0 in
    let there : gate_at g v ≡ Some c.in-Some.gate = ap (λ (h : Graph). gate_at h v) (sym c.aig.ensures) ∙ sym c.gate.ensures ∙ c.in-Some.is in
    let member : has k.set.now v ≡ true = member-at k.set.now c.vars-var-items.result.now c.loop-var.var-index c.vars-var-items.ensures.value c.loop-var-test.true in
    let inside = and_parts (is_latch_or_in g k.set.now (variable c.in-Some.gate.rhs0)) (is_latch_or_in g k.set.now (variable c.in-Some.gate.rhs1)) (k.fan_ins v c.in-Some.gate member there) in
    from-latch (planned c.args.plan.now) k.passable (variable c.in-Some.gate.rhs1) inside.1

pub returns : goal.returns
returns c =
    c.loop-var.invariant ∙ ap (λ (vars : List ℕ). c.args.gates.now.items ++ map (copy_for (planned c.args.plan.now)) vars) (all_taken _ _ _ c.vars-var-items.ensures.value c.loop-var-test.false)
