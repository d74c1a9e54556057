use Rattle.std.proofs.Common.{◌∙◌, ◌&&◌, ap₂, arith, sym, Bool}
use Rattle.std.proofs.lemmas.Bool.{and_parts}
use Rattle.aig_graph.proofs.FoldingLaws.{gate_at-is}
use Rattle.aig_graph.specs.Graph.{IsGateAt, variable}
use Rattle.rebuild.proofs.StartLaws.{start-gate}
use Rattle.rebuild.specs.Members.{is_latch_or_in}
use Rattle.rebuild.proofs.values.member_value.Goals as goal

pub value_of-first-requires-clause-inside : goal.value_of-first-requires-clause-inside
value_of-first-requires-clause-inside c =
    let k = c.args.plan.now.marks in
    let g = k.circuit.now.aig in
    let gate = c.args.gate in
    (and_parts (is_latch_or_in g k.set.now (variable gate.rhs0)) (is_latch_or_in g k.set.now (variable gate.rhs1)) (k.fan_ins c.args.var gate c.requires.member c.requires.there)).0

pub value_of-first-requires-clause-before : goal.value_of-first-requires-clause-before
value_of-first-requires-clause-before c =
    let k = c.args.plan.now.marks in
    let at : IsGateAt c.args.var c.args.gate = gate_at-is k.circuit.now.aig k.graph c.args.var c.args.gate c.requires.there in
    omega (arith, at.below, at.ordered, c.requires.next)

pub value_of-second-requires-clause-inside : goal.value_of-second-requires-clause-inside
value_of-second-requires-clause-inside c =
    let k = c.args.plan.now.marks in
    let g = k.circuit.now.aig in
    let gate = c.args.gate in
    (and_parts (is_latch_or_in g k.set.now (variable gate.rhs0)) (is_latch_or_in g k.set.now (variable gate.rhs1)) (k.fan_ins c.args.var gate c.requires.member c.requires.there)).1

pub value_of-second-requires-clause-before : goal.value_of-second-requires-clause-before
value_of-second-requires-clause-before c =
    let k = c.args.plan.now.marks in
    let at : IsGateAt c.args.var c.args.gate = gate_at-is k.circuit.now.aig k.graph c.args.var c.args.gate c.requires.there in
    omega (arith, at.below, at.ordered, c.requires.next)

pub returns : goal.returns
returns c =
    let k = c.args.plan.now.marks in
    c.both.ensures ∙ ap₂ (λ (a b : Bool). a && b) c.value_of-first.ensures c.value_of-second.ensures ∙ sym (start-gate k.circuit.now.aig k.graph c.args.var c.args.gate c.requires.there)
