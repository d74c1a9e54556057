use Rattle.std.proofs.Common.{◌∙◌, arith, sym}
use Rattle.aig_graph.proofs.KindLaws.{GatePlace, gate_place}
use Rattle.rebuild.proofs.ValueLaws.{start-member, start-outside}
use Rattle.rebuild.proofs.values.gate_value.Goals as goal

pub has-requires-clause-from : goal.has-requires-clause-from
has-requires-clause-from c = omega (arith, c.requires.next)

pub has-requires-clause-below : goal.has-requires-clause-below
has-requires-clause-below c =
    let g = c.args.plan.now.marks.circuit.now.aig in
    let place : GatePlace g c.args.var c.args.gate = gate_place g c.args.var c.args.gate c.requires.there in
    place.below

pub returns-then-has : goal.returns-then-has
returns-then-has c =
    let k = c.args.plan.now.marks in
    c.member_value.ensures ∙ sym (start-member k.circuit.now.aig k.set.now c.args.var (sym c.has.ensures ∙ c.if-has.true))

pub returns-else-has : goal.returns-else-has
returns-else-has c =
    let k = c.args.plan.now.marks in
    let g = k.circuit.now.aig in
    let place : GatePlace g c.args.var c.args.gate = gate_place g c.args.var c.args.gate c.requires.there in
    start-outside g k.set.now c.args.var place.from (sym c.has.ensures ∙ c.if-has.false)
