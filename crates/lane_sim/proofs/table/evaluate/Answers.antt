use Rattle.std.proofs.Common.{◌≡◌, ◌+◌, ◌<◌, ap, arith, length}
use Rattle.aig_graph.specs.Graph.{first_gate}
use Rattle.lane_sim.proofs.TableLaws.{read_at, HoldsBelow-gate}
use Rattle.lane_sim.proofs.table.evaluate.Goals as goal

pub loop-place-preserved : goal.loop-place-preserved
loop-place-preserved c = λ k t s h holds.
    let gates = c.gates-gate-items.ensures.value in
    let at = read_at c.args.aig.now.gates c.gates-gate-items.result.now c.loop-place.place c.gate-item.result gates c.loop-place-test.true c.gate-item.is in
    let place : 1 + c.inputs.result + length c.latches.result.now + c.loop-place.place ≡ first_gate c.args.aig.now + c.loop-place.place = omega (arith, c.inputs.ensures.value, ap length c.latches.ensures.value) in
    let room : first_gate c.args.aig.now + c.loop-place.place < length c.loop-place.table = omega (arith, c.loop-place.auto.table, c.requires, c.loop-place-test.true, ap length gates) in
    rw place (HoldsBelow-gate c.args.aig.now c.inputs.ensures.graph s c.loop-place.table k t c.loop-place.place c.gate-item.result c.gate_lanes.result at (c.loop-place.invariant k t s h holds) room (c.gate_lanes.ensures k h))

pub gate_lanes-requires-clause-first : goal.gate_lanes-requires-clause-first
gate_lanes-requires-clause-first c =
    let gates = c.gates-gate-items.ensures.value in
    let at = read_at c.args.aig.now.gates c.gates-gate-items.result.now c.loop-place.place c.gate-item.result gates c.loop-place-test.true c.gate-item.is in
    let here = c.inputs.ensures.graph.gates c.loop-place.place c.gate-item.result at in
    omega (arith, here.below, c.loop-place.auto.table, c.requires, c.loop-place-test.true, ap length gates)

pub gate_lanes-requires-clause-second : goal.gate_lanes-requires-clause-second
gate_lanes-requires-clause-second c =
    let gates = c.gates-gate-items.ensures.value in
    let at = read_at c.args.aig.now.gates c.gates-gate-items.result.now c.loop-place.place c.gate-item.result gates c.loop-place-test.true c.gate-item.is in
    let here = c.inputs.ensures.graph.gates c.loop-place.place c.gate-item.result at in
    omega (arith, here.ordered, here.below, c.loop-place.auto.table, c.requires, c.loop-place-test.true, ap length gates)
