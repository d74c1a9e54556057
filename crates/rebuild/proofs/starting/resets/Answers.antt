use Rattle.std.proofs.Common.{◌∙◌, ◌+◌, ap, sym, arith, refl, List, length}
use Rattle.aig_graph.proofs.FoldingLaws.{gate_at-first_gate}
use Rattle.aig_graph.specs.Graph.{IsGateAt, first_gate}
use Rattle.aig_graph.specs.declared.graph.Reset.{Reset}
use Rattle.rebuild.proofs.BuildLaws.{gate-there}
use Rattle.rebuild.proofs.StartLaws.{start_law, start_reset-gate}
use Rattle.rebuild.specs.Starting.{start_reset}
use Rattle.aig_graph.proofs.TableLaws.{entry, length-table, table-none, whole-table}
use Rattle.rebuild.proofs.starting.resets.Goals as goal

pub loop-gate-init : goal.loop-gate-init
loop-gate-init c = c.in_ok-resets.ensures.items ∙ sym (table-none (first_gate c.args.aig.now) (start_reset c.args.aig.now c.args.keep.now))

pub gate_reset-reset-requires-clause-so_far : goal.gate_reset-reset-requires-clause-so_far
gate_reset-reset-requires-clause-so_far c =
    whole-table (first_gate c.args.aig.now) c.loop-gate.gate-index (start_reset c.args.aig.now c.args.keep.now) c.as_slice.result.now c.loop-gate.resets.items c.as_slice.ensures.value c.loop-gate.invariant

pub gate_reset-reset-requires-clause-first : goal.gate_reset-reset-requires-clause-first
gate_reset-reset-requires-clause-first c =
    let g = c.args.aig.now in
    let there = gate-there g g c.gates-gates.result.now c.loop-gate.gate-index c.gate-item.result c.gates-gates.ensures.value refl c.loop-gate-test.true c.gate-item.is in
    let at : IsGateAt (first_gate g + c.loop-gate.gate-index) c.gate-item.result = c.gates-gates.ensures.graph.gates c.loop-gate.gate-index c.gate-item.result there in
    omega (arith, ap (λ (xs : List Reset). length xs) (c.as_slice.ensures.value ∙ c.loop-gate.invariant), length-table (first_gate g) c.loop-gate.gate-index (start_reset g c.args.keep.now), at.below)

pub gate_reset-reset-requires-clause-second : goal.gate_reset-reset-requires-clause-second
gate_reset-reset-requires-clause-second c =
    let g = c.args.aig.now in
    let there = gate-there g g c.gates-gates.result.now c.loop-gate.gate-index c.gate-item.result c.gates-gates.ensures.value refl c.loop-gate-test.true c.gate-item.is in
    let at : IsGateAt (first_gate g + c.loop-gate.gate-index) c.gate-item.result = c.gates-gates.ensures.graph.gates c.loop-gate.gate-index c.gate-item.result there in
    omega (arith, ap (λ (xs : List Reset). length xs) (c.as_slice.ensures.value ∙ c.loop-gate.invariant), length-table (first_gate g) c.loop-gate.gate-index (start_reset g c.args.keep.now), at.below, at.ordered)

pub loop-gate-preserved : goal.loop-gate-preserved
loop-gate-preserved c =
    let g = c.args.aig.now in
    let held = c.args.keep.now in
    let k = c.loop-gate.gate-index in
    let there = gate-there g g c.gates-gates.result.now k c.gate-item.result c.gates-gates.ensures.value refl c.loop-gate-test.true c.gate-item.is in
    entry (first_gate g) k (start_reset g held) c.loop-gate.resets.items c.push.new.self.items c.gate_reset-reset.result c.loop-gate.invariant c.in_ok-push.ensures.items
    (c.gate_reset-reset.ensures ∙ sym (start_reset-gate g held c.gates-gates.ensures.graph (first_gate g + k) c.gate-item.result (gate_at-first_gate g k ∙ there)))

pub returns-clause-start : goal.returns-clause-start
returns-clause-start c = start_law c.args.aig.now c.args.keep.now c.gates-gates.ensures.graph
