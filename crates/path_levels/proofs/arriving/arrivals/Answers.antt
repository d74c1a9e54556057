use Rattle.std.proofs.Common.{ℕ, ◌+◌, ◌≡◌, ◌∙◌, length, ap, arith}
use Rattle.aig_graph.specs.Tables.{table}
use Rattle.aig_graph.specs.Graph.{first_latch}
use Rattle.path_levels.specs.Arrivals.{arrival}
use Rattle.path_levels.proofs.EntryLaws.{entries-low, gate-more}
use Rattle.path_levels.proofs.ArrivalLaws.{arrival-before, arrival-bound, arrival-gate}
use Rattle.path_levels.proofs.arriving.arrivals.Goals as goal

pub loop-gate-init : goal.loop-gate-init
loop-gate-init c =
    let g = c.args.aig.now in
    let none : length g.latches ≡ length g.latches + 0 = omega arith in
    c.in_ok-arrivals.ensures ∙ ap (λ (n : ℕ). table (first_latch g) n (arrival g)) none

pub entry_above-arrival-requires : goal.entry_above-arrival-requires
entry_above-arrival-requires c =
    let g = c.args.aig.now in
    entries-low (first_latch g) c.first_latch-first.result (length g.latches + c.loop-gate.gate-index) _ (arrival g) c.loop-gate.arrivals.items c.as_slice.result.now
    c.first_latch-first.ensures.value c.loop-gate.invariant c.as_slice.ensures.value (arrival-bound g c.gates-gate-items.ensures.graph)

pub loop-gate-preserved : goal.loop-gate-preserved
loop-gate-preserved c =
    let g = c.args.aig.now in
    let n : ℕ = length g.latches + c.loop-gate.gate-index in
    let more : n + 1 ≡ length g.latches + (c.loop-gate.gate-index + 1) = omega arith in
    gate-more g (first_latch g) c.first_latch-first.result n c.loop-gate.gate-index c.entry_above-arrival.result (arrival g) c.gate-item.result c.gates-gate-items.result.now
    c.loop-gate.arrivals.items c.as_slice.result.now c.push.new.self.items
    c.gates-gate-items.ensures.graph (arrival-gate g c.gates-gate-items.ensures.graph) (arrival-before g) c.first_latch-first.ensures.value (omega arith) c.gates-gate-items.ensures.value c.loop-gate-test.true c.gate-item.is
    c.loop-gate.invariant c.as_slice.ensures.value c.in_ok-push.ensures.items c.entry_above-arrival.ensures
    ∙ ap (λ (m : ℕ). table (first_latch g) m (arrival g)) more
