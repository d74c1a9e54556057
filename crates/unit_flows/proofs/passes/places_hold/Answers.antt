use Rattle.std.proofs.Common.{◌≡◌, ◌<◌, ◌+◌, ◌∙◌, ◌&&◌, not, ℕ, false, length, slice_index_or, arith, refl, ap, subst}
use Rattle.aig_graph.specs.Marking.{mark_at}
use Rattle.aig_graph.specs.Graph.{Graph, first_latch}
use Rattle.unit_flows.specs.Units.{nth_flow}
use Rattle.unit_flows.proofs.FrameLaws.{leaving-long}
use Rattle.unit_flows.proofs.PlaceLaws.{AreSeen, seen-more, latch-place, gate-place}
use Rattle.unit_flows.proofs.passes.places_hold.Goals as goal

pub bounds-leaving-place : goal.bounds-leaving-place
bounds-leaving-place c =
    let latches : length c.latches-latches.result.now ≡ length c.args.frame.now.circuit.now.aig.latches = ap length (c.latches-latches.ensures.value ∙ ap (λ (g : Graph). g.latches) c.aig.ensures.value) in
    omega (arith, latches, ap length c.as_slice-leaving.ensures.value, leaving-long c.args.frame.now.circuit.now c.args.frame.now.keep.now c.args.frame.now.leaving.items c.args.frame.now.leaving_are)

pub loop-place-preserved : goal.loop-place-preserved
loop-place-preserved c =
    seen-more _ _ _ _ _ _ _ _ _ _ _ _ _ _ _ _ _ _ c.loop-place.invariant
    (latch-place c.args.frame.now.circuit.now c.args.frame.now.keep.now c.args.flows.now c.args.went.now c.args.before.now c.args.after.now c.latches-latches.result.now c.loop-place.place c.index-latches-place.result
    c.is_known-known.result (slice_index_or c.as_slice-leaving.result.now c.loop-place.place false) (slice_index_or c.args.after.now c.loop-place.place false)
    (c.is_known-known.result && slice_index_or c.args.after.now c.loop-place.place false) c.as_slice-leaving.result.now
    (c.latches-latches.ensures.value ∙ ap (λ (g : Graph). g.latches) c.aig.ensures.value) c.loop-place-test.true c.index-latches-place.is c.is_known-known.ensures
    (c.as_slice-leaving.ensures.value ∙ c.args.frame.now.leaving_are) refl refl refl)
    c.seen_with-seen.ensures.holds c.seen_with-seen.ensures.arrived c.seen_with-seen.ensures.crossed

pub bounds-leaving-place-in-loop-k : goal.bounds-leaving-place-in-loop-k
bounds-leaving-place-in-loop-k c =
    let latches : length c.latches-latches.result.now ≡ length c.args.frame.now.circuit.now.aig.latches = ap length (c.latches-latches.ensures.value ∙ ap (λ (g : Graph). g.latches) c.aig.ensures.value) in
    omega (arith, latches, c.passing_gates-passes.ensures.len, ap length c.as_slice-leaving.ensures.value, leaving-long c.args.frame.now.circuit.now c.args.frame.now.keep.now c.args.frame.now.leaving.items c.args.frame.now.leaving_are)

pub loop-k-preserved : goal.loop-k-preserved
loop-k-preserved c =
    let latches : length c.latches-latches.result.now ≡ length c.args.frame.now.circuit.now.aig.latches = ap length (c.latches-latches.ensures.value ∙ ap (λ (g : Graph). g.latches) c.aig.ensures.value) in
    let n : ℕ = length c.latches-latches.result.now in
    let k : ℕ = c.loop-k.k in
    let next : n + k + 1 ≡ n + (k + 1) = omega arith in
    let within : k < length c.args.frame.now.circuit.now.aig.gates = omega (arith, c.loop-k-test.true, c.passing_gates-passes.ensures.len) in
    subst (λ (m : ℕ). AreSeen c.args.frame.now.circuit.now c.args.frame.now.keep.now c.args.flows.now c.args.went.now (mark_at (first_latch c.args.frame.now.circuit.now.aig) c.args.before.now) (mark_at (first_latch c.args.frame.now.circuit.now.aig) c.args.after.now)
    m c.seen_with-seen-in-loop-k.result.arrived c.seen_with-seen-in-loop-k.result.crossed c.seen_with-seen-in-loop-k.result.holds) next
    (seen-more _ _ _ _ _ _ _ _ _ _ _ _ _ _ _ _ _ _ c.loop-k.invariant
    (gate-place c.args.frame.now.circuit.now c.args.frame.now.keep.now c.args.flows.now c.args.went.now c.args.before.now c.args.after.now k n (nth_flow c.args.flows.now k)
    (slice_index_or c.passing_gates-passes.result.now k false) (slice_index_or c.as_slice-leaving.result.now (n + k) false) (slice_index_or c.args.before.now (n + k) false) (slice_index_or c.args.after.now (n + k) false)
    ((slice_index_or c.passing_gates-passes.result.now k false && not (slice_index_or c.args.before.now (n + k) false)) && slice_index_or c.args.after.now (n + k) false)
    c.as_slice-leaving.result.now latches within refl (c.passing_gates-passes.ensures.each k within) (c.as_slice-leaving.ensures.value ∙ c.args.frame.now.leaving_are) refl refl refl refl)
    c.seen_with-seen-in-loop-k.ensures.holds c.seen_with-seen-in-loop-k.ensures.arrived c.seen_with-seen-in-loop-k.ensures.crossed)
