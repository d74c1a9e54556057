use Rattle.std.proofs.Common.{◌≡◌, ◌<◌, ◌+◌, ◌∙◌, ℕ, Bool, false, length, slice_index_or, arith, refl, ap, sym, Vec, Global, vec_capacity, vec_len}
use Rattle.aig_graph.specs.Marking.{mark_at}
use Rattle.aig_graph.specs.Graph.{Graph, first_latch, first_gate}
use Rattle.unit_flows.specs.Shown.{is_off}
use Rattle.unit_flows.proofs.OffLaws.{off-start, off-here, off-pass, off-fail}
use Rattle.unit_flows.proofs.judging.off_marks.Goals as goal
use Rattle.unit_flows.proofs.judging.off_marks.Goals.{then-is_off, else-is_off}

pub loop-k-init : goal.loop-k-init
loop-k-init c = record {
  few = omega (arith, c.in_ok-vars.ensures.len);
  room = c.in_ok-vars.ensures.capacity;
  listed = c.in_ok-vars.ensures.items ∙ sym (off-start c.args.frame.now.circuit.now c.args.frame.now.keep.now (mark_at (first_latch c.args.frame.now.circuit.now.aig) c.args.before.now));
}

pub loop-k-preserved : goal.loop-k-preserved
loop-k-preserved c =
    let begin : c.first_gate-first_gate.result ≡ first_gate c.args.frame.now.circuit.now.aig = c.first_gate-first_gate.ensures.value ∙ ap first_gate c.aig-aig.ensures.value in
    let latches : length c.latches-latches.result.now ≡ length c.args.frame.now.circuit.now.aig.latches = ap length (c.latches-latches.ensures.value ∙ ap (λ (g : Graph). g.latches) c.aig-aig.ensures.value) in
    let test : ℕ → Bool = is_off c.args.frame.now.circuit.now c.args.frame.now.keep.now (mark_at (first_latch c.args.frame.now.circuit.now.aig) c.args.before.now) in
    let at : c.first_gate-first_gate.result + c.loop-k.k ≡ first_gate c.args.frame.now.circuit.now.aig + c.loop-k.k = ap (λ (n : ℕ). n + c.loop-k.k) begin in
    let within : c.loop-k.k < length c.args.frame.now.circuit.now.aig.gates = omega (arith, c.loop-k-test.true, c.passing_gates-passes.ensures.len) in
    let here = ap test at ∙ off-here c.args.frame.now.circuit.now c.args.frame.now.keep.now c.args.before.now c.loop-k.k (length c.latches-latches.result.now) (slice_index_or c.passing_gates-passes.result.now c.loop-k.k false)
    (slice_index_or c.args.before.now (length c.latches-latches.result.now + c.loop-k.k) false) latches (c.passing_gates-passes.ensures.each c.loop-k.k within) refl in
    let items = λ (vars : Vec ℕ Global). vars.items in
    let len = λ (vars : Vec ℕ Global). vec_len vars in
    let room = λ (vars : Vec ℕ Global). vec_capacity vars in
    elim c.if-is_off.branch [
      | then-is_off w ↦ record {
        few = omega (arith, c.loop-k.invariant.few, w.push_reserved.ensures.len, ap len w.vars-is);
        room = omega (arith, c.loop-k.invariant.room, w.push_reserved.ensures.capacity, ap room w.vars-is);
        listed = off-pass test (first_gate c.args.frame.now.circuit.now.aig) c.loop-k.k (c.first_gate-first_gate.result + c.loop-k.k) c.loop-k.vars.items c.if-is_off.vars.items at
            (here ∙ w.if-is_off.true) c.loop-k.invariant.listed (ap items w.vars-is ∙ w.push_reserved.ensures.items);
      }
      | else-is_off w ↦ record {
        few = omega (arith, c.loop-k.invariant.few, ap len w.vars-is);
        room = omega (arith, c.loop-k.invariant.room, ap room w.vars-is);
        listed = off-fail test (first_gate c.args.frame.now.circuit.now.aig) c.loop-k.k (c.first_gate-first_gate.result + c.loop-k.k) c.loop-k.vars.items c.if-is_off.vars.items at
            (here ∙ w.if-is_off.false) c.loop-k.invariant.listed (ap items w.vars-is);
      }
    ]
