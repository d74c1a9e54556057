use Rattle.std.proofs.Common.{◌≡◌, ◌<◌, ◌+◌, ℕ, length, slice_index, arith, ap, sym, ◌∙◌, subst}
use Rattle.aig_graph.specs.Graph.{Graph, first_latch, first_gate}
use Rattle.unit_flows.specs.Units.{nth_flow, IsBalancedBefore}
use Rattle.unit_flows.proofs.FrameLaws.{cut-same, gate-read, gate-there, not-both}
use Rattle.unit_flows.proofs.OffLaws.{all-more}
use Rattle.unit_flows.proofs.passes.gates_hold.Goals as goal
use Rattle.unit_flows.proofs.passes.gates_hold.Goals.{else-passes-k-via-then-passes-k+else-not-is_cut_at, else-passes-k-via-else-passes-k}

pub is_cut_at-requires-clause-gate : goal.is_cut_at-requires-clause-gate
is_cut_at-requires-clause-gate c =
    gate-there c.args.frame.now.circuit.now.aig c.gates-gates.result.now c.loop-k.k _ c.index-gates-k.result c.aig-aig.ensures.graph
    (c.gates-gates.ensures.value ∙ ap (λ (g : Graph). g.gates) c.aig-aig.ensures.value) c.loop-k-test.true c.index-gates-k.is
    (ap (λ (n : ℕ). n + c.loop-k.k) (c.first_gate-first_gate.ensures.value ∙ ap first_gate c.aig-aig.ensures.value))

pub loop-k-preserved : goal.loop-k-preserved
loop-k-preserved c =
    let g : Graph = c.args.frame.now.circuit.now.aig in
    let k : ℕ = c.loop-k.k in
    let aig : c.aig-aig.result.now ≡ c.args.frame.now.circuit.now.aig = c.aig-aig.ensures.value in
    let gates : c.gates-gates.result.now ≡ c.args.frame.now.circuit.now.aig.gates = c.gates-gates.ensures.value ∙ ap (λ (h : Graph). h.gates) aig in
    let latches : length c.latches-latches.result.now ≡ length c.args.frame.now.circuit.now.aig.latches = ap length (c.latches-latches.ensures.value ∙ ap (λ (h : Graph). h.latches) aig) in
    let first : c.first_latch-first.result ≡ first_latch c.args.frame.now.circuit.now.aig = c.first_latch-first.ensures.value ∙ ap first_latch aig in
    let begin : c.first_gate-first_gate.result ≡ first_gate c.args.frame.now.circuit.now.aig = c.first_gate-first_gate.ensures.value ∙ ap first_gate aig in
    let at : c.first_gate-first_gate.result + c.loop-k.k ≡ first_gate c.args.frame.now.circuit.now.aig + c.loop-k.k = ap (λ (n : ℕ). n + c.loop-k.k) begin in
    let within : c.loop-k.k < length c.args.frame.now.circuit.now.aig.gates = omega (arith, c.loop-k-test.true, ap length gates) in
    all-more _ _ c.loop-k.invariant (record {
      balanced = subst (λ (n : ℕ). IsBalancedBefore (nth_flow c.args.flows.now c.loop-k.k) (slice_index c.args.came.now (n + c.loop-k.k))) latches (c.gives_no_more.ensures c.if-not-gives_no_more.false);
      cut = λ passes. elim c.else-passes-k.branch [
        | else-passes-k-via-then-passes-k+else-not-is_cut_at w ↦
            cut-same _ _ _ _ _ _ _ _ c.args.before.now c.args.after.now first begin at
            (gate-read c.args.frame.now.circuit.now.aig c.gates-gates.result.now c.loop-k.k w.index-gates-k.result gates c.loop-k-test.true w.index-gates-k.is)
            (w.is_cut_at.ensures w.if-not-is_cut_at.false)
        | else-passes-k-via-else-passes-k w ↦ absurd (not-both _ _ passes (sym (c.passing_gates-passes.ensures.each c.loop-k.k within)) w.if-passes-k.false)
      ];
    })
