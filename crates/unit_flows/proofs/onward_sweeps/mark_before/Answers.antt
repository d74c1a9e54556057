use Rattle.std.proofs.Common.{◌+◌, ◌∙◌, ℕ, Bool, IsTrue, length, slice_index, ap, sym, subst, refl}
use Rattle.aig_graph.specs.Graph.{Graph, first_latch, first_gate}
use Rattle.unit_flows.specs.Units.{nth_flow}
use Rattle.unit_flows.specs.Onward.{IsFuller}
use Rattle.unit_flows.proofs.MarkLaws.{within-before_at}
use Rattle.unit_flows.proofs.onward_sweeps.mark_before.Goals as goal

pub returns-clause-within : goal.returns-clause-within
returns-clause-within c = λ b a ys left within.
    let first = c.first_latch.ensures.value ∙ ap first_latch c.aig-aig.ensures.value in
    let begin = c.first_gate.ensures.value ∙ ap first_gate c.aig-aig.ensures.value in
    let latches = ap length (c.latches.ensures.value ∙ ap (λ (g : Graph). g.latches) c.aig-aig.ensures.value) in
    within-before_at _ _ _ _ c.args.before.now c.mark_if.new.marks ys c.is_fuller-is_left.result b a first (ap (λ (n : ℕ). n + c.args.k) begin) within c.mark_if.ensures
    (λ t. left (subst (λ (n : ℕ). IsFuller (nth_flow c.args.flows.now c.args.k) (slice_index c.args.came.now (n + c.args.k))) latches (c.is_fuller-is_left.ensures (subst (λ (x : Bool). IsTrue x) (sym t) refl))))
