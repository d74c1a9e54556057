use Rattle.std.proofs.Common.{ap, sym, ◌∙◌, ◌+◌, not, ◌&&◌, ◌<◌, ℕ, Bool, length}
use Rattle.std.specs.List.{enumerate_from}
use Rattle.std.proofs.lemmas.List.FromFn.{length-enumerate_from, get_or-enumerate_from}
use Rattle.aig_graph.specs.declared.graph.Gate.{Gate}
use Rattle.aig_graph.specs.Border.{is_fan_in}
use Rattle.aig_graph.specs.Marking.{mark_at}
use Rattle.aig_graph.proofs.MarkingLaws.{Marks-same, Marks-more, Marks-all}
use Rattle.aig_graph.proofs.reading.mark_gates.Goals as goal

pub loop-k-preserved : goal.loop-k-preserved
loop-k-preserved c =
    let items = enumerate_from c.args.first_gate c.args.gates.now in
    let long : c.loop-k.k < length items = rw length-enumerate_from c.loop-k-test.true in
    Marks-more (λ (v : ℕ) (e : ℕ × Gate). not (mark_at c.args.first c.args.inside.now e.0) && is_fan_in v e.1) items c.loop-k.k
    (c.args.first_gate + c.loop-k.k, c.index-gates-k.result) c.args.first _ _ _ long
    (ap (λ (gate : Gate). (c.args.first_gate + c.loop-k.k, gate)) c.index-gates-k.is ∙ sym (get_or-enumerate_from c.args.first_gate c.args.gates.now c.loop-k.k (c.args.first_gate + c.loop-k.k, c.index-gates-k.result) c.loop-k-test.true))
    c.loop-k.invariant
    (Marks-same _ _ _ _ _ c.mark_gate.ensures (λ v. ap (λ (b : Bool). not b && is_fan_in v c.index-gates-k.result) c.mark_at.ensures))

pub returns : goal.returns
returns c = Marks-all (λ (v : ℕ) (e : ℕ × Gate). not (mark_at c.args.first c.args.inside.now e.0) && is_fan_in v e.1) _ c.loop-k.k c.args.first _ _ (rw length-enumerate_from c.loop-k-test.false) c.loop-k.invariant
