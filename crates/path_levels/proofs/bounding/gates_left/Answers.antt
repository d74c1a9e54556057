use Rattle.std.proofs.Common.{ℕ, ◌∙◌, map, ap, List}
use Rattle.std.specs.List.{enumerate_from}
use Rattle.std.proofs.lemmas.List.{take_all}
use Rattle.std.proofs.lemmas.List.FromFn.{length-enumerate_from}
use Rattle.aig_graph.specs.Marking.{mark_at}
use Rattle.aig_graph.specs.declared.graph.Gate.{Gate}
use Rattle.path_levels.specs.Bounded.{gate_left}
use Rattle.path_levels.proofs.MarkedLaws.{left-more}
use Rattle.path_levels.proofs.bounding.gates_left.Goals as goal

pub loop-k-preserved : goal.loop-k-preserved
loop-k-preserved c =
    left-more (mark_at c.args.first c.args.barred.now) c.args.first c.loop-k.k c.index-gates-k.result c.gate_left.result c.args.gates.now c.loop-k.left.items c.push.new.self.items c.mark_at.result
    c.loop-k-test.true c.index-gates-k.is c.loop-k.invariant c.in_ok-push.ensures.items c.mark_at.ensures c.gate_left.ensures

pub returns : goal.returns
returns c =
    c.loop-k.invariant
    ∙ ap (λ (es : List (ℕ × Gate)). map (λ (e : ℕ × Gate). gate_left (mark_at c.args.first c.args.barred.now e.0) e.1) es)
    (take_all c.loop-k.k (enumerate_from c.args.first c.args.gates.now) (rw length-enumerate_from c.loop-k-test.false))
